-- What a sector device is, and what its calls do to it.
use Rattle.std.specs.Prelude.{◌≡◌, ℕ, ◌^◌, ◌<◌, ◌≤◌, List, [], map, length, Ok, Err, slice_index_or, slice_set}
use Rattle.std.specs.List.{range_with_len}
use Rattle.devices.specs.declared.fault.Fault.{Fault}
use Rattle.devices.specs.Faults.{Answer, deeper, checked, and_then, by_answer}

-- a sector: its bytes, or the fault that stands in their place
pub data Sector : Type 0 where
  live : List ℕ → Sector
  faulty : Fault → Sector

-- a device: the size of its sectors in bytes, and the sectors from 0 on
pub record DeviceMeaning : Type 0 where
  pub size : ℕ
  pub sectors : List Sector

-- a live sector has as many bytes as a sector has
abbrev pub SectorFits : ℕ → Sector → Type 0
SectorFits size (live bytes) = length bytes ≡ size
SectorFits size (faulty f) = Unit {0}

-- the sector of a number; of a number past the end nothing is said by it
abbrev pub sector_at : DeviceMeaning → ℕ → Sector
sector_at m sector = slice_index_or m.sectors sector (live [])

-- what holds of every device: a size of 1 to 4096, a count below 2 ^ 32, whole sectors
pub record Sound (m : DeviceMeaning) : Type 0 where
  pub some : 1 ≤ m.size
  pub most : m.size ≤ 4096
  pub countable : length m.sectors < 2 ^ 32
  pub whole : (sector : ℕ) → sector < length m.sectors → SectorFits m.size (sector_at m sector)

-- what a sector answers by itself
abbrev pub standing : Sector → Answer
standing (live bytes) = Ok tt
standing (faulty f) = Err f

-- the bytes of a sector, none where a fault stands
abbrev pub bytes_of : Sector → List ℕ
bytes_of (live bytes) = bytes
bytes_of (faulty f) = []

-- a sector as a layer shows it: a standing fault is passed up
abbrev pub shown : Sector → Sector
shown (live bytes) = live bytes
shown (faulty f) = faulty (deeper f)

-- what a call with a buffer of this length answers
abbrev pub answer : DeviceMeaning → ℕ → ℕ → Answer
answer m sector len = and_then (checked (length m.sectors) m.size sector len) (standing (sector_at m sector))

-- the device with other bytes in one sector
abbrev pub written : DeviceMeaning → ℕ → List ℕ → DeviceMeaning
written m sector bytes = record { size = m.size; sectors = slice_set m.sectors sector (live bytes) }

-- the device with other bytes in one sector, where a call was accepted
abbrev pub written_if : Answer → DeviceMeaning → ℕ → List ℕ → DeviceMeaning
written_if call m sector bytes = by_answer call (written m sector bytes) m

-- the buffer after a read
abbrev pub after_read : DeviceMeaning → ℕ → List ℕ → List ℕ
after_read m sector buffer = by_answer (answer m sector (length buffer)) (bytes_of (sector_at m sector)) buffer

-- the device after a write
abbrev pub after_write : DeviceMeaning → ℕ → List ℕ → DeviceMeaning
after_write m sector buffer = written_if (answer m sector (length buffer)) m sector buffer

-- the device whose sectors are made by a function of their number, from 0 to below the count
abbrev pub device_of : ℕ → ℕ → (ℕ → Sector) → DeviceMeaning
device_of size count sector = record { size = size; sectors = map sector (range_with_len 0 count) }
