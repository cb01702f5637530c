-- The rules of reads and writes, in the words of the subject.
use Rattle.std.specs.Prelude.{◌≡◌, ℕ, zero, suc, ◌+◌, ◌<◌, ◌≤◌, min, List, length, Ok, Err, ◌≢◌}
use Rattle.devices.specs.declared.fault.Fault.{Fault}
use Rattle.devices.specs.declared.fault.Reason.TheVariants.{NoSuchSector, WrongLength}
use Rattle.devices.specs.Faults.{own, deeper}
use Rattle.devices.specs.Device.{DeviceMeaning, live, faulty, sector_at, answer, after_read, after_write}

-- a call of one sector with one buffer
pub record CallRules (m : DeviceMeaning) (sector : ℕ) (buffer : List ℕ) : Type 0 where
  -- refused for the number, then for the length, then for a standing fault, and for nothing else
  pub past : length m.sectors ≤ sector → answer m sector (length buffer) ≡ Err (own NoSuchSector sector)
  pub misfit : sector < length m.sectors → (length buffer ≢ m.size) → answer m sector (length buffer) ≡ Err (own WrongLength sector)
  pub stands : sector < length m.sectors → length buffer ≡ m.size → (f : Fault) → sector_at m sector ≡ faulty f → answer m sector (length buffer) ≡ Err f
  pub serves : sector < length m.sectors → length buffer ≡ m.size → (bytes : List ℕ) → sector_at m sector ≡ live bytes → answer m sector (length buffer) ≡ Ok tt
  -- refused, it changes nothing
  pub buffer_stays : (f : Fault) → answer m sector (length buffer) ≡ Err f → after_read m sector buffer ≡ buffer
  pub device_stays : (f : Fault) → answer m sector (length buffer) ≡ Err f → after_write m sector buffer ≡ m
  -- accepted, a read gives the sector's bytes and a write puts the buffer there
  pub reads : (bytes : List ℕ) → sector_at m sector ≡ live bytes → answer m sector (length buffer) ≡ Ok tt → after_read m sector buffer ≡ bytes
  pub writes : sector < length m.sectors → answer m sector (length buffer) ≡ Ok tt → sector_at (after_write m sector buffer) sector ≡ live buffer
  -- a write changes no other sector, and neither size, count nor standing faults
  pub others : (i : ℕ) → (i ≢ sector) → sector_at (after_write m sector buffer) i ≡ sector_at m i
  pub faults : (i : ℕ) (f : Fault) → sector_at m i ≡ faulty f → sector_at (after_write m sector buffer) i ≡ faulty f
  pub size : (after_write m sector buffer).size ≡ m.size
  pub count : length (after_write m sector buffer).sectors ≡ length m.sectors

-- a fault passed up through so many layers
unfoldable pub passed_through : ℕ → Fault → Fault
passed_through zero f = f
passed_through (suc layers) f = deeper (passed_through layers f)

-- the rules of every device and call, and of a fault that is passed up
pub record Rules : Type 0 where
  pub calls : (m : DeviceMeaning) (sector : ℕ) (buffer : List ℕ) → CallRules m sector buffer
  pub depth : (layers : ℕ) (f : Fault) → f.depth ≤ 255 → (passed_through layers f).depth ≡ min 255 (f.depth + layers)
  pub reason : (layers : ℕ) (f : Fault) → (passed_through layers f).reason ≡ f.reason
  pub sector : (layers : ℕ) (f : Fault) → (passed_through layers f).sector ≡ f.sector
