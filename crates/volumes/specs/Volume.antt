-- What a volume is, and what its calls do to it. Each call is defined in every state; the odd ones, as a volume that is
-- open with a mode that holds no key, are never reached.
use Rattle.std.specs.Prelude.{ℕ, ◌+◌, Bool, true, false, cond, ◌&&◌, List, length, Some, None, Ok, Err, Option, Result, ◌==◌, nat_lt, slice_set}
use Rattle.devices.specs.declared.fault.Reason.TheVariants.{WrongLength, Closed as IsClosed}
use Rattle.devices.specs.Faults.{Answer, own, deeper, and_then, by_answer}
use Rattle.devices.specs.Device.{DeviceMeaning, Sector, live, faulty, sector_at, answer, written, device_of}
use Rattle.modes.specs.declared.ModeFault.{ModeFault}
use Rattle.modes.specs.Mode.{ModeKind, Keyed}
use Rattle.modes.specs.Total.{enciphering, deciphering}
use Rattle.volumes.specs.declared.phase.Phase.{Phase}
use Rattle.volumes.specs.declared.phase.Phase.TheVariants.{Closed, Open, Sweeping}
use Rattle.volumes.specs.declared.fault.Refusal.{Refusal}
use Rattle.volumes.specs.declared.fault.Refusal.TheVariants.{Closed as NotOpen, AlreadyOpen, NoSweep, SweepUnderWay, NoSectors}
use Rattle.volumes.specs.declared.volume.Volume.{Volume}
use Rattle.volumes.specs.Faults.{key_answer, by_call}

-- a volume: its device, what its two modes hold, and its phase
pub record VolumeModel : Type 0 where
  pub device : DeviceMeaning
  pub current : Option Keyed
  pub next : Option Keyed
  pub phase : Phase

-- a volume of the code, by what its device means and its modes hold
abbrev pub view : {D M : Type 0} → (D → DeviceMeaning) → (M → Option Keyed) → Volume D M → VolumeModel
view meaning state v = record { device = meaning v.device; current = state v.current; next = state v.next; phase = v.phase }

-- a volume as it is made
abbrev pub fresh : DeviceMeaning → Option Keyed → Option Keyed → VolumeModel
fresh device current next = record { device = device; current = current; next = next; phase = Closed }

-- ---- modes

-- does a mode take sectors of so many bytes?
abbrev pub takes : Option Keyed → ℕ → Bool
takes None size = false
takes (Some s) size = size == s.size

-- a mode's answer for sector i: what it refuses is refused with 2
abbrev pub mode_answer : Result (Unit {0}) ModeFault → ℕ → Answer
mode_answer (Ok u) i = Ok tt
mode_answer (Err fault) i = Err (own WrongLength i)

-- the check that a mode takes sectors of so many bytes
abbrev pub mode_check : Option Keyed → ℕ → ℕ → Answer
mode_check s size i = cond (takes s size) (Ok tt) (Err (own WrongLength i))

-- the check that two modes do
abbrev pub both_check : Option Keyed → Option Keyed → ℕ → ℕ → Answer
both_check s t size i = and_then (mode_check s size i) (mode_check t size i)

-- what a mode makes of the bytes of sector i
abbrev pub enciphered_by : ModeKind → Option Keyed → ℕ → List ℕ → List ℕ
enciphered_by k None i bytes = bytes
enciphered_by k (Some s) i bytes = enciphering k s i bytes

-- and what it deciphers them to
abbrev pub deciphered_by : ModeKind → Option Keyed → ℕ → List ℕ → List ℕ
deciphered_by k None i bytes = bytes
deciphered_by k (Some s) i bytes = deciphering k s i bytes

-- ---- open

-- the key for sectors of the device's size
abbrev pub pair_of : VolumeModel → List ℕ → Keyed
pair_of v key = record { key = key; size = v.device.size }

-- what open answers in each phase
abbrev pub open_answer_in : Phase → ModeKind → VolumeModel → List ℕ → Result (Unit {0}) Refusal
open_answer_in Closed k v key = cond (length v.device.sectors == 0) (Err NoSectors) (key_answer (k.refusal key v.device.size))
open_answer_in Open k v key = Err AlreadyOpen
open_answer_in (Sweeping mark) k v key = Err AlreadyOpen

-- 8, then 11, then the mode's refusal
abbrev pub open_answer : ModeKind → VolumeModel → List ℕ → Result (Unit {0}) Refusal
open_answer k v key = open_answer_in v.phase k v key

-- accepted, the current mode holds the key
abbrev pub after_open : ModeKind → VolumeModel → List ℕ → VolumeModel
after_open k v key = by_call (open_answer k v key) (record { device = v.device; current = Some (pair_of v key); next = v.next; phase = Open }) v

-- ---- begin

-- what begin answers in each phase
abbrev pub begin_answer_in : Phase → ModeKind → VolumeModel → List ℕ → Result (Unit {0}) Refusal
begin_answer_in Closed k v key = Err NotOpen
begin_answer_in Open k v key = key_answer (k.refusal key v.device.size)
begin_answer_in (Sweeping mark) k v key = Err SweepUnderWay

-- 4, then 10, then the mode's refusal
abbrev pub begin_answer : ModeKind → VolumeModel → List ℕ → Result (Unit {0}) Refusal
begin_answer k v key = begin_answer_in v.phase k v key

-- accepted, the next mode holds the key, and the mark is 0
abbrev pub after_begin : ModeKind → VolumeModel → List ℕ → VolumeModel
after_begin k v key = by_call (begin_answer k v key) (record { device = v.device; current = v.current; next = Some (pair_of v key); phase = Sweeping 0 }) v

-- ---- step

-- where both modes are ready, bytes deciphered with the one and enciphered with the other
abbrev pub reciphered_if : Bool → ModeKind → Option Keyed → Option Keyed → ℕ → List ℕ → List ℕ
reciphered_if ready k current next i bytes = cond ready (enciphered_by k next i (deciphered_by k current i bytes)) bytes

-- what is left in a buffer: it stays where the first mode refuses it
abbrev pub reciphered : ModeKind → Option Keyed → Option Keyed → ℕ → List ℕ → List ℕ
reciphered k current next i bytes = reciphered_if (takes current (length bytes)) k current next i bytes

-- a sector re-enciphered for the next key; one with a standing fault stays
abbrev pub rekeyed : ModeKind → Option Keyed → Option Keyed → ℕ → Sector → Sector
rekeyed k current next i (live bytes) = live (reciphered_if (takes current (length bytes) && takes next (length bytes)) k current next i bytes)
rekeyed k current next i (faulty f) = faulty f

-- the device with sector i so re-enciphered
abbrev pub rekeyed_at : ModeKind → Option Keyed → Option Keyed → ℕ → DeviceMeaning → DeviceMeaning
rekeyed_at k current next i m = record { size = m.size; sectors = slice_set m.sectors i (rekeyed k current next i (sector_at m i)) }

-- what step answers in each phase
abbrev pub step_answer_in : Phase → Result (Unit {0}) Refusal
step_answer_in Closed = Err NotOpen
step_answer_in Open = Err NoSweep
step_answer_in (Sweeping mark) = Ok tt

-- 4, then 9
abbrev pub step_answer : VolumeModel → Result (Unit {0}) Refusal
step_answer v = step_answer_in v.phase

-- the sector at the mark re-enciphered; at the count the sweep is over, and the next key is current
abbrev pub stepped : ModeKind → VolumeModel → ℕ → VolumeModel
stepped k v mark =
    cond (nat_lt (mark + 1) (length v.device.sectors))
    (record { device = rekeyed_at k v.current v.next mark v.device; current = v.current; next = v.next; phase = Sweeping (mark + 1) })
    (record { device = rekeyed_at k v.current v.next mark v.device; current = v.next; next = v.current; phase = Open })

-- what step does in each phase
abbrev pub after_step_in : Phase → ModeKind → VolumeModel → VolumeModel
after_step_in Closed k v = v
after_step_in Open k v = v
after_step_in (Sweeping mark) k v = stepped k v mark

-- the volume after a step
abbrev pub after_step : ModeKind → VolumeModel → VolumeModel
after_step k v = after_step_in v.phase k v

-- ---- the volume as a device

-- is this the phase of a closed volume?
abbrev pub is_closed : Phase → Bool
is_closed Closed = true
is_closed Open = false
is_closed (Sweeping mark) = false

-- which of the two serves sector i in each phase
abbrev pub serving_in : Phase → Option Keyed → Option Keyed → ℕ → Option Keyed
serving_in Closed current next i = current
serving_in Open current next i = current
serving_in (Sweeping mark) current next i = cond (nat_lt i mark) next current

-- what the mode holds that serves sector i: below the mark the next, otherwise the current
abbrev pub serving : VolumeModel → ℕ → Option Keyed
serving v i = serving_in v.phase v.current v.next i

-- the check that the volume is open
abbrev pub open_check : Phase → ℕ → Answer
open_check phase i = cond (is_closed phase) (Err (own IsClosed i)) (Ok tt)

-- a sector from below as an open volume shows it
abbrev pub opened : ModeKind → Option Keyed → ℕ → Sector → Sector
opened k s i (live bytes) = live (deciphered_by k s i bytes)
opened k s i (faulty f) = faulty (deeper f)

-- sector i as the volume shows it: 4 where it is closed, 2 where the mode that serves takes no such sectors
abbrev pub volume_sector : ModeKind → VolumeModel → ℕ → Sector
volume_sector k v i =
    cond (is_closed v.phase)
    (faulty (own IsClosed i))
    (cond (takes (serving v i) v.device.size) (opened k (serving v i) i (sector_at v.device i)) (faulty (own WrongLength i)))

-- the volume as a device
abbrev pub volume_of : ModeKind → VolumeModel → DeviceMeaning
volume_of k v = device_of v.device.size (length v.device.sectors) (volume_sector k v)

-- the same volume on another device
abbrev pub with_device : VolumeModel → DeviceMeaning → VolumeModel
with_device v device = record { device = device; current = v.current; next = v.next; phase = v.phase }

-- the volume after a write: where it is accepted, the bytes are below, enciphered for their sector
abbrev pub after_write_to : ModeKind → VolumeModel → ℕ → List ℕ → VolumeModel
after_write_to k v i bytes =
    by_answer (answer (volume_of k v) i (length bytes)) (with_device v (written v.device i (enciphered_by k (serving v i) i bytes))) v
