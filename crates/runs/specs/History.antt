-- What the calls on a volume and their answers say by themselves: its keys, its sweeps and its sectors' bytes.
use Rattle.std.specs.Prelude.{ℕ, ◌+◌, cond, List, [], ◌∷◌, Some, None, Ok, Err, Option, Result, ◌==◌, nat_lt}
use Rattle.devices.specs.declared.fault.Fault.{Fault}
use Rattle.devices.specs.Faults.{Answer}
use Rattle.devices.specs.Device.{DeviceMeaning, Sector, live, faulty, sector_at}
use Rattle.modes.specs.Mode.{ModeKind, Keyed}
use Rattle.modes.specs.Total.{deciphering}
use Rattle.volumes.specs.declared.phase.Phase.{Phase}
use Rattle.volumes.specs.declared.phase.Phase.TheVariants.{Closed, Open, Sweeping}
use Rattle.volumes.specs.Faults.{CallAnswer}

-- ---- calls and answers

-- a call with its answer
pub data Event : Type 0 where
  -- the key
  opens : List ℕ → CallAnswer → Event
  -- the sector and the buffer's length; accepted, the bytes that were read
  reads : ℕ → ℕ → Result (List ℕ) Fault → Event
  -- the sector and the bytes
  writes : ℕ → List ℕ → Answer → Event
  -- the key
  begins : List ℕ → CallAnswer → Event
  steps : CallAnswer → Event
  reports : Phase → Event

-- the calls on a volume from its making on, the latest first
abbrev pub History : Type 0
History = List Event

-- what an accepted call did: those that change nothing are left out
pub data Deed : Type 0 where
  opened : List ℕ → Deed
  wrote : ℕ → List ℕ → Deed
  began : List ℕ → Deed
  stepped : Deed

-- the deed of a call, if it was accepted, put before those before it
abbrev pub and_deed : Event → List Deed → List Deed
and_deed (opens key (Ok u)) before = opened key ∷ before
and_deed (opens key (Err f)) before = before
and_deed (reads i len r) before = before
and_deed (writes i bytes (Ok u)) before = wrote i bytes ∷ before
and_deed (writes i bytes (Err f)) before = before
and_deed (begins key (Ok u)) before = began key ∷ before
and_deed (begins key (Err f)) before = before
and_deed (steps (Ok u)) before = stepped ∷ before
and_deed (steps (Err f)) before = before
and_deed (reports p) before = before

-- the accepted calls of a history: accepted is not refused
abbrev pub deeds : History → List Deed
deeds [] = []
deeds (e ∷ before) = and_deed e (deeds before)

-- ---- keys and sweeps

-- the first of two that there is
abbrev pub or_else : {X : Type 0} → Option X → Option X → Option X
or_else (Some x) y = Some x
or_else None y = y

-- the key of the accepted open
abbrev pub open_key : List Deed → Option (List ℕ)
open_key [] = None
open_key (opened key ∷ before) = Some key
open_key (wrote i bytes ∷ before) = open_key before
open_key (began key ∷ before) = open_key before
open_key (stepped ∷ before) = open_key before

-- a sweep: the key of its begin, and how many steps were accepted since
pub record Sweep : Type 0 where
  pub new_key : List ℕ
  pub mark : ℕ

-- one step more for the latest sweep
abbrev pub one_more : List Sweep → List Sweep
one_more [] = []
one_more (w ∷ ws) = record { new_key = w.new_key; mark = w.mark + 1 } ∷ ws

-- the sweeps begun, the latest first
abbrev pub sweeps : List Deed → List Sweep
sweeps [] = []
sweeps (opened key ∷ before) = sweeps before
sweeps (wrote i bytes ∷ before) = sweeps before
sweeps (began key ∷ before) = record { new_key = key; mark = 0 } ∷ sweeps before
sweeps (stepped ∷ before) = one_more (sweeps before)

-- the sweep under way: the latest, until as many steps were accepted as there are sectors
abbrev pub under_way : ℕ → List Sweep → Option Sweep
under_way n [] = None
under_way n (w ∷ ws) = cond (nat_lt w.mark n) (Some w) None

-- the key of the last begin whose sweep is over
abbrev pub last_over : ℕ → List Sweep → Option (List ℕ)
last_over n [] = None
last_over n (w ∷ ws) = cond (nat_lt w.mark n) (last_over n ws) (Some w.new_key)

-- the current key: that of the last begin whose sweep is over, else the accepted open's
abbrev pub current_key : ℕ → List Deed → Option (List ℕ)
current_key n ds = or_else (last_over n (sweeps ds)) (open_key ds)

-- below the mark of the sweep under way its new key, otherwise the current one
abbrev pub key_by : Option Sweep → Option (List ℕ) → ℕ → Option (List ℕ)
key_by None current i = current
key_by (Some w) current i = cond (nat_lt i w.mark) (Some w.new_key) current

-- the key of sector i
abbrev pub key_for : ℕ → List Deed → ℕ → Option (List ℕ)
key_for n ds i = key_by (under_way n (sweeps ds)) (current_key n ds) i

-- closed without an open key, sweeping with a sweep under way, otherwise open
abbrev pub phase_by : Option (List ℕ) → Option Sweep → Phase
phase_by None w = Closed
phase_by (Some key) None = Open
phase_by (Some key) (Some w) = Sweeping w.mark

-- the phase that the accepted calls lead to
abbrev pub phase_after : ℕ → List Deed → Phase
phase_after n ds = phase_by (open_key ds) (under_way n (sweeps ds))

-- ---- bytes

-- a key for sectors of this size
abbrev pub pair : ℕ → List ℕ → Keyed
pair size key = record { key = key; size = size }

-- the bytes of the last accepted write to sector i
abbrev pub last_written : List Deed → ℕ → Option (List ℕ)
last_written [] i = None
last_written (opened key ∷ before) i = last_written before i
last_written (wrote s bytes ∷ before) i = cond (s == i) (Some bytes) (last_written before i)
last_written (began key ∷ before) i = last_written before i
last_written (stepped ∷ before) i = last_written before i

-- what a key deciphers from a live sector i
abbrev pub plain : ModeKind → ℕ → ℕ → Option (List ℕ) → Sector → Option (List ℕ)
plain k size i (Some key) (live bytes) = Some (deciphering k (pair size key) i bytes)
plain k size i (Some key) (faulty f) = None
plain k size i None x = None

-- the bytes of sector i of a volume made round `made`: those of its last accepted write, else what the accepted open's key
-- deciphers from what was stored when the volume was made
abbrev pub bytes_in : ModeKind → DeviceMeaning → List Deed → ℕ → Option (List ℕ)
bytes_in k made ds i = or_else (last_written ds i) (plain k made.size i (open_key ds) (sector_at made i))
