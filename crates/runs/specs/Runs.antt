-- Calls on a volume one after another, by what the contracts of the calls say.
use Rattle.std.specs.Prelude.{ℕ, List, [], ◌∷◌, length, Ok, Err, Result}
use Rattle.devices.specs.declared.fault.Fault.{Fault}
use Rattle.devices.specs.Faults.{Answer}
use Rattle.devices.specs.Device.{sector_at, answer, bytes_of}
use Rattle.modes.specs.Mode.{ModeKind}
use Rattle.volumes.specs.declared.fault.CallName.TheVariants.{Open as OpenCall, Begin as BeginCall, Step as StepCall}
use Rattle.volumes.specs.Faults.{named}
use Rattle.volumes.specs.Volume.{VolumeModel, open_answer, after_open, begin_answer, after_begin, step_answer, after_step, volume_of, after_write_to}
use Rattle.runs.specs.History.{Event, opens, reads, writes, begins, steps, reports, History}

-- a call: open with a key, read a sector into so many bytes, write bytes to a sector, begin with a key, step, report
pub data Call : Type 0 where
  opening : List ℕ → Call
  reading : ℕ → ℕ → Call
  writing : ℕ → List ℕ → Call
  beginning : List ℕ → Call
  stepping : Call
  reporting : Call

-- the volume after a call
abbrev pub after : ModeKind → VolumeModel → Call → VolumeModel
after k v (opening key) = after_open k v key
after k v (reading i len) = v
after k v (writing i bytes) = after_write_to k v i bytes
after k v (beginning key) = after_begin k v key
after k v stepping = after_step k v
after k v reporting = v

-- an accepted read, with the bytes that it gave
abbrev pub with_bytes : Answer → List ℕ → Result (List ℕ) Fault
with_bytes (Ok u) bytes = Ok bytes
with_bytes (Err f) bytes = Err f

-- a call with its answer
abbrev pub event : ModeKind → VolumeModel → Call → Event
event k v (opening key) = opens key (named OpenCall (open_answer k v key))
event k v (reading i len) = reads i len (with_bytes (answer (volume_of k v) i len) (bytes_of (sector_at (volume_of k v) i)))
event k v (writing i bytes) = writes i bytes (answer (volume_of k v) i (length bytes))
event k v (beginning key) = begins key (named BeginCall (begin_answer k v key))
event k v stepping = steps (named StepCall (step_answer v))
event k v reporting = reports v.phase

-- the volume after a list of calls
abbrev pub run : ModeKind → VolumeModel → List Call → VolumeModel
run k v [] = v
run k v (x ∷ xs) = run k (after k v x) xs

-- the calls with their answers, put before the history h
abbrev pub history : ModeKind → VolumeModel → List Call → History → History
history k v [] h = h
history k v (x ∷ xs) h = history k (after k v x) xs (event k v x ∷ h)
