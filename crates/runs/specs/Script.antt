-- A script: calls on a volume with what they work on and their answers, before and after it is performed.
use Rattle.std.specs.Prelude.{ℕ, List, [], ◌∷◌, length, Some, None, vec_items, Option}
use Rattle.devices.specs.Faults.{Answer}
use Rattle.devices.specs.Device.{answer, after_read}
use Rattle.modes.specs.Mode.{ModeKind}
use Rattle.volumes.specs.declared.fault.CallName.TheVariants.{Open as OpenCall, Begin as BeginCall, Step as StepCall}
use Rattle.volumes.specs.declared.phase.Phase.{Phase}
use Rattle.volumes.specs.Faults.{CallAnswer, named}
use Rattle.volumes.specs.Volume.{VolumeModel, open_answer, begin_answer, step_answer, volume_of}
use Rattle.runs.specs.declared.script.Entry.{Entry}
use Rattle.runs.specs.declared.script.Entry.TheVariants.{Open, Read, Write, Begin, Step, Report}
use Rattle.runs.specs.History.{opens, reads, writes, begins, steps, reports, History}
use Rattle.runs.specs.Runs.{Call, opening, reading, writing, beginning, stepping, reporting, with_bytes, after}

-- an entry by the bytes of its buffers
pub data Line : Type 0 where
  to_open : List ℕ → Option CallAnswer → Line
  to_read : ℕ → List ℕ → Option Answer → Line
  to_write : ℕ → List ℕ → Option Answer → Line
  to_begin : List ℕ → Option CallAnswer → Line
  to_step : Option CallAnswer → Line
  to_report : Option Phase → Line

-- the line of an entry
abbrev pub line : Entry → Line
line (Open key r) = to_open (vec_items key) r
line (Read i buffer r) = to_read i (vec_items buffer) r
line (Write i bytes r) = to_write i (vec_items bytes) r
line (Begin key r) = to_begin (vec_items key) r
line (Step r) = to_step r
line (Report r) = to_report r

-- the call of a line
abbrev pub call_of : Line → Call
call_of (to_open key r) = opening key
call_of (to_read i buffer r) = reading i (length buffer)
call_of (to_write i bytes r) = writing i bytes
call_of (to_begin key r) = beginning key
call_of (to_step r) = stepping
call_of (to_report r) = reporting

-- the calls of a script
abbrev pub calls : List Entry → List Call
calls [] = []
calls (e ∷ es) = call_of (line e) ∷ calls es

-- the event of an answered line, put before the history h
abbrev pub noted : Line → History → History
noted (to_open key (Some r)) h = opens key r ∷ h
noted (to_open key None) h = h
noted (to_read i buffer (Some r)) h = reads i (length buffer) (with_bytes r buffer) ∷ h
noted (to_read i buffer None) h = h
noted (to_write i bytes (Some r)) h = writes i bytes r ∷ h
noted (to_write i bytes None) h = h
noted (to_begin key (Some r)) h = begins key r ∷ h
noted (to_begin key None) h = h
noted (to_step (Some r)) h = steps r ∷ h
noted (to_step None) h = h
noted (to_report (Some p)) h = reports p ∷ h
noted (to_report None) h = h

-- the events of a script's entries, put before the history h
abbrev pub recorded : List Entry → History → History
recorded [] h = h
recorded (e ∷ es) h = recorded es (noted (line e) h)

-- a line once its call is made
abbrev pub answered : ModeKind → VolumeModel → Line → Line
answered k v (to_open key r) = to_open key (Some (named OpenCall (open_answer k v key)))
answered k v (to_read i buffer r) = to_read i (after_read (volume_of k v) i buffer) (Some (answer (volume_of k v) i (length buffer)))
answered k v (to_write i bytes r) = to_write i bytes (Some (answer (volume_of k v) i (length bytes)))
answered k v (to_begin key r) = to_begin key (Some (named BeginCall (begin_answer k v key)))
answered k v (to_step r) = to_step (Some (named StepCall (step_answer v)))
answered k v (to_report r) = to_report (Some v.phase)

-- the lines of a script once its calls are made
abbrev pub played : ModeKind → VolumeModel → List Entry → List Line
played k v [] = []
played k v (e ∷ es) = answered k v (line e) ∷ played k (after k v (call_of (line e))) es
