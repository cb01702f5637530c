-- What the console tells of a call's answer.
use Rattle.std.specs.Prelude.{ℕ, List, Ok, Err, Result}
use Rattle.commands.specs.declared.answer.Answer.{Answer}
use Rattle.commands.specs.declared.answer.Answer.TheVariants.{Done, Bytes, Refused, Faulted, Reported, Wrong, Help}
use Rattle.commands.specs.declared.names.CallWord.{CallWord}
use Rattle.commands.specs.declared.names.CallWord.TheVariants as words
use Rattle.devices.specs.declared.fault.Fault.{Fault}
use Rattle.devices.specs.Numbers.{number_of}
use Rattle.devices.specs.Device.{DeviceMeaning, answer, bytes_of, sector_at}
use Rattle.fault_lists.specs.declared.refusal.EnterRefusal.{EnterRefusal}
use Rattle.fault_lists.specs.Numbers.{enter_number}
use Rattle.volumes.specs.declared.fault.CallName.{CallName}
use Rattle.volumes.specs.declared.fault.CallName.TheVariants as names
use Rattle.volumes.specs.declared.phase.Phase.{Phase}
use Rattle.volumes.specs.Faults.{CallAnswer, refusal_number}
use Rattle.volumes.specs.Phases.{phase_number, phase_mark}

-- the word of a call
abbrev pub word_of : CallName → CallWord
word_of names.Open = words.Open
word_of names.Begin = words.Begin
word_of names.Step = words.Step

-- open, begin and step
abbrev pub called : {B : Type 0} → CallAnswer → Answer B
called (Ok u) = Done
called (Err fault) = Refused (word_of fault.call) (refusal_number fault.refusal)

-- the entering of a fault
abbrev pub entered : {B : Type 0} → Result (Unit {0}) EnterRefusal → Answer B
entered (Ok u) = Done
entered (Err refusal) = Refused words.Fault (enter_number refusal)

abbrev pub faulted : {B : Type 0} → Fault → Answer B
faulted fault = Faulted (number_of fault.reason) fault.sector fault.depth

-- a write
abbrev pub wrote : {B : Type 0} → Result (Unit {0}) Fault → Answer B
wrote (Ok u) = Done
wrote (Err fault) = faulted fault

-- a read, with the bytes read
abbrev pub read_of : Result (Unit {0}) Fault → List ℕ → Answer (List ℕ)
read_of (Ok u) bytes = Bytes bytes
read_of (Err fault) bytes = faulted fault

-- a read of a device: its sector's bytes, or why not
abbrev pub read_answer : DeviceMeaning → ℕ → Answer (List ℕ)
read_answer m sector = read_of (answer m sector m.size) (bytes_of (sector_at m sector))

-- a report
abbrev pub reported : {B : Type 0} → Phase → Answer B
reported phase = Reported (phase_number phase) (phase_mark phase)

-- an answer with its bytes as a list
abbrev pub listed : {B : Type 0} → (B → List ℕ) → Answer B → Answer (List ℕ)
listed f Done = Done
listed f (Bytes bytes) = Bytes (f bytes)
listed f (Refused call number) = Refused call number
listed f (Faulted number sector depth) = Faulted number sector depth
listed f (Reported phase mark) = Reported phase mark
listed f (Wrong wrong) = Wrong wrong
listed f Help = Help
