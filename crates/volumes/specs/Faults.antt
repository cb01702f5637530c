-- Why open, begin and step are refused.
use Rattle.std.specs.Prelude.{ℕ, Some, None, Ok, Err, Option, Result}
use Rattle.modes.specs.Faults.{mode_fault_number}
use Rattle.modes.specs.declared.ModeFault.{ModeFault}
use Rattle.volumes.specs.declared.fault.CallName.{CallName}
use Rattle.volumes.specs.declared.fault.Refusal.{Refusal}
use Rattle.volumes.specs.declared.fault.Refusal.TheVariants.{Closed, AlreadyOpen, NoSweep, SweepUnderWay, NoSectors, Mode}
use Rattle.volumes.specs.declared.fault.VolumeFault.{VolumeFault}

-- the number of each refusal; a mode's refusal keeps its own
abbrev pub refusal_number : Refusal → ℕ
refusal_number Closed = 4
refusal_number AlreadyOpen = 8
refusal_number NoSweep = 9
refusal_number SweepUnderWay = 10
refusal_number NoSectors = 11
refusal_number (Mode fault) = mode_fault_number fault

-- what open, begin and step answer: done, or the call's name with its refusal
abbrev pub CallAnswer : Type 0
CallAnswer = Result (Unit {0}) VolumeFault

-- an answer with the call's name
abbrev pub named : CallName → Result (Unit {0}) Refusal → CallAnswer
named call (Ok u) = Ok tt
named call (Err refusal) = Err (record { call = call; refusal = refusal })

-- what keying a mode answers, its refusal carried whole
abbrev pub key_answer : Option ModeFault → Result (Unit {0}) Refusal
key_answer None = Ok tt
key_answer (Some fault) = Err (Mode fault)

-- the one where a call was accepted, the other where it was refused
abbrev pub by_call : {X : Type 0} → Result (Unit {0}) Refusal → X → X → X
by_call (Ok u) accepted refused = accepted
by_call (Err refusal) accepted refused = refused
