-- Faults, and the answers of reads and writes.
use Rattle.std.specs.Prelude.{ℕ, ◌+◌, min, cond, Ok, Err, Result, ◌==◌, nat_lt}
use Rattle.devices.specs.declared.fault.Reason.{Reason}
use Rattle.devices.specs.declared.fault.Reason.TheVariants.{NoSuchSector, WrongLength}
use Rattle.devices.specs.declared.fault.Fault.{Fault}

-- what a read or a write answers: done, or the fault that refused it
abbrev pub Answer : Type 0
Answer = Result (Unit {0}) Fault

-- a layer's own fault, with the sector that was asked of it
abbrev pub own : Reason → ℕ → Fault
own reason sector = record { reason = reason; sector = sector; depth = 0 }

-- a fault passed up by one layer
abbrev pub deeper : Fault → Fault
deeper f = record { reason = f.reason; sector = f.sector; depth = min 255 (f.depth + 1) }

-- an answer passed up by one layer
abbrev pub passed_up : Answer → Answer
passed_up (Ok u) = Ok u
passed_up (Err f) = Err (deeper f)

-- the checks before a standing fault, in their order: the sector's number, the buffer's length
abbrev pub checked : ℕ → ℕ → ℕ → ℕ → Answer
checked count size sector length =
    cond (nat_lt sector count) (cond (length == size) (Ok tt) (Err (own WrongLength sector))) (Err (own NoSuchSector sector))

-- the first refusal of two checks, made one after the other
abbrev pub and_then : Answer → Answer → Answer
and_then (Ok u) next = next
and_then (Err f) next = Err f

-- the one where a call was accepted, the other where it was refused
abbrev pub by_answer : {X : Type 0} → Answer → X → X → X
by_answer (Ok u) accepted refused = accepted
by_answer (Err f) accepted refused = refused
