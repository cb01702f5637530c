-- Why a wide mode refuses.
use Rattle.std.specs.Prelude.{ℕ, Some, None, Ok, Err, Option, Result}
use Rattle.ciphers.specs.Answers.{key_fault_number}
use Rattle.modes.specs.declared.ModeFault.{ModeFault}
use Rattle.modes.specs.declared.ModeFault.TheVariants.{WrongLength, Key, WrongSize, NoInverse, WrongTweak, Other}

-- the number of a refusal; a cipher's refusal keeps its own
abbrev pub mode_fault_number : ModeFault → ℕ
mode_fault_number WrongLength = 2
mode_fault_number (Key fault) = key_fault_number fault
mode_fault_number WrongSize = 6
mode_fault_number NoInverse = 7
mode_fault_number WrongTweak = 12
mode_fault_number (Other n) = n

-- refused with a fault, or accepted
abbrev pub answered : Option ModeFault → Result (Unit {0}) ModeFault
answered None = Ok tt
answered (Some fault) = Err fault
