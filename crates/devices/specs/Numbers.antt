-- The numbers of refusals.
use Rattle.std.specs.Prelude.{ℕ}
use Rattle.devices.specs.declared.fault.Reason.{Reason}
use Rattle.devices.specs.declared.fault.Reason.TheVariants.{NoSuchSector, WrongLength, Listed, Closed, Other}

-- the number of each reason
abbrev pub number_of : Reason → ℕ
number_of NoSuchSector = 1
number_of WrongLength = 2
number_of Listed = 3
number_of Closed = 4
number_of (Other n) = n
