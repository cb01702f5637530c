-- The number of each refusal of a fault list's own calls.
use Rattle.std.specs.Prelude.{ℕ}
use Rattle.fault_lists.specs.declared.refusal.EnterRefusal.{EnterRefusal}
use Rattle.fault_lists.specs.declared.refusal.EnterRefusal.TheVariants.{NoSuchSector, ListFull}
use Rattle.fault_lists.specs.declared.refusal.ListRefusal.{ListRefusal}
use Rattle.fault_lists.specs.declared.refusal.ListRefusal.TheVariants.{TooFewPlaces}

-- why a number is not entered
abbrev pub enter_number : EnterRefusal → ℕ
enter_number NoSuchSector = 1
enter_number ListFull = 15

-- why the numbers are not written out
abbrev pub list_number : ListRefusal → ℕ
list_number TooFewPlaces = 2
