-- The numbers that a fault list holds.
use Rattle.std.specs.Prelude.{◌≡◌, ℕ, ◌≤◌, Bool, false, cond, ◌||◌, List, [], ◌∷◌, ◌++◌, length, take, drop, Ok, Err, Result, ◌==◌, nat_lt}
use Rattle.devices.specs.Faults.{Answer, own}
use Rattle.devices.specs.declared.fault.Reason as reasons
use Rattle.std.specs.List.Sorted.{IsPermutation}
use Rattle.fault_lists.specs.Once.{Once}
use Rattle.fault_lists.specs.declared.table.Table.{Table}
use Rattle.fault_lists.specs.declared.refusal.EnterRefusal.{EnterRefusal}
use Rattle.fault_lists.specs.declared.refusal.EnterRefusal.TheVariants.{NoSuchSector, ListFull}
use Rattle.fault_lists.specs.declared.refusal.ListRefusal.{ListRefusal}
use Rattle.fault_lists.specs.declared.refusal.ListRefusal.TheVariants.{TooFewPlaces}

-- the numbers that a table holds
abbrev pub held_by : Table → List ℕ
held_by t = t.numbers.items

-- whether a number is among those held
unfoldable pub is_held : List ℕ → ℕ → Bool
is_held [] number = false
is_held (x ∷ xs) number = x == number || is_held xs number

-- whether a list has no room for one more number
abbrev pub full : List ℕ → Bool
full held = length held == 64

-- the numbers held after one is entered: one already held changes nothing, and a full list takes no other
abbrev pub entered : List ℕ → ℕ → List ℕ
entered held number = cond (is_held held number) held (cond (full held) held (held ++ number ∷ []))

-- what the entering of a number answers, once it is known to be below the count
abbrev pub table_answer : List ℕ → ℕ → Result (Unit {0}) EnterRefusal
table_answer held number = cond (is_held held number) (Ok tt) (cond (full held) (Err ListFull) (Ok tt))

-- what the entering of a number answers
abbrev pub enter_answer : ℕ → List ℕ → ℕ → Result (Unit {0}) EnterRefusal
enter_answer count held number = cond (nat_lt number count) (table_answer held number) (Err NoSuchSector)

-- the numbers held after that
abbrev pub after_enter : ℕ → List ℕ → ℕ → List ℕ
after_enter count held number = cond (nat_lt number count) (entered held number) held

-- the numbers held after several are entered, one after the other
unfoldable pub after_enters : ℕ → List ℕ → List ℕ → List ℕ
after_enters count held [] = held
after_enters count held (number ∷ numbers) = after_enters count (after_enter count held number) numbers

-- what a list that began empty holds: no number twice, and at most 64
pub record Bounded (held : List ℕ) : Type 0 where
  pub once : Once held
  pub most : length held ≤ 64

-- so it is, whatever was entered
abbrev pub AlwaysBounded : Type 0
AlwaysBounded = (count : ℕ) (numbers : List ℕ) → Bounded (after_enters count [] numbers)

-- the fault of a sector whose number is held
abbrev pub listed_check : List ℕ → ℕ → Answer
listed_check held number = cond (is_held held number) (Err (own reasons.TheVariants.Listed number)) (Ok tt)

-- what the list call answers: how many numbers are held
abbrev pub list_answer : List ℕ → ℕ → Result ℕ ListRefusal
list_answer held places = cond (nat_lt places 64) (Err TooFewPlaces) (Ok (length held))

-- the places after the list call: first the numbers held, each once and in any order, then what stood there
pub record Listed (held before after : List ℕ) : Type 0 where
  pub numbers : IsPermutation held (take (length held) after)
  pub once : Once (take (length held) after)
  pub rest : drop (length held) after ≡ drop (length held) before
