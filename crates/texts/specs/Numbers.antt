-- Numbers in decimal.
use Rattle.std.specs.Prelude.{ℕ, ◌+◌, ◌-◌, ◌*◌, Bool, cond, ◌&&◌, List, [], ◌∷◌, Some, None, Option, nat_le, nat_lt}

abbrev pub is_digit : ℕ → Bool
is_digit c = nat_le 48 c && nat_le c 57

-- a number so far with one more digit behind: none where the byte is no digit, or the number is not below 2^32
abbrev pub longer : ℕ → ℕ → Option ℕ
longer value c = cond (is_digit c && nat_lt (value * 10 + (c - 48)) 4294967296) (Some (value * 10 + (c - 48))) None

-- digits read behind a number so far
unfoldable pub read_on : ℕ → List ℕ → Option ℕ
read_on value [] = Some value
read_on value (c ∷ cs) = elim (longer value c) [ None ↦ None | Some more ↦ read_on more cs ]

-- the number that a word stands for
abbrev pub number_of : List ℕ → Option ℕ
number_of [] = None
number_of (c ∷ cs) = read_on 0 (c ∷ cs)
