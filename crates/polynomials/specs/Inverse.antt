-- The inverse modulo x^n + r, by Euclid's algorithm on polynomials. What it answers is stated in Laws.antt.
use Rattle.std.specs.Prelude.{ℕ, zero, suc, ◌+◌, ◌-◌, ◌*◌, ◌%◌, ◌^◌, cond, Some, None, Option, ◌==◌, bit_xor, nat_lt}
use Rattle.std.specs.Int.Count.{count_leading_zeros}
use Rattle.polynomials.specs.Polynomial.{product}

-- two polynomials u and v, with g·a = u and h·a = v modulo x^n + r
pub record Remainders : Type 0 where
  pub u : ℕ
  pub v : ℕ
  pub g : ℕ
  pub h : ℕ

-- the greater of the two first
abbrev pub ordered : Remainders → Remainders
ordered s = cond (nat_lt s.u s.v) (record { u = s.v; v = s.u; g = s.h; h = s.g }) s

-- how far v is shifted to meet the top bit of u
abbrev pub gap : ℕ → Remainders → ℕ
gap n s = count_leading_zeros n s.v - count_leading_zeros n s.u

-- u + x^k·v, so that the top bits cancel
abbrev pub reduced : ℕ → ℕ → Remainders → Remainders
reduced n r s =
    record { u = bit_xor s.u (s.v * 2 ^ gap n s); v = s.v; g = bit_xor s.g (product n r s.h (2 ^ gap n s)); h = s.h }

-- turns until u is 0
unfoldable pub euclid : ℕ → ℕ → ℕ → Remainders → Remainders
euclid n r zero s = s
euclid n r (suc turns) s = cond (s.u == 0) s (euclid n r turns (reduced n r (ordered s)))

-- the modulus less x^j·a, where x^j·a has degree n, and a itself
abbrev pub started : ℕ → ℕ → ℕ → Remainders
started n r a =
    let j = count_leading_zeros n a + 1 in
    record { u = bit_xor r (a * 2 ^ j % 2 ^ n); v = a; g = 2 ^ j; h = 1 }

-- the last v divides a and the modulus: h is the inverse of a if it is 1
abbrev pub answered : Remainders → Option ℕ
answered s = cond (s.v == 1) (Some s.h) None

-- each turn makes u + v less, so that as many turns suffice
unfoldable pub inverse : ℕ → ℕ → ℕ → Option ℕ
inverse n r zero = None
inverse n r (suc zero) = Some 1
inverse n r (suc (suc a)) =
    let s = started n r (suc (suc a)) in
    answered (euclid n r (s.u + s.v) s)
