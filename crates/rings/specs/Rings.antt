-- The three block rings, each modulo x^n + r with n = 8w.
use Rattle.std.specs.Prelude.{ℕ, ◌*◌, ◌^◌, ◌<◌, ◌≤◌}
use Rattle.std.proofs.Common.{lit<, lit≤}
use Rattle.polynomials.specs.Inverse.{inverse}
use Rattle.polynomials.specs.Polynomial.{product}
use Rattle.polynomials.proofs.Inverses.{inverse_found, inverse_none}
use Rattle.polynomials.proofs.Quotient.{product_lt, product_comm, product_assoc, product_xor, product_one}
use Rattle.rings.specs.Ring.{RingKind}

-- the ring of blocks of w bytes modulo x^(8w) + r
abbrev pub modulo : (w longest r : ℕ) → 1 ≤ w → w ≤ longest → longest ≤ 4096 → 8 * longest < 2 ^ (8 * w) → 0 < 8 * w → r < 2 ^ (8 * w) → RingKind
modulo w longest r some reach bounded counted pos low = record {
  width = w;
  longest = longest;
  product = product (8 * w) r;
  inverse = inverse (8 * w) r;
  some = some;
  reach = reach;
  bounded = bounded;
  counted = counted;
  closed = λ a b _ _. product_lt (8 * w) r pos low a b;
  comm = λ a b _ _. product_comm (8 * w) r pos low a b;
  assoc = λ a b c _ _ _. product_assoc (8 * w) r pos low a b c;
  distrib = λ a b c _ _ _. product_xor (8 * w) r pos low a b c;
  unit = product_one (8 * w) r pos low;
  inverts = inverse_found (8 * w) r pos low;
  exact = λ a b fits _ none. inverse_none (8 * w) r pos low a b fits none;
}

-- w = 1: x^8 + x^4 + x^3 + x + 1
abbrev pub ring1 : RingKind
ring1 = modulo 1 31 0x1B (lit≤ tt) (lit≤ tt) (lit≤ tt) (lit< tt) (lit< tt) (lit< tt)

-- w = 8: x^64 + x^4 + x^3 + x + 1
abbrev pub ring8 : RingKind
ring8 = modulo 8 4096 0x1B (lit≤ tt) (lit≤ tt) (lit≤ tt) (lit< tt) (lit< tt) (lit< tt)

-- w = 16: x^128 + x^7 + x^2 + x + 1
abbrev pub ring16 : RingKind
ring16 = modulo 16 4096 0x87 (lit≤ tt) (lit≤ tt) (lit≤ tt) (lit< tt) (lit< tt) (lit< tt)
