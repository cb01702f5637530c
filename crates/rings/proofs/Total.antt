-- The laws of a block ring without premises, for the product of any two numbers.
use Rattle.std.proofs.Common.{◌≡◌, ℕ, ◌*◌, ◌%◌, ◌<◌, sym, ap, ◌∙◌, ap₂, mod-lt, mod-eq_of_lt, arith, pow_pos}
use lib.Bits.{bit_xor, xor_self, xor_mod}
use lib.Pow.{pow-lt}
use Rattle.rings.specs.Ring.{RingKind, size, times}

module _ (r : RingKind) where
  pub size_pos : 0 < size r
  size_pos = pow_pos (8 * r.width)

  -- a number counts by its remainder, which is a block
  pub rest_below : (a : ℕ) → a % size r < size r
  rest_below a = mod-lt a size_pos

  -- the blocks 1 and x are there
  pub alpha_below : 2 < size r
  alpha_below = let s = r.some in let more : 1 < 8 * r.width = omega arith in pow-lt more

  pub one_below : 1 < size r
  one_below = omega (arith, alpha_below)

  pub times_below : (a b : ℕ) → times r a b < size r
  times_below a b = r.closed (a % size r) (b % size r) (rest_below a) (rest_below b)

  pub times_blocks : (a b : ℕ) → a < size r → b < size r → times r a b ≡ r.product a b
  times_blocks a b ha hb = ap₂ r.product (mod-eq_of_lt ha) (mod-eq_of_lt hb)

  pub times_comm : (a b : ℕ) → times r a b ≡ times r b a
  times_comm a b = r.comm (a % size r) (b % size r) (rest_below a) (rest_below b)

  pub times_assoc : (a b c : ℕ) → times r (times r a b) c ≡ times r a (times r b c)
  times_assoc a b c =
      ap (λ (x : ℕ). r.product x (c % size r)) (mod-eq_of_lt (times_below a b))
      ∙ r.assoc (a % size r) (b % size r) (c % size r) (rest_below a) (rest_below b) (rest_below c)
      ∙ ap (r.product (a % size r)) (sym (mod-eq_of_lt (times_below b c)))

  pub times_distrib : (a b c : ℕ) → times r a (bit_xor b c) ≡ bit_xor (times r a b) (times r a c)
  times_distrib a b c =
      ap (r.product (a % size r)) (xor_mod b c (8 * r.width))
      ∙ r.distrib (a % size r) (b % size r) (c % size r) (rest_below a) (rest_below b) (rest_below c)

  pub times_over : (a b c : ℕ) → times r (bit_xor a b) c ≡ bit_xor (times r a c) (times r b c)
  times_over a b c = times_comm (bit_xor a b) c ∙ times_distrib c a b ∙ ap₂ bit_xor (times_comm c a) (times_comm c b)

  pub times_unit : (a : ℕ) → a < size r → times r a 1 ≡ a
  times_unit a h = times_blocks a 1 h one_below ∙ r.unit a h

  pub zero_times : (a : ℕ) → times r 0 a ≡ 0
  zero_times a = times_over 0 0 a ∙ xor_self (times r 0 a)
