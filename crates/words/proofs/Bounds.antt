-- The bits of the values of an unsigned type, from the laws of its bounds.
use Rattle.std.specs.Prelude.{◌↔◌, ◌≤ℤ◌, ◌*ℤ◌, ◌==◌, ℤ, pos, negsuc, unsigned_abs, IsTrue, nat_lt}
use Rattle.std.specs.declared.cmp.Ordering.{Ordering}
use Rattle.std.specs.Int.{Width, w8, w16, w32, w64, w128, bit_not}
use Rattle.std.specs.Ordering.{int_cmp, nat_cmp, is_lt, is_some_and}
use Rattle.std.proofs.Common.{◌≡◌, ℕ, zero, suc, ◌+◌, ◌-◌, ◌*◌, ◌%◌, ◌^◌, ◌<◌, Bool, true, false, Some, Option, sym, refl, ap, ◌∙◌, ap₂, subst, mod-lt, mod-eq_of_lt, zero-lt-suc, one-mul, zero-mul, arith, pow_pos}
use native.Mathlib.Nat.{mod-mod, sub-zero}
use lib.Pow.{pow-lt}
use lib.Bits.{bit_and, bit_xor, and_comm, and_mask, xor_lt}
use mir.Val.{bits}
use Rattle.std.proofs.Math.Pow.{mod-mod-pow}
use Rattle.words.specs.Widths.{bits_some}
use Rattle.std.proofs.lemmas.Bool.{eq-eqb, ne_eqb}
use Rattle.std.proofs.lemmas.Int.{ints}
use Rattle.std.proofs.lemmas.Nat.{mul-mod_first}
use Rattle.polynomials.proofs.Quotient.{bit_below}
use Rattle.num_traits.specs.Ints.{unsigned-order}
use Rattle.num_traits.specs.Laws.{bit_len}

-- std's word for the number of bits says the same
pub bits_is : (w : Width) → bits w ≡ bit_len w
bits_is w8 = refl
bits_is w16 = refl
bits_is w32 = refl
bits_is w64 = refl
bits_is w128 = refl

-- all ones
pub inverted : (w : Width) (z : ℕ) → z ≡ 0 → bit_not w z ≡ 2 ^ bit_len w - 1
inverted w z none = ap (bit_not w) none ∙ ap (λ (k : ℕ). 2 ^ k - 1 - 0) (bits_is w) ∙ sub-zero (2 ^ bit_len w - 1)

-- an integer from 0 up is its bits
pub natural : (z : ℤ) (b : ℕ) → pos 0 ≤ℤ z → ((n : ℕ) → z ≡ pos n → b ≡ n) → z ≡ pos b
natural (pos n) b up h = ap pos (sym (h n refl))
natural (negsuc n) b up h = absurd (omega (arith, ints))

-- the tests of two values are those of their bits
pub equal_is : (e : Bool) (x y : ℤ) (m k : ℕ) → (IsTrue e ↔ (x ≡ y)) → x ≡ pos m → y ≡ pos k → e ≡ (m == k)
equal_is true x y m k h ex ey = sym (eq-eqb m k (ap unsigned_abs (sym ex ∙ h.0 refl ∙ ey)))
equal_is false x y m k h ex ey = sym (ne_eqb m k (λ same. cc (h.1 (ex ∙ ap pos same ∙ sym ey))))

pub less_is : (m k : ℕ) (x y : ℤ) (cmp : Option Ordering) → cmp ≡ Some (int_cmp x y) → x ≡ pos m → y ≡ pos k → is_some_and is_lt cmp ≡ nat_lt m k
less_is m k x y cmp e ex ey =
    ap (is_some_and is_lt) (e ∙ ap₂ (λ (u v : ℤ). Some (int_cmp u v)) ex ey ∙ sym (unsigned-order m k)) ∙ tested m k
  where
    tested : (m k : ℕ) → is_lt (nat_cmp m k) ≡ nat_lt m k
    tested m k = grind arith

-- the lowest bit is one of the word's, so words that are the same have the same
low : (w : Width) (b : ℕ) → b % 2 ^ bit_len w % 2 ≡ b % 2
low w b =
    let high : bit_len w - 1 + 1 ≡ bit_len w = omega (arith, bits_some w) in
    subst (λ (k : ℕ). b % 2 ^ k % 2 ≡ b % 2) high (mod-mod-pow b (bit_len w - 1) 1)

pub same_low : (w : Width) (a b : ℕ) → a % 2 ^ bit_len w ≡ b % 2 ^ bit_len w → a % 2 ≡ b % 2
same_low w a b e = sym (low w a) ∙ ap (λ (x : ℕ). x % 2) e ∙ low w b

-- what is made of bits of the width has them
module _ {A : Type 0} (w : Width) (bits_of : A → ℕ) (of_bits : ℕ → A) (trip : (k : ℕ) → k < 2 ^ bit_len w → bits_of (of_bits k) ≡ k) where
  pub made : (r : A) (k : ℕ) → r ≡ of_bits k → k < 2 ^ bit_len w → bits_of r ≡ k
  made r k e h = ap bits_of e ∙ trip k h

  -- a mask of all ones keeps what is in the width
  pub kept : (r : A) (a m : ℕ) → m ≡ 2 ^ bit_len w - 1 → r ≡ of_bits (bit_and a m) → bits_of r ≡ a % 2 ^ bit_len w
  kept r a m all e =
      let same : bit_and a m ≡ a % 2 ^ bit_len w = ap (bit_and a) all ∙ and_mask a (bit_len w) in
      made r (a % 2 ^ bit_len w) (e ∙ ap of_bits same) (mod-lt a (pow_pos (bit_len w)))

  pub raised : (r : A) (a by : ℕ) → r ≡ of_bits (a * 2 ^ by % 2 ^ bit_len w) → bits_of r % 2 ^ bit_len w ≡ a % 2 ^ bit_len w * 2 ^ by % 2 ^ bit_len w
  raised r a by e =
      ap (λ (x : ℕ). x % 2 ^ bit_len w) (made r (a * 2 ^ by % 2 ^ bit_len w) e (mod-lt (a * 2 ^ by) (pow_pos (bit_len w))))
      ∙ mod-mod (a * 2 ^ by) (2 ^ bit_len w) ∙ sym (mul-mod_first a (2 ^ by) (2 ^ bit_len w))

  pub added : (r : A) (x y a b : ℕ) → x ≡ a % 2 ^ bit_len w → y ≡ b % 2 ^ bit_len w → r ≡ of_bits (bit_xor x y)
      → bits_of r % 2 ^ bit_len w ≡ bit_xor (a % 2 ^ bit_len w) (b % 2 ^ bit_len w)
  added r x y a b ex ey e =
      let fits : bit_xor (a % 2 ^ bit_len w) (b % 2 ^ bit_len w) < 2 ^ bit_len w =
      xor_lt (bit_len w) _ _ (mod-lt a (pow_pos (bit_len w))) (mod-lt b (pow_pos (bit_len w))) in
      ap (λ (z : ℕ). z % 2 ^ bit_len w) (made r _ (e ∙ ap₂ (λ (u v : ℕ). of_bits (bit_xor u v)) ex ey) fits) ∙ mod-eq_of_lt fits

  -- the lowest bit, spread over the word
  pub lowest : (r : A) (a m : ℕ) → m ≡ 1 → r ≡ of_bits (bit_and a m) → bits_of r ≡ a % 2
  lowest r a m single e =
      let same : bit_and a m ≡ a % 2 = ap (bit_and a) single ∙ and_mask a 1 in
      made r (a % 2) (e ∙ ap of_bits same) (omega (arith, mod-lt a (zero-lt-suc 1), pow-lt (bits_some w)))

  pub spread : (r : A) (a b m x : ℕ) → m ≡ b % 2 → x ≡ m * (2 ^ bit_len w - 1) → r ≡ of_bits (bit_and x a)
      → bits_of r % 2 ^ bit_len w ≡ (b % 2 ^ bit_len w % 2) * (a % 2 ^ bit_len w)
  spread r a b m x em ex e =
      let N : ℕ = 2 ^ bit_len w in
      let lowest_is : b % N % 2 ≡ m = low w b ∙ sym em in
      let bit : m < 2 = omega (arith, em, mod-lt b (zero-lt-suc 1)) in
      let is : bit_and x a ≡ m * (a % N) = ap (λ (y : ℕ). bit_and y a) ex ∙ none_or_all m a bit in
      let fits : m * (a % N) < N = bit_below m bit (mod-lt a (pow_pos (bit_len w))) in
      ap (λ (y : ℕ). y % N) (made r (m * (a % N)) (e ∙ ap of_bits is) fits) ∙ mod-eq_of_lt fits ∙ ap (λ (y : ℕ). y * (a % N)) (sym lowest_is)
    where
      none_or_all : (m a : ℕ) → m < 2 → bit_and (m * (2 ^ bit_len w - 1)) a ≡ m * (a % 2 ^ bit_len w)
      none_or_all zero a h = ap (λ (y : ℕ). bit_and y a) (zero-mul (2 ^ bit_len w - 1)) ∙ sym (zero-mul (a % 2 ^ bit_len w))
      none_or_all (suc zero) a h =
          ap (λ (y : ℕ). bit_and y a) (one-mul (2 ^ bit_len w - 1)) ∙ and_comm (2 ^ bit_len w - 1) a ∙ and_mask a (bit_len w) ∙ sym (one-mul (a % 2 ^ bit_len w))
      none_or_all (suc (suc m)) a h = absurd (omega arith)

  -- it has an integer that fits
  pub fits_made : (value : A → ℤ) (fits : ℤ → Type 0) (wrap : ℤ → ℤ) → ((k : ℕ) → k < 2 ^ bit_len w → value (of_bits k) ≡ wrap (pos k)) → ((z : ℤ) → fits (wrap z))
      → (r : A) (k : ℕ) → r ≡ of_bits k → k < 2 ^ bit_len w → fits (value r)
  fits_made value fits wrap is wraps r k e h = subst fits (sym (ap value e ∙ is k h)) (wraps (pos k))

-- the product with a bit fits
pub scaled : (fits : ℤ → Type 0) (m k : ℕ) (x y : ℤ) → m < 2 → fits (pos 0) → fits y → x ≡ pos m → y ≡ pos k → fits (x *ℤ y)
scaled fits zero k x y h none fy ex ey =
    let e : x *ℤ y ≡ pos 0 = ap₂ ◌*ℤ◌ ex ey ∙ ap pos (zero-mul k) in
    subst fits (sym e) none
scaled fits (suc zero) k x y h none fy ex ey =
    let e : x *ℤ y ≡ y = ap₂ ◌*ℤ◌ ex ey ∙ ap pos (one-mul k) ∙ sym ey in
    subst fits (sym e) fy
scaled fits (suc (suc m)) k x y h none fy ex ey = absurd (omega arith)
