-- The coefficients of a carry-less product.
use Rattle.std.proofs.Common.{◌≡◌, ℕ, zero, suc, ◌-◌, ◌*◌, ◌/◌, ◌%◌, ◌^◌, ◌<◌, sym, refl, ap, ◌∙◌, ap₂, mod-lt, zero-lt-suc, div-one}
use mathlib.Core.Path.{fun_ext}
use native.Mathlib.Nat.{suc-sub-suc, sub-zero, div-div-eq-div-mul, pow-succ', mul-div_cancel_left, mul-mod_right}
use lib.Bits.{bit_xor, xor_shr, xor_mod, xor_assoc, xor_zero_r}
use Rattle.polynomials.specs.Polynomial.{clmul, coefficient, total}
use Rattle.polynomials.proofs.Xor.{bit_over}
use Rattle.polynomials.proofs.Action.{clmul_step}

coefficient_xor : (k a b : ℕ) → coefficient k (bit_xor a b) ≡ bit_xor (coefficient k a) (coefficient k b)
unfolding coefficient
coefficient_xor k a b = ap (λ (x : ℕ). x % 2) (xor_shr a b k) ∙ xor_mod (a / 2 ^ k) (b / 2 ^ k) 1

coefficient_half : (k a : ℕ) → coefficient k (a / 2) ≡ coefficient (suc k) a
unfolding coefficient
coefficient_half k a = ap (λ (x : ℕ). x % 2) (div-div-eq-div-mul a 2 (2 ^ k) ∙ ap (λ (x : ℕ). a / x) (sym (pow-succ' 2 k)))

coefficient_times_x : (k a : ℕ) → coefficient (suc k) (2 * a) ≡ coefficient k a
coefficient_times_x k a = sym (coefficient_half k (2 * a)) ∙ ap (coefficient k) (mul-div_cancel_left a (zero-lt-suc 1))

coefficient_lowest : (a : ℕ) → coefficient 0 a ≡ a % 2
unfolding coefficient
coefficient_lowest a = ap (λ (x : ℕ). x % 2) (div-one a)

coefficient_bit : (k x a : ℕ) → x < 2 → coefficient k (x * a) ≡ x * coefficient k a
coefficient_bit k x a h = bit_over (coefficient k) (none k) x a h
  where
    none : (k : ℕ) → coefficient k 0 ≡ 0
    none zero = coefficient_lowest 0
    none (suc k) = sym (coefficient_half k 0) ∙ none k

-- the first term of a sum taken apart
total_first : (f : ℕ → ℕ) (k : ℕ) → total f (suc k) ≡ bit_xor (f 0) (total (λ i. f (suc i)) k)
unfolding total
total_first f zero = refl
total_first f (suc k) =
    ap (λ (x : ℕ). bit_xor x (f (suc (suc k)))) (total_first f k) ∙ xor_assoc (f 0) (total (λ i. f (suc i)) k) (f (suc (suc k)))

module _ (a : ℕ) where
  term : ℕ → ℕ → ℕ → ℕ
  term b k i = coefficient i b * coefficient (k - i) a

  first : (b k : ℕ) → coefficient k ((b % 2) * a) ≡ term b k 0
  unfolding term
  first b k =
      coefficient_bit k (b % 2) a (mod-lt b (zero-lt-suc 1))
      ∙ ap₂ (λ (x y : ℕ). x * coefficient y a) (sym (coefficient_lowest b)) (sym (sub-zero k))

  later : (b k i : ℕ) → term (b / 2) k i ≡ term b (suc k) (suc i)
  unfolding term
  later b k i = ap₂ (λ (x y : ℕ). x * coefficient y a) (coefficient_half i b) (sym (suc-sub-suc k i))

  pub clmul_coefficient : (k b : ℕ) → coefficient k (clmul a b) ≡ total (λ i. coefficient i b * coefficient (k - i) a) k
  unfolding term total
  clmul_coefficient zero b =
      ap (coefficient 0) (clmul_step a b) ∙ coefficient_xor 0 ((b % 2) * a) (2 * clmul a (b / 2))
      ∙ ap₂ bit_xor (first b 0) (coefficient_lowest (2 * clmul a (b / 2)) ∙ mul-mod_right 2 (clmul a (b / 2)))
      ∙ xor_zero_r (term b 0 0)
  clmul_coefficient (suc k) b =
      ap (coefficient (suc k)) (clmul_step a b) ∙ coefficient_xor (suc k) ((b % 2) * a) (2 * clmul a (b / 2))
      ∙ ap₂ bit_xor (first b (suc k))
      (coefficient_times_x k (clmul a (b / 2)) ∙ clmul_coefficient k (b / 2) ∙ ap (λ (f : ℕ → ℕ). total f k) (fun_ext (later b k)))
      ∙ sym (total_first (term b (suc k)) k)
