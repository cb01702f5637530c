-- The value b(X) a of a polynomial b in a linear map X, and its laws: linear in b and in a, and such maps commute.
--
use Rattle.std.proofs.Common.{◌≡◌, ℕ, zero, suc, ◌*◌, ◌/◌, ◌%◌, ◌<◌, ◌≤◌, sym, refl, ap, ◌∙◌, ap₂, le_refl, not-suc-le-zero, mod-lt, zero-lt-suc, one-mul, zero-mul, mul-one}
use native.Mathlib.Nat.{mul-div_cancel_left, mul-mod_right}
use native.Mathlib.Decide.{le_ind}
use lib.Arith.{half_le, bin_ind}
use lib.Bits.{bit_xor, xor_self, xor_zero_r, xor_shr, xor_mod}
use Rattle.polynomials.specs.Polynomial.{action_in, action, clmul, times_x}
use Rattle.polynomials.proofs.Xor.{swap4, times_x_xor, low_high, bit_xor_mul, xor_bit, bit_over}

bit : (b : ℕ) → b % 2 < 2
bit b = mod-lt b (zero-lt-suc 1)

module _ (X : ℕ → ℕ) (lin : (a b : ℕ) → X (bit_xor a b) ≡ bit_xor (X a) (X b)) where
  pub at_zero : X 0 ≡ 0
  at_zero = lin 0 0 ∙ xor_self (X 0)

  more : (f b a : ℕ) → b ≤ f → action_in X (suc f) b a ≡ action_in X f b a
  unfolding action_in
  more zero zero a h = refl
  more zero (suc b) a h = absurd (not-suc-le-zero h)
  more (suc f) zero a h = refl
  more (suc f) (suc b) a h = ap (λ (x : ℕ). bit_xor ((suc b % 2) * a) (X x)) (more f (suc b / 2) a (half_le h))

  enough : (f b a : ℕ) → b ≤ f → action_in X f b a ≡ action_in X b b a
  enough f b a h = le_ind (λ (m : ℕ). action_in X m b a ≡ action_in X b b a) refl (λ m k e. more m b a k ∙ e) f h

  pub zero_action : (a : ℕ) → action X 0 a ≡ 0
  unfolding action action_in
  zero_action a = refl

  -- b(X) a = b₀ a + X ((b / x)(X) a)
  pub action_step : (b a : ℕ) → action X b a ≡ bit_xor ((b % 2) * a) (X (action X (b / 2) a))
  unfolding action action_in
  action_step zero a = sym (ap (λ (x : ℕ). bit_xor x (X 0)) (zero-mul a) ∙ at_zero)
  action_step (suc b) a = ap (λ (x : ℕ). bit_xor ((suc b % 2) * a) (X x)) (enough b (suc b / 2) a (half_le (le_refl (suc b))))

  -- linear in a
  pub action_xor : (b a c : ℕ) → action X b (bit_xor a c) ≡ bit_xor (action X b a) (action X b c)
  action_xor b a c =
      bin_ind (λ (n : ℕ). action X n (bit_xor a c) ≡ bit_xor (action X n a) (action X n c))
      (zero_action (bit_xor a c) ∙ sym (ap₂ bit_xor (zero_action a) (zero_action c)))
      (λ n ih. action_step n (bit_xor a c)
      ∙ ap₂ bit_xor (xor_bit (n % 2) a c (bit n)) (ap X ih ∙ lin (action X (n / 2) a) (action X (n / 2) c))
      ∙ swap4 ((n % 2) * a) ((n % 2) * c) (X (action X (n / 2) a)) (X (action X (n / 2) c))
      ∙ sym (ap₂ bit_xor (action_step n a) (action_step n c))) b

  -- linear in b
  pub xor_action : (b c a : ℕ) → action X (bit_xor b c) a ≡ bit_xor (action X b a) (action X c a)
  xor_action b c a =
      bin_ind (λ (n : ℕ). (m : ℕ) → action X (bit_xor n m) a ≡ bit_xor (action X n a) (action X m a))
      (λ m. sym (ap (λ (x : ℕ). bit_xor x (action X m a)) (zero_action a)))
      (λ n ih m. action_step (bit_xor n m) a
      ∙ ap₂ (λ (x y : ℕ). bit_xor (x * a) (X (action X y a))) (xor_mod n m 1) (xor_shr n m 1)
      ∙ ap₂ bit_xor (bit_xor_mul (n % 2) (m % 2) a (bit n) (bit m)) (ap X (ih (m / 2)) ∙ lin (action X (n / 2) a) (action X (m / 2) a))
      ∙ swap4 ((n % 2) * a) ((m % 2) * a) (X (action X (n / 2) a)) (X (action X (m / 2) a))
      ∙ sym (ap₂ bit_xor (action_step n a) (action_step m a))) b c

  -- b(X) commutes with X
  pub action_x : (b a : ℕ) → action X b (X a) ≡ X (action X b a)
  action_x b a =
      bin_ind (λ (n : ℕ). action X n (X a) ≡ X (action X n a))
      (zero_action (X a) ∙ sym (ap X (zero_action a) ∙ at_zero))
      (λ n ih. action_step n (X a)
      ∙ ap₂ bit_xor (sym (bit_over X at_zero (n % 2) a (bit n))) (ap X ih)
      ∙ sym (ap X (action_step n a) ∙ lin ((n % 2) * a) (X (action X (n / 2) a)))) b

  -- (x b)(X) = X b(X)
  pub action_times_x : (b a : ℕ) → action X (2 * b) a ≡ X (action X b a)
  action_times_x b a =
      action_step (2 * b) a
      ∙ ap₂ (λ (x y : ℕ). bit_xor (x * a) (X (action X y a))) (mul-mod_right 2 b) (mul-div_cancel_left b (zero-lt-suc 1))
      ∙ ap (λ (x : ℕ). bit_xor x (X (action X b a))) (zero-mul a)

  pub action_one : (a : ℕ) → action X 1 a ≡ a
  action_one a =
      action_step 1 a ∙ ap₂ bit_xor (one-mul a) (ap X (zero_action a) ∙ at_zero) ∙ xor_zero_r a

  pub action_at_zero : (b : ℕ) → action X b 0 ≡ 0
  action_at_zero b = action_xor b 0 0 ∙ xor_self (action X b 0)

  -- b(X) and c(X) commute
  pub action_comm : (b c a : ℕ) → action X b (action X c a) ≡ action X c (action X b a)
  action_comm b c a =
      bin_ind (λ (n : ℕ). action X n (action X c a) ≡ action X c (action X n a))
      (zero_action (action X c a) ∙ sym (ap (action X c) (zero_action a) ∙ action_at_zero c))
      (λ n ih. action_step n (action X c a)
      ∙ ap₂ bit_xor (sym (bit_over (action X c) (action_at_zero c) (n % 2) a (bit n))) (ap X ih ∙ sym (action_x c (action X (n / 2) a)))
      ∙ sym (ap (action X c) (action_step n a) ∙ action_xor c ((n % 2) * a) (X (action X (n / 2) a)))) b

-- the product of polynomials, by the lowest bit of b
pub clmul_step : (a b : ℕ) → clmul a b ≡ bit_xor ((b % 2) * a) (2 * clmul a (b / 2))
unfolding clmul
clmul_step a b = action_step times_x times_x_xor b a

-- the product of polynomials is the composition of their maps
pub action_clmul : (X : ℕ → ℕ) (lin : (a b : ℕ) → X (bit_xor a b) ≡ bit_xor (X a) (X b)) (a b v : ℕ)
    → action X (clmul a b) v ≡ action X b (action X a v)
unfolding clmul
action_clmul X lin a b v =
    bin_ind (λ (n : ℕ). action X (clmul a n) v ≡ action X n (action X a v))
    (ap (λ (x : ℕ). action X x v) (zero_action times_x times_x_xor a) ∙ zero_action X lin v ∙ sym (zero_action X lin (action X a v)))
    (λ n ih. ap (λ (x : ℕ). action X x v) (clmul_step a n)
    ∙ xor_action X lin ((n % 2) * a) (2 * clmul a (n / 2)) v
    ∙ ap₂ bit_xor (bit_over (λ (x : ℕ). action X x v) (zero_action X lin v) (n % 2) a (bit n)) (action_times_x X lin (clmul a (n / 2)) v ∙ ap X ih)
    ∙ sym (action_step X lin n (action X a v))) b

-- ---- the ring GF(2)[x]

-- a = a(x) 1
self : (a : ℕ) → action times_x a 1 ≡ a
self =
    bin_ind (λ (n : ℕ). action times_x n 1 ≡ n) (zero_action times_x times_x_xor 1)
    (λ n ih. action_step times_x times_x_xor n 1 ∙ ap₂ (λ (x y : ℕ). bit_xor x (2 * y)) (mul-one (n % 2)) ih ∙ low_high n)

pub clmul_one : (a : ℕ) → clmul a 1 ≡ a
unfolding clmul
clmul_one a = action_one times_x times_x_xor a

pub clmul_comm : (a b : ℕ) → clmul a b ≡ clmul b a
unfolding clmul
clmul_comm a b = ap (action times_x b) (sym (self a)) ∙ action_comm times_x times_x_xor b a 1 ∙ ap (action times_x a) (self b)

pub clmul_assoc : (a b c : ℕ) → clmul (clmul a b) c ≡ clmul a (clmul b c)
unfolding clmul
clmul_assoc a b c = sym (action_clmul times_x times_x_xor b c a)

pub clmul_xor : (a b c : ℕ) → clmul a (bit_xor b c) ≡ bit_xor (clmul a b) (clmul a c)
unfolding clmul
clmul_xor a b c = xor_action times_x times_x_xor b c a

pub xor_clmul : (a b c : ℕ) → clmul (bit_xor a b) c ≡ bit_xor (clmul a c) (clmul b c)
unfolding clmul
xor_clmul a b c = action_xor times_x times_x_xor c a b

pub zero_clmul : (a : ℕ) → clmul 0 a ≡ 0
unfolding clmul
zero_clmul a = action_at_zero times_x times_x_xor a

pub one_clmul : (a : ℕ) → clmul 1 a ≡ a
one_clmul a = clmul_comm 1 a ∙ clmul_one a

pub times_x_clmul : (a b : ℕ) → clmul (2 * a) b ≡ 2 * clmul a b
unfolding clmul
times_x_clmul a b = action_x times_x times_x_xor b a

pub bit_clmul : (x a : ℕ) → x < 2 → clmul x a ≡ x * a
bit_clmul x a h =
    ap (λ (y : ℕ). clmul y a) (sym (mul-one x)) ∙ bit_over (λ (y : ℕ). clmul y a) (zero_clmul a) x 1 h ∙ ap (λ (y : ℕ). x * y) (one_clmul a)
