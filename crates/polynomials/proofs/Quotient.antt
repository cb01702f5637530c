-- GF(2)[x] modulo 2^n + r, for any width n above 0 and any r below 2^n: `remainder` is the remainder, and `product` makes a ring.
--
use Rattle.std.proofs.Common.{◌≡◌, ℕ, zero, suc, ◌+◌, ◌*◌, ◌/◌, ◌%◌, ◌^◌, ◌<◌, sym, refl, ap, ◌∙◌, ap₂, le_refl, le_of_suc-le-suc, not-suc-le-zero, mod-lt, mod-eq_of_lt, zero-lt-suc, div-lt_iff_lt-mul, one-mul, div-add-mod', zero-add, zero-mul, mul-one, mul-add, arith, pow_pos}
use mathlib.Core.Path.{subst⁻¹}
use native.Mathlib.Nat.{div-eq_of_lt, pow-succ', mod_self, div_self}
use lib.Arith.{bin_ind}
use lib.Pow.{pow-lt}
use lib.Bits.{bit_xor, xor_comm, xor_assoc, xor_self, xor_zero_r, xor_shr, xor_mod, xor_block, xor_lt, xor_shifted}
use Rattle.polynomials.specs.Polynomial.{action, clmul, xtime, remainder, product}
use Rattle.polynomials.proofs.Xor.{swap4, times_x_xor, low_high, bit_xor_mul}
use Rattle.polynomials.proofs.Action.{zero_action, action_step, xor_action, action_times_x, action_one, action_at_zero, action_clmul, clmul_one, clmul_comm, clmul_assoc, clmul_xor, xor_clmul, zero_clmul, times_x_clmul, bit_clmul}

bit : (b : ℕ) → b % 2 < 2
bit b = mod-lt b (zero-lt-suc 1)

pub bit_below : (x : ℕ) {m r : ℕ} → x < 2 → r < m → x * r < m
bit_below zero {m} {r} h k = subst⁻¹ (λ (y : ℕ). y < m) (zero-mul r) (omega arith)
bit_below (suc zero) {m} {r} h k = subst⁻¹ (λ (y : ℕ). y < m) (one-mul r) k
bit_below (suc (suc x)) h k = absurd (not-suc-le-zero (le_of_suc-le-suc (le_of_suc-le-suc h)))

-- `xtime` is linear, at every number
pub xtime_xor : (n r a b : ℕ) → xtime n r (bit_xor a b) ≡ bit_xor (xtime n r a) (xtime n r b)
unfolding xtime
xtime_xor n r a b =
    ap₂ (λ (x y : ℕ). bit_xor x (y * (2 ^ n + r))) (times_x_xor a b)
    (ap (λ (x : ℕ). x / 2 ^ n % 2) (times_x_xor a b) ∙ ap (λ (x : ℕ). x % 2) (xor_shr (2 * a) (2 * b) n) ∙ xor_mod (2 * a / 2 ^ n) (2 * b / 2 ^ n) 1)
    ∙ ap (bit_xor (bit_xor (2 * a) (2 * b))) (bit_xor_mul (2 * a / 2 ^ n % 2) (2 * b / 2 ^ n % 2) (2 ^ n + r) (bit (2 * a / 2 ^ n)) (bit (2 * b / 2 ^ n)))
    ∙ swap4 (2 * a) (2 * b) ((2 * a / 2 ^ n % 2) * (2 ^ n + r)) ((2 * b / 2 ^ n % 2) * (2 ^ n + r))

-- below half the width nothing is taken away
pub xtime_small : (n r a : ℕ) → 2 * a < 2 ^ n → xtime n r a ≡ 2 * a
unfolding xtime
xtime_small n r a h =
    ap (λ (x : ℕ). bit_xor (2 * a) ((x % 2) * (2 ^ n + r))) (div-eq_of_lt h)
    ∙ ap (bit_xor (2 * a)) (zero-mul (2 ^ n + r)) ∙ xor_zero_r (2 * a)

top : (n a : ℕ) → a < 2 ^ n → 2 * a / 2 ^ n < 2
top n a h = (div-lt_iff_lt-mul (pow_pos n)).1 (omega arith)

-- what the code does: shift out the top bit, and add r where it was set
pub xtime_shifts : (n r a : ℕ) → r < 2 ^ n → a < 2 ^ n → xtime n r a ≡ bit_xor (2 * a % 2 ^ n) ((2 * a / 2 ^ n) * r)
unfolding xtime
xtime_shifts n r a hr h =
    let q : ℕ = 2 * a / 2 ^ n in
    let s : ℕ = 2 * a % 2 ^ n in
    ap₂ (λ (x y : ℕ). bit_xor x (y * (2 ^ n + r))) (sym (div-add-mod' (2 * a) (2 ^ n))) (mod-eq_of_lt (top n a h))
    ∙ ap (bit_xor (q * 2 ^ n + s)) (mul-add q (2 ^ n) r)
    ∙ xor_block n q q s (q * r) (mod-lt (2 * a) (pow_pos n)) (bit_below q (top n a h) hr)
    ∙ ap (λ (x : ℕ). x * 2 ^ n + bit_xor s (q * r)) (xor_self q)
    ∙ ap (λ (x : ℕ). x + bit_xor s (q * r)) (zero-mul (2 ^ n)) ∙ zero-add (bit_xor s (q * r))

pub xtime_lt : (n r a : ℕ) → r < 2 ^ n → a < 2 ^ n → xtime n r a < 2 ^ n
xtime_lt n r a hr h =
    subst⁻¹ (λ (x : ℕ). x < 2 ^ n) (xtime_shifts n r a hr h)
    (xor_lt n (2 * a % 2 ^ n) ((2 * a / 2 ^ n) * r) (mod-lt (2 * a) (pow_pos n)) (bit_below (2 * a / 2 ^ n) (top n a h) hr))

pub remainder_zero : (n r : ℕ) → remainder n r 0 ≡ 0
unfolding remainder
remainder_zero n r = zero_action (xtime n r) (xtime_xor n r) 1

pub remainder_step : (n r c : ℕ) → remainder n r c ≡ bit_xor (c % 2) (xtime n r (remainder n r (c / 2)))
unfolding remainder
remainder_step n r c = action_step (xtime n r) (xtime_xor n r) c 1 ∙ ap (λ (x : ℕ). bit_xor x (xtime n r (remainder n r (c / 2)))) (mul-one (c % 2))

pub remainder_xor : (n r a b : ℕ) → remainder n r (bit_xor a b) ≡ bit_xor (remainder n r a) (remainder n r b)
unfolding remainder
remainder_xor n r a b = xor_action (xtime n r) (xtime_xor n r) a b 1

pub remainder_times_x : (n r a : ℕ) → remainder n r (2 * a) ≡ xtime n r (remainder n r a)
unfolding remainder
remainder_times_x n r a = action_times_x (xtime n r) (xtime_xor n r) a 1

pub remainder_small : (n r c : ℕ) → c < 2 ^ n → remainder n r c ≡ c
remainder_small n r c =
    bin_ind (λ (m : ℕ). m < 2 ^ n → remainder n r m ≡ m) (λ h. remainder_zero n r)
    (λ m ih h. let e : m / 2 < 2 ^ n = omega arith in
    remainder_step n r m ∙ ap (λ (x : ℕ). bit_xor (m % 2) (xtime n r x)) (ih e)
    ∙ ap (bit_xor (m % 2)) (xtime_small n r (m / 2) (omega arith)) ∙ low_high m) c

xtime_is : (n r a : ℕ) → xtime n r a ≡ bit_xor (2 * a) ((2 * a / 2 ^ n % 2) * (2 ^ n + r))
unfolding xtime
xtime_is n r a = refl

-- c = q m + remainder c, for some q
pub divides : (n r c : ℕ) → (q : ℕ) × (c ≡ bit_xor (clmul q (2 ^ n + r)) (remainder n r c))
divides n r =
    bin_ind (λ (c : ℕ). (q : ℕ) × (c ≡ bit_xor (clmul q (2 ^ n + r)) (remainder n r c)))
    (0, sym (ap₂ bit_xor (zero_clmul (2 ^ n + r)) (remainder_zero n r)))
    (λ c ih. (bit_xor (2 * ih.0) (carry c), turn c ih.0 ih.1))
  where
    carry : ℕ → ℕ
    carry c = 2 * remainder n r (c / 2) / 2 ^ n % 2

    regroup : (z A B S : ℕ) → bit_xor z (bit_xor A B) ≡ bit_xor (bit_xor A S) (bit_xor z (bit_xor B S))
    regroup z A B S =
        sym (xor_assoc z A B) ∙ ap (λ (x : ℕ). bit_xor x B) (xor_comm z A) ∙ xor_assoc A z B
        ∙ ap (bit_xor A) (sym (xor_zero_r (bit_xor z B)) ∙ ap (bit_xor (bit_xor z B)) (sym (xor_self S)) ∙ sym (xor_assoc (bit_xor z B) S S)
        ∙ xor_comm (bit_xor (bit_xor z B) S) S ∙ ap (bit_xor S) (xor_assoc z B S))
        ∙ sym (xor_assoc A S (bit_xor z (bit_xor B S)))

    turn : (c q : ℕ) → c / 2 ≡ bit_xor (clmul q (2 ^ n + r)) (remainder n r (c / 2))
        → c ≡ bit_xor (clmul (bit_xor (2 * q) (carry c)) (2 ^ n + r)) (remainder n r c)
    turn c q e =
        let m : ℕ = 2 ^ n + r in
        let p : ℕ = remainder n r (c / 2) in
        sym (low_high c) ∙ ap (λ (x : ℕ). bit_xor (c % 2) (2 * x)) e ∙ ap (bit_xor (c % 2)) (times_x_xor (clmul q m) p)
        ∙ regroup (c % 2) (2 * clmul q m) (2 * p) (carry c * m)
        ∙ sym (ap₂ bit_xor
        (xor_clmul (2 * q) (carry c) m ∙ ap₂ bit_xor (times_x_clmul q m) (bit_clmul (carry c) m (bit (2 * p / 2 ^ n))))
        (remainder_step n r c ∙ ap (bit_xor (c % 2)) (xtime_is n r p)))

-- x^n is r
pub remainder_pow : (n r : ℕ) → 0 < n → r < 2 ^ n → remainder n r (2 ^ n) ≡ r
remainder_pow zero r h hr = absurd (not-suc-le-zero h)
remainder_pow (suc k) r h hr =
    let l : 2 ^ k < 2 ^ suc k = pow-lt (le_refl (suc k)) in
    ap (remainder (suc k) r) (pow-succ' 2 k) ∙ remainder_times_x (suc k) r (2 ^ k) ∙ ap (xtime (suc k) r) (remainder_small (suc k) r (2 ^ k) l)
    ∙ xtime_shifts (suc k) r (2 ^ k) hr l
    ∙ ap (λ (x : ℕ). bit_xor (x % 2 ^ suc k) ((x / 2 ^ suc k) * r)) (sym (pow-succ' 2 k))
    ∙ ap₂ (λ (x y : ℕ). bit_xor x (y * r)) (mod_self (2 ^ suc k)) (div_self (pow_pos (suc k)))
    ∙ one-mul r

module _ (n r : ℕ) (pos : 0 < n) (hr : r < 2 ^ n) where
  one_below : 1 < 2 ^ n
  one_below = pow-lt pos

  pub remainder_lt : (c : ℕ) → remainder n r c < 2 ^ n
  remainder_lt =
      bin_ind (λ (m : ℕ). remainder n r m < 2 ^ n) (subst⁻¹ (λ (x : ℕ). x < 2 ^ n) (remainder_zero n r) (pow_pos n))
      (λ m ih. subst⁻¹ (λ (x : ℕ). x < 2 ^ n) (remainder_step n r m)
      (xor_lt n (m % 2) (xtime n r (remainder n r (m / 2))) (omega (arith, one_below, bit m)) (xtime_lt n r (remainder n r (m / 2)) hr ih)))

  pub remainder_remainder : (c : ℕ) → remainder n r (remainder n r c) ≡ remainder n r c
  remainder_remainder c = remainder_small n r (remainder n r c) (remainder_lt c)

  -- remainder (a b) = b(X) (remainder a)
  pub remainder_clmul : (a b : ℕ) → remainder n r (clmul a b) ≡ action (xtime n r) b (remainder n r a)
  unfolding remainder
  remainder_clmul a b = action_clmul (xtime n r) (xtime_xor n r) a b 1

  pub remainder_modulus : remainder n r (2 ^ n + r) ≡ 0
  remainder_modulus =
      ap (remainder n r) (ap (λ (x : ℕ). x + r) (sym (one-mul (2 ^ n))) ∙ sym (xor_shifted 1 n r hr) ∙ ap (λ (x : ℕ). bit_xor x r) (one-mul (2 ^ n)))
      ∙ remainder_xor n r (2 ^ n) r ∙ ap₂ bit_xor (remainder_pow n r pos hr) (remainder_small n r r hr) ∙ xor_self r

  pub remainder_multiple : (q : ℕ) → remainder n r (clmul q (2 ^ n + r)) ≡ 0
  remainder_multiple q =
      ap (remainder n r) (clmul_comm q (2 ^ n + r)) ∙ remainder_clmul (2 ^ n + r) q ∙ ap (action (xtime n r) q) remainder_modulus
      ∙ action_at_zero (xtime n r) (xtime_xor n r) q

  -- the remainder is the only block that differs from c by a multiple of the modulus
  pub remainder_only : (c q p : ℕ) → p < 2 ^ n → c ≡ bit_xor (clmul q (2 ^ n + r)) p → p ≡ remainder n r c
  remainder_only c q p h e =
      sym (ap (remainder n r) e ∙ remainder_xor n r (clmul q (2 ^ n + r)) p ∙ ap₂ bit_xor (remainder_multiple q) (remainder_small n r p h))

  -- ---- the ring

  pub product_lt : (a b : ℕ) → product n r a b < 2 ^ n
  unfolding product
  product_lt a b = remainder_lt (clmul a b)

  pub product_comm : (a b : ℕ) → product n r a b ≡ product n r b a
  unfolding product
  product_comm a b = ap (remainder n r) (clmul_comm a b)

  pub product_xor : (a b c : ℕ) → product n r a (bit_xor b c) ≡ bit_xor (product n r a b) (product n r a c)
  unfolding product
  product_xor a b c = ap (remainder n r) (clmul_xor a b c) ∙ remainder_xor n r (clmul a b) (clmul a c)

  pub product_one : (a : ℕ) → a < 2 ^ n → product n r a 1 ≡ a
  unfolding product
  product_one a h = ap (remainder n r) (clmul_one a) ∙ remainder_small n r a h

  pub remainder_left : (a b : ℕ) → remainder n r (clmul (remainder n r a) b) ≡ remainder n r (clmul a b)
  remainder_left a b = remainder_clmul (remainder n r a) b ∙ ap (action (xtime n r) b) (remainder_remainder a) ∙ sym (remainder_clmul a b)

  pub product_assoc : (a b c : ℕ) → product n r (product n r a b) c ≡ product n r a (product n r b c)
  unfolding product
  product_assoc a b c =
      remainder_left (clmul a b) c ∙ ap (remainder n r) (clmul_assoc a b c ∙ clmul_comm a (clmul b c))
      ∙ sym (remainder_left (clmul b c) a) ∙ ap (remainder n r) (clmul_comm (remainder n r (clmul b c)) a)

  -- what the code computes
  pub product_action : (a b : ℕ) → a < 2 ^ n → product n r a b ≡ action (xtime n r) b a
  unfolding product
  product_action a b h = remainder_clmul a b ∙ ap (action (xtime n r) b) (remainder_small n r a h)

  -- x times a polynomial
  pub product_alpha : (a : ℕ) → a < 2 ^ n → product n r 2 a ≡ xtime n r a
  product_alpha a h =
      product_comm 2 a ∙ product_action a 2 h ∙ action_times_x (xtime n r) (xtime_xor n r) 1 a
      ∙ ap (xtime n r) (action_one (xtime n r) (xtime_xor n r) a)
