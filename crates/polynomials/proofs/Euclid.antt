-- Euclid's algorithm on polynomials, one subtraction at a time, beside the coefficients modulo x^n + r.
--
use Rattle.std.proofs.Common.{◌≡◌, ℕ, zero, suc, ◌+◌, ◌-◌, ◌*◌, ◌/◌, ◌%◌, ◌^◌, ◌<◌, ◌≤◌, ◌≢◌, sym, refl, ap, ◌∙◌, subst, ap₂, lt_of_lt_of_le, mul-le-mul_right, mod-lt, zero-lt-suc, mul_assoc, div-lt_iff_lt-mul, suc-add, mul-lt-mul_of_pos_right, one-mul, div-add-mod', le-div_iff_mul-le, zero-add, zero-mul, mul-one, mul_left_comm, arith, pow_pos, pow_mono, pow-add}
use mathlib.Core.Path.{subst⁻¹}
use native.Mathlib.Nat.{div-eq_of_lt, pow-succ', div-eq_of_lt-le}
use native.Mathlib.Decide.{dec_lt}
use lib.Arith.{bin_ind}
use lib.Count.{count_leading_zeros}
use Rattle.std.proofs.lemmas.Nat.{leading_top}
use lib.Bits.{bit_xor, xor_comm, xor_shr, xor_block, xor_lt}
use Rattle.polynomials.specs.Polynomial.{clmul, remainder, product}
use Rattle.polynomials.proofs.Xor.{cancel}
use Rattle.polynomials.proofs.Action.{zero_clmul, times_x_clmul, clmul_one, clmul_comm, clmul_assoc, clmul_xor, clmul_step}
use Rattle.polynomials.proofs.Quotient.{divides, bit_below, remainder_zero, remainder_xor, remainder_small, remainder_modulus, product_lt, product_comm, product_xor, product_one, product_assoc}

-- d divides a
abbrev pub Divides : ℕ → ℕ → Type 0
Divides d a = (h : ℕ) × (clmul d h ≡ a)

pub clmul_zero : (a : ℕ) → clmul a 0 ≡ 0
clmul_zero a = clmul_comm a 0 ∙ zero_clmul a

pub divides_xor : (d a b : ℕ) → Divides d a → Divides d b → Divides d (bit_xor a b)
divides_xor d a b p q = (bit_xor p.0 q.0, clmul_xor d p.0 q.0 ∙ ap₂ bit_xor p.1 q.1)

pub divides_mul : (d a b : ℕ) → Divides d a → Divides d (clmul a b)
divides_mul d a b p = (clmul p.0 b, sym (clmul_assoc d p.0 b) ∙ ap (λ (x : ℕ). clmul x b) p.1)

-- x^j a
pub clmul_pow : (a j : ℕ) → clmul a (2 ^ j) ≡ a * 2 ^ j
clmul_pow a zero = clmul_one a ∙ sym (mul-one a)
clmul_pow a (suc j) =
    ap (clmul a) (pow-succ' 2 j) ∙ clmul_comm a (2 * 2 ^ j) ∙ times_x_clmul (2 ^ j) a ∙ ap (λ (x : ℕ). 2 * x) (clmul_comm (2 ^ j) a ∙ clmul_pow a j)
    ∙ mul_left_comm 2 a (2 ^ j) ∙ ap (λ (x : ℕ). a * x) (sym (pow-succ' 2 j))

-- a sum with a number of more digits
xor_above : (k a b : ℕ) → a < 2 ^ k → 2 ^ k ≤ b → 2 ^ k ≤ bit_xor a b
xor_above k a b ha hb =
    let e : bit_xor a b / 2 ^ k ≡ b / 2 ^ k = xor_shr a b k ∙ ap (λ (x : ℕ). bit_xor x (b / 2 ^ k)) (div-eq_of_lt ha) in
    let one : 1 ≤ b / 2 ^ k = (le-div_iff_mul-le (pow_pos k)).1 (subst⁻¹ (λ (x : ℕ). x ≤ b) (one-mul (2 ^ k)) hb) in
    subst (λ (x : ℕ). x ≤ bit_xor a b) (one-mul (2 ^ k)) ((le-div_iff_mul-le (pow_pos k)).0 (subst⁻¹ (λ (x : ℕ). 1 ≤ x) e one))

-- the place of the top digit
top_digit : (a : ℕ) → a ≢ 0 → (k : ℕ) × (2 ^ k ≤ a) × (a < 2 ^ suc k)
top_digit =
    bin_ind (λ (m : ℕ). m ≢ 0 → (k : ℕ) × (2 ^ k ≤ m) × (m < 2 ^ suc k)) (λ ne. absurd (ne refl))
    (λ m ih ne. go m ne (m / 2) refl ih)
  where
    go : (m : ℕ) → m ≢ 0 → (h : ℕ) → m / 2 ≡ h → (m / 2 ≢ 0 → (k : ℕ) × (2 ^ k ≤ m / 2) × (m / 2 < 2 ^ suc k))
        → (k : ℕ) × (2 ^ k ≤ m) × (m < 2 ^ suc k)
    go m ne zero e ih = (0, omega arith, omega arith)
    go m ne (suc h) e ih =
        let z : (k : ℕ) × (2 ^ k ≤ m / 2) × (m / 2 < 2 ^ suc k) = ih (omega arith) in
        let p : 2 ^ suc z.0 ≡ 2 * 2 ^ z.0 = pow-succ' 2 z.0 in
        let q : 2 ^ suc (suc z.0) ≡ 2 * 2 ^ suc z.0 = pow-succ' 2 (suc z.0) in
        (suc z.0, omega (arith, z.1, p), omega (arith, z.2, q))

-- the top digit at k
one_high : (k a : ℕ) → 2 ^ k ≤ a → a < 2 ^ suc k → a / 2 ^ k ≡ 1
one_high k a lo hi = div-eq_of_lt-le (2 ^ k) (omega arith) (omega (arith, pow-succ' 2 k))

-- no multiple of a number of k + 1 digits, but 0, has fewer
above : (k a : ℕ) → 2 ^ k ≤ a → a < 2 ^ suc k → (b : ℕ) → b ≢ 0 → 2 ^ k ≤ clmul a b
above k a lo hi =
    bin_ind (λ (m : ℕ). m ≢ 0 → 2 ^ k ≤ clmul a m) (λ ne. absurd (ne refl)) (λ m ih ne. go m ne (m / 2) refl ih)
  where
    go : (m : ℕ) → m ≢ 0 → (h : ℕ) → m / 2 ≡ h → (m / 2 ≢ 0 → 2 ^ k ≤ clmul a (m / 2)) → 2 ^ k ≤ clmul a m
    go m ne zero e ih =
        let o : m ≡ 1 = omega arith in
        subst⁻¹ (λ (x : ℕ). 2 ^ k ≤ clmul a x) o (subst⁻¹ (λ (x : ℕ). 2 ^ k ≤ x) (clmul_one a) lo)
    go m ne (suc h) e ih =
        let c : 2 ^ k ≤ clmul a (m / 2) = ih (omega arith) in
        let p : 2 ^ suc k ≡ 2 * 2 ^ k = pow-succ' 2 k in
        let b : (m % 2) * a < 2 ^ suc k = bit_below (m % 2) (mod-lt m (zero-lt-suc 1)) hi in
        let l : 2 ^ suc k ≤ bit_xor ((m % 2) * a) (2 * clmul a (m / 2)) = xor_above (suc k) ((m % 2) * a) (2 * clmul a (m / 2)) b (omega arith) in
        subst⁻¹ (λ (x : ℕ). 2 ^ k ≤ x) (clmul_step a m) (omega arith)

-- only 1 divides 1
pub divides_one : (d : ℕ) → Divides d 1 → d ≡ 1
divides_one zero p = sym (zero_clmul p.0) ∙ p.1
divides_one (suc zero) p = refl
divides_one (suc (suc d)) p = absurd (go (top_digit (suc (suc d)) (omega arith)))
  where
    some : p.0 ≢ 0
    some e = let z : ◌≡◌ {A = ℕ} 0 1 = sym (ap (clmul (suc (suc d))) e ∙ clmul_zero (suc (suc d))) ∙ p.1 in omega arith

    go : (k : ℕ) × (2 ^ k ≤ suc (suc d)) × (suc (suc d) < 2 ^ suc k) → ⊥
    go t = at t.0 t.1 t.2
      where
        at : (k : ℕ) → 2 ^ k ≤ suc (suc d) → suc (suc d) < 2 ^ suc k → ⊥
        at zero lo hi = omega arith
        at (suc k) lo hi =
            let l : 2 ^ suc k ≤ 1 = subst (λ (x : ℕ). 2 ^ suc k ≤ x) p.1 (above (suc k) (suc (suc d)) lo hi p.0 some) in
            omega (arith, pow-succ' 2 k, pow_pos k)

-- what the loop keeps: u = g a and v = h a modulo 2^n + r, and what divides u and v divides a and the modulus
pub record Bezout (n r a u v g h : ℕ) : Type 0 where
  pub left : product n r g a ≡ u
  pub right : product n r h a ≡ v
  pub common : (d : ℕ) → Divides d u → Divides d v → Divides d a × Divides d (2 ^ n + r)

pub swapped : (n r a u v g h : ℕ) → Bezout n r a u v g h → Bezout n r a v u h g
swapped n r a u v g h z = record { left = z.right; right = z.left; common = λ d p q. z.common d q p }

module _ (n r : ℕ) (pos : 0 < n) (hr : r < 2 ^ n) where
  -- x^j takes a up to x^n: the first subtraction, from the modulus
  pub begins : (a j : ℕ) → a < 2 ^ n → j < n → 2 ^ n ≤ a * 2 ^ j → a * 2 ^ j < 2 * 2 ^ n
      → Bezout n r a (bit_xor r (a * 2 ^ j % 2 ^ n)) a (2 ^ j) 1
  unfolding product
  begins a j ha hj lo hi =
      record {
        left = left;
        right = product_comm n r pos hr 1 a ∙ product_one n r pos hr a ha;
        common = λ d p q. (q, subst (Divides d) (ap (λ (x : ℕ). bit_xor x A) (sym taken) ∙ cancel m A) (divides_xor d u A p (subst (Divides d) (clmul_pow a j) (divides_mul d a (2 ^ j) q))));
      }
    where
      A : ℕ
      A = a * 2 ^ j

      m : ℕ
      m = 2 ^ n + r

      u : ℕ
      u = bit_xor r (a * 2 ^ j % 2 ^ n)

      whole : 1 * 2 ^ n + a * 2 ^ j % 2 ^ n ≡ a * 2 ^ j
      whole =
          ap (λ (x : ℕ). x * 2 ^ n + a * 2 ^ j % 2 ^ n) (sym (div-eq_of_lt-le {k = 1} (2 ^ n) {m = a * 2 ^ j} (omega arith) (omega arith)))
          ∙ div-add-mod' (a * 2 ^ j) (2 ^ n)

      taken : bit_xor m A ≡ u
      taken =
          ap₂ (λ (x y : ℕ). bit_xor (x + r) y) (sym (one-mul (2 ^ n))) (sym whole)
          ∙ xor_block n 1 1 r (a * 2 ^ j % 2 ^ n) hr (mod-lt (a * 2 ^ j) (pow_pos n))
          ∙ ap (λ (x : ℕ). x + u) (zero-mul (2 ^ n)) ∙ zero-add u

      below : u < 2 ^ n
      below = xor_lt n r (a * 2 ^ j % 2 ^ n) hr (mod-lt (a * 2 ^ j) (pow_pos n))

      left : product n r (2 ^ j) a ≡ u
      left =
          ap (remainder n r) (clmul_comm (2 ^ j) a ∙ clmul_pow a j ∙ sym (cancel A m) ∙ xor_comm (bit_xor A m) m ∙ ap (bit_xor m) (xor_comm A m ∙ taken))
          ∙ remainder_xor n r m u ∙ ap₂ bit_xor (remainder_modulus n r pos hr) (remainder_small n r u below)

  pub reduces : (a u v g h j : ℕ) → v * 2 ^ j < 2 ^ n → Bezout n r a u v g h
      → Bezout n r a (bit_xor u (v * 2 ^ j)) v (bit_xor g (product n r h (2 ^ j))) h
  unfolding product
  reduces a u v g h j fits z =
      record {
        left =
            product_comm n r pos hr (bit_xor g (product n r h (2 ^ j))) a ∙ product_xor n r pos hr a g (product n r h (2 ^ j))
            ∙ ap₂ bit_xor (product_comm n r pos hr a g ∙ z.left)
            (sym (product_assoc n r pos hr a h (2 ^ j)) ∙ ap (λ (x : ℕ). product n r x (2 ^ j)) (product_comm n r pos hr a h ∙ z.right) ∙ shift);
        right = z.right;
        common = λ d p q. z.common d
            (subst (Divides d) (cancel u (v * 2 ^ j)) (divides_xor d (bit_xor u (v * 2 ^ j)) (v * 2 ^ j) p (subst (Divides d) (clmul_pow v j) (divides_mul d v (2 ^ j) q)))) q;
      }
    where
      shift : product n r v (2 ^ j) ≡ v * 2 ^ j
      shift = ap (remainder n r) (clmul_pow v j) ∙ remainder_small n r (v * 2 ^ j) fits

  pub none : (a v g h : ℕ) → v ≢ 1 → Bezout n r a 0 v g h → (i : ℕ) → product n r a i ≡ 1 → ⊥
  unfolding product
  none a v g h ne z i e =
      ne (divides_one v (subst (Divides v) one (divides_xor v (clmul a i) (clmul q m) (divides_mul v a i both.0)
      (subst (Divides v) (clmul_comm m q) (divides_mul v m q both.1)))))
    where
      m : ℕ
      m = 2 ^ n + r

      both : Divides v a × Divides v (2 ^ n + r)
      both = z.common v (0, clmul_zero v) (1, clmul_one v)

      q : ℕ
      q = (divides n r (clmul a i)).0

      one : bit_xor (clmul a i) (clmul q m) ≡ 1
      one =
          ap (λ (x : ℕ). bit_xor x (clmul q m)) ((divides n r (clmul a i)).1 ∙ xor_comm (clmul q m) (remainder n r (clmul a i)))
          ∙ cancel (remainder n r (clmul a i)) (clmul q m) ∙ e

-- the top digits cancel, so that the sum of the two falls
pub falls : (u v s j : ℕ) → 2 ^ s ≤ v → v < 2 ^ suc s → 2 ^ (s + j) ≤ u → u < 2 ^ suc (s + j) → bit_xor u (v * 2 ^ j) < u
falls u v s j v1 v2 u1 u2 =
    let p : 2 ^ (s + j) ≡ 2 ^ s * 2 ^ j = pow-add 2 s j in
    let q : 2 ^ suc (s + j) ≡ 2 ^ suc s * 2 ^ j = ap (λ (x : ℕ). 2 ^ x) (sym (suc-add s j)) ∙ pow-add 2 (suc s) j in
    let w1 : 2 ^ (s + j) ≤ v * 2 ^ j = subst⁻¹ (λ (x : ℕ). x ≤ v * 2 ^ j) p (mul-le-mul_right (2 ^ j) v1) in
    let w2 : v * 2 ^ j < 2 ^ suc (s + j) = subst⁻¹ (λ (x : ℕ). v * 2 ^ j < x) q (mul-lt-mul_of_pos_right v2 (pow_pos j)) in
    let e : bit_xor u (v * 2 ^ j) / 2 ^ (s + j) ≡ 0 =
    xor_shr u (v * 2 ^ j) (s + j) ∙ ap₂ bit_xor (one_high (s + j) u u1 u2) (one_high (s + j) (v * 2 ^ j) w1 w2) in
    let d : bit_xor u (v * 2 ^ j) < 1 * 2 ^ (s + j) = (div-lt_iff_lt-mul (pow_pos (s + j))).0 (subst⁻¹ (λ (x : ℕ). x < 1) e (zero-lt-suc 0)) in
    omega arith

-- ---- the shifts of the code, by the leading zeros at w bits

-- how far a stands below x^w
pub leads : (w a : ℕ) → 1 < a → a < 2 ^ w
    → (count_leading_zeros w a + 1 < w) × (2 ^ w ≤ a * 2 ^ (count_leading_zeros w a + 1)) × (a * 2 ^ (count_leading_zeros w a + 1) < 2 * 2 ^ w)
leads w a big fits = at (leading_top w a (omega arith) fits)
  where
    z : ℕ
    z = count_leading_zeros w a

    at : (p : ℕ) × (count_leading_zeros w a + suc p ≡ w) × (2 ^ p ≤ a) × (a < 2 ^ suc p)
        → (count_leading_zeros w a + 1 < w) × (2 ^ w ≤ a * 2 ^ (count_leading_zeros w a + 1)) × (a * 2 ^ (count_leading_zeros w a + 1) < 2 * 2 ^ w)
    at t =
        let p : ℕ = t.0 in
        let s : p + (count_leading_zeros w a + 1) ≡ w = omega (arith, t.1) in
        let e : 2 ^ w ≡ 2 ^ p * 2 ^ (count_leading_zeros w a + 1) = ap (λ (x : ℕ). 2 ^ x) (sym s) ∙ pow-add 2 p (count_leading_zeros w a + 1) in
        let f : 2 * 2 ^ w ≡ 2 ^ suc p * 2 ^ (count_leading_zeros w a + 1) =
        ap (λ (x : ℕ). 2 * x) e ∙ sym (mul_assoc 2 (2 ^ p) (2 ^ (count_leading_zeros w a + 1))) ∙ ap (λ (x : ℕ). x * 2 ^ (count_leading_zeros w a + 1)) (sym (pow-succ' 2 p)) in (
          omega (arith, t.1, positive p t.2 t.3),
          subst⁻¹ (λ (x : ℕ). x ≤ a * 2 ^ (count_leading_zeros w a + 1)) e (mul-le-mul_right (2 ^ (count_leading_zeros w a + 1)) t.2),
          subst⁻¹ (λ (x : ℕ). a * 2 ^ (count_leading_zeros w a + 1) < x) f (mul-lt-mul_of_pos_right t.3 (pow_pos (count_leading_zeros w a + 1))),
        )
      where
        positive : (p : ℕ) → 2 ^ p ≤ a → a < 2 ^ suc p → 0 < p
        positive zero lo hi = omega arith
        positive (suc p) lo hi = zero-lt-suc p

-- v, shifted to the top digit of u
pub record Level (w u v k : ℕ) : Type 0 where
  pub small : k < w
  pub fits : v * 2 ^ k < 2 ^ w
  pub falls : bit_xor u (v * 2 ^ k) < u

pub levels : (w u v : ℕ) → 0 < v → v ≤ u → u < 2 ^ w → (count_leading_zeros w u ≤ count_leading_zeros w v) × Level w u v (count_leading_zeros w v - count_leading_zeros w u)
levels w u v some le fits = at (leading_top w u (omega arith) fits) (leading_top w v some (omega arith))
  where
    at : (p : ℕ) × (count_leading_zeros w u + suc p ≡ w) × (2 ^ p ≤ u) × (u < 2 ^ suc p)
        → (s : ℕ) × (count_leading_zeros w v + suc s ≡ w) × (2 ^ s ≤ v) × (v < 2 ^ suc s)
        → (count_leading_zeros w u ≤ count_leading_zeros w v) × Level w u v (count_leading_zeros w v - count_leading_zeros w u)
    at t y =
        let p : ℕ = t.0 in
        let s : ℕ = y.0 in
        let k : ℕ = count_leading_zeros w v - count_leading_zeros w u in
        let below : s ≤ p = elim (dec_lt p s) [
          | yes l ↦ let m : 2 ^ suc p ≤ 2 ^ s = pow_mono l in omega (arith, t.3, y.2)
          | no f ↦ omega (arith, f)
        ] in
        let e : s + k ≡ p = omega (arith, t.1, y.1) in
        let m : 2 ^ (suc s + k) ≤ 2 ^ w = pow_mono (omega (arith, t.1)) in (
          omega (arith, t.1, y.1),
          record {
            small = omega (arith, t.1, y.1);
            fits = lt_of_lt_of_le (subst⁻¹ (λ (x : ℕ). v * 2 ^ k < x) (pow-add 2 (suc s) k) (mul-lt-mul_of_pos_right y.3 (pow_pos k))) m;
            falls = falls u v s k y.2 y.3 (subst⁻¹ (λ (x : ℕ). 2 ^ x ≤ u) e t.2) (subst⁻¹ (λ (x : ℕ). u < 2 ^ suc x) e t.3);
          },
        )

-- the greater of the two first
pub record Ordered (n r a u v g h sum : ℕ) : Type 0 where
  pub bezout : Bezout n r a u v g h
  pub some : 0 < v
  pub order : v ≤ u
  pub same : u + v ≡ sum

-- what one turn does with them
pub record Turned (n r a u v g h sum k : ℕ) : Type 0 where
  pub less : count_leading_zeros n u ≤ count_leading_zeros n v
  pub small : k < n
  pub fits : v * 2 ^ k < 2 ^ n
  pub bezout : Bezout n r a (bit_xor u (v * 2 ^ k)) v (bit_xor g (product n r h (2 ^ k))) h
  pub falls : bit_xor u (v * 2 ^ k) + v < sum

-- the two ways to order them
pub exchanged : (n r a u v g h : ℕ) → Bezout n r a u v g h → u ≢ 0 → u < v → Ordered n r a v u h g (u + v)
exchanged n r a u v g h z some lt =
    record { bezout = swapped n r a u v g h z; some = omega arith; order = omega arith; same = omega arith }

pub stayed : (n r a u v g h : ℕ) → Bezout n r a u v g h → 0 < v → v ≤ u → Ordered n r a u v g h (u + v)
stayed n r a u v g h z some le = record { bezout = z; some = some; order = le; same = refl }

module _ (n r : ℕ) (pos : 0 < n) (hr : r < 2 ^ n) where
  pub turned : (a u v g h s : ℕ) → Ordered n r a u v g h s → Turned n r a u v g h s (count_leading_zeros n v - count_leading_zeros n u)
  turned a u v g h s o =
      let fits : u < 2 ^ n = subst (λ (x : ℕ). x < 2 ^ n) o.bezout.left (product_lt n r pos hr g a) in
      let l : (count_leading_zeros n u ≤ count_leading_zeros n v) × Level n u v (count_leading_zeros n v - count_leading_zeros n u) = levels n u v o.some o.order fits in
      record {
        less = l.0;
        small = l.1.small;
        fits = l.1.fits;
        bezout = reduces n r pos hr a u v g h (count_leading_zeros n v - count_leading_zeros n u) l.1.fits o.bezout;
        falls = omega (arith, l.1.falls, o.same);
      }

  -- where the turns begin
  pub first : (a : ℕ) → a < 2 ^ n → 1 < a → Bezout n r a (bit_xor r (a * 2 ^ (count_leading_zeros n a + 1) % 2 ^ n)) a (2 ^ (count_leading_zeros n a + 1)) 1
  first a fits big =
      let l : (count_leading_zeros n a + 1 < n) × (2 ^ n ≤ a * 2 ^ (count_leading_zeros n a + 1)) × (a * 2 ^ (count_leading_zeros n a + 1) < 2 * 2 ^ n) = leads n a big fits in
      begins n r pos hr a (count_leading_zeros n a + 1) fits l.0 l.1 l.2

  -- where they end
  pub last_found : (a u v g h : ℕ) → Bezout n r a u v g h → v ≡ 1 → product n r a h ≡ 1
  last_found a u v g h z e = product_comm n r pos hr a h ∙ z.right ∙ e

  pub last_none : (a u v g h : ℕ) → Bezout n r a u v g h → u ≡ 0 → v ≢ 1 → (i : ℕ) → product n r a i ≡ 1 → ⊥
  last_none a u v g h z e ne = none n r pos hr a v g h ne (subst (λ (x : ℕ). Bezout n r a x v g h) e z)

  pub none_zero : (i : ℕ) → product n r 0 i ≡ 1 → ⊥
  unfolding product
  none_zero i f =
      let z : ◌≡◌ {A = ℕ} 0 1 = sym (ap (remainder n r) (zero_clmul i) ∙ remainder_zero n r) ∙ f in
      omega arith
