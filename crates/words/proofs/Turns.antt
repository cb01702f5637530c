-- What the loops of the arithmetic do in a turn, over any width n and any modulus x^n + r.
use Rattle.std.proofs.Common.{◌≡◌, ℕ, zero, suc, ◌+◌, ◌-◌, ◌*◌, ◌/◌, ◌%◌, ◌^◌, ◌<◌, ◌≤◌, ◌≢◌, sym, ap, ◌∙◌, subst, ap₂, lt_of_lt_of_le, mod-lt, mod-eq_of_lt, zero-lt-suc, mul_comm, div-lt_iff_lt-mul, add_comm, one-mul, add-one, arith, pow_pos, pow-add, shr-shr, shr_lt}
use mathlib.Core.Path.{subst⁻¹}
use native.Mathlib.Nat.{div-div-eq-div-mul, mul-div_cancel_left, mul-div-mul_right, div-eq_of_lt, mod-one, pow-le-pow_right, pow-succ'}
use lib.Bits.{bit_xor, xor_comm, xor_self, xor_shifted}
use lib.Count.{count_leading_zeros}
use lib.Pow.{pow-lt, split, mod-pow-add}
use Rattle.polynomials.specs.Polynomial.{action, clmul, xtime, remainder, product}
use Rattle.polynomials.proofs.Action.{action_times_x, action_one, clmul_comm, clmul_assoc}
use Rattle.polynomials.proofs.Euclid.{Bezout, Ordered, leads, exchanged, stayed, turned, first, clmul_pow}
use Rattle.polynomials.proofs.Quotient.{xtime_xor, xtime_shifts, remainder_xor, remainder_small, remainder_pow, remainder_left, product_action, product_comm, product_xor}
use Rattle.polynomials.proofs.Xor.{bit_over}

-- the top bit stays where x·a is cut to the word
half_top : (k a : ℕ) → 2 * a / 2 ^ suc k ≡ a / 2 ^ k
half_top k a =
    ap (λ (x : ℕ). 2 * a / x) (pow-succ' 2 k) ∙ sym (div-div-eq-div-mul (2 * a) 2 (2 ^ k))
    ∙ ap (λ (x : ℕ). x / 2 ^ k) (mul-div_cancel_left a (zero-lt-suc 1))

-- x·a: shift, and add r where the top bit was set
pub doubled : (n r a top : ℕ) → 0 < n → r < 2 ^ n → a < 2 ^ n → top ≡ a / 2 ^ (n - 1)
    → bit_xor (a * 2 % 2 ^ n) ((top % 2) * r) ≡ xtime n r a
doubled zero r a top pos hr h e = absurd (omega arith)
doubled (suc k) r a top pos hr h e =
    let p : suc k - 1 ≡ k = omega arith in
    let is : top ≡ a / 2 ^ k = e ∙ ap (λ (x : ℕ). a / 2 ^ x) p in
    let high : a / 2 ^ k < 2 = (div-lt_iff_lt-mul {k = 2 ^ k} {x = a} {y = 2} (pow_pos k)).1 (subst (λ (x : ℕ). a < x) (pow-succ' 2 k) h) in
    let bit : top % 2 ≡ 2 * a / 2 ^ suc k = mod-eq_of_lt (omega arith) ∙ is ∙ sym (half_top k a) in
    ap₂ (λ (x y : ℕ). bit_xor (x % 2 ^ suc k) (y * r)) (mul_comm a 2) bit ∙ sym (xtime_shifts (suc k) r a hr h)

-- a polynomial as its coefficients from x^k on and those below
halves : (b k : ℕ) → b ≡ bit_xor (b / 2 ^ k * 2 ^ k) (b % 2 ^ k)
halves b k = sym (xor_shifted (b / 2 ^ k) k (b % 2 ^ k) (mod-lt b (pow_pos k)) ∙ split b k)

-- the lowest k coefficients, and one more
one_more : (b k : ℕ) → b % 2 ^ (k + 1) ≡ bit_xor (b % 2 ^ k) ((b / 2 ^ k % 2) * 2 ^ k)
one_more b k =
    ap (λ (x : ℕ). b % 2 ^ x) (add_comm k 1) ∙ mod-pow-add b 1 k
    ∙ sym (xor_shifted (b / 2 ^ k % 2) k (b % 2 ^ k) (mod-lt b (pow_pos k))) ∙ xor_comm ((b / 2 ^ k % 2) * 2 ^ k) (b % 2 ^ k)

module _ (n r : ℕ) (pos : 0 < n) (hr : r < 2 ^ n) where
  product_zero : (a : ℕ) → product n r a 0 ≡ 0
  product_zero a = product_xor n r pos hr a 0 0 ∙ xor_self (product n r a 0)

  -- the lowest coefficients of b, from turn to turn
  pub byte_begins : (a b sum : ℕ) → sum ≡ 0 → sum ≡ product n r a (b % 2 ^ 0)
  byte_begins a b sum e = e ∙ sym (ap (product n r a) (mod-one b) ∙ product_zero a)

  pub byte_turns : (a b k sum power left sum' : ℕ) → sum ≡ product n r a (b % 2 ^ k) → power ≡ product n r a (2 ^ k)
      → left ≡ b / 2 ^ k → sum' ≡ bit_xor sum ((left % 2) * power) → sum' ≡ product n r a (b % 2 ^ (k + 1))
  byte_turns a b k sum power left sum' e ep el es =
      es
      ∙ ap₂ bit_xor e (ap₂ (λ (x y : ℕ). (x % 2) * y) el ep
      ∙ sym (bit_over (product n r a) (product_zero a) (b / 2 ^ k % 2) (2 ^ k) (mod-lt (b / 2 ^ k) (zero-lt-suc 1))))
      ∙ sym (product_xor n r pos hr a (b % 2 ^ k) ((b / 2 ^ k % 2) * 2 ^ k)) ∙ ap (product n r a) (sym (one_more b k))

  -- Horner's rule, from turn to turn: a·(c_high·x^8 + c_low) = (a·c_high)·x^8 + a·c_low
  product_shift : (a q : ℕ) → product n r (product n r a q) (2 ^ 8) ≡ product n r a (q * 2 ^ 8)
  unfolding product
  product_shift a q =
      remainder_left n r pos hr (clmul a q) (2 ^ 8) ∙ ap (remainder n r) (clmul_assoc a q (2 ^ 8) ∙ ap (clmul a) (clmul_pow q 8))

  pub horner_begins : (a b i sum : ℕ) → b < 2 ^ n → n ≤ 8 * i → sum ≡ 0 → sum ≡ product n r a (b / 2 ^ (8 * i))
  horner_begins a b i sum fits all e =
      let none : b / 2 ^ (8 * i) ≡ 0 = div-eq_of_lt (lt_of_lt_of_le fits (pow-le-pow_right (omega arith) all)) in
      e ∙ sym (ap (product n r a) none ∙ product_zero a)

  pub horner_turns : (a b i j sum left high lowest sum' : ℕ) → i ≡ j + 1 → sum ≡ product n r a (b / 2 ^ (8 * i)) → left ≡ b / 2 ^ (8 * j)
      → high ≡ product n r sum (2 ^ 8) → lowest ≡ product n r a (left % 2 ^ 8) → sum' ≡ bit_xor high lowest → sum' ≡ product n r a (b / 2 ^ (8 * j))
  horner_turns a b i j sum left high lowest sum' ei e el eh ew es =
      let c : ℕ = b / 2 ^ (8 * j) in
      let next : 8 * i ≡ 8 * j + 8 = omega arith in
      let above : b / 2 ^ (8 * i) ≡ c / 2 ^ 8 = ap (λ (x : ℕ). b / 2 ^ x) next ∙ sym (shr-shr b (8 * j) 8) in
      es
      ∙ ap₂ bit_xor (eh ∙ ap (λ (x : ℕ). product n r x (2 ^ 8)) (e ∙ ap (product n r a) above) ∙ product_shift a (c / 2 ^ 8))
      (ew ∙ ap (λ (x : ℕ). product n r a (x % 2 ^ 8)) el)
      ∙ sym (product_xor n r pos hr a (c / 2 ^ 8 * 2 ^ 8) (c % 2 ^ 8)) ∙ ap (product n r a) (sym (halves c 8))

  -- x^8·a: what passes the word is a multiple of x^n, and x^n is r
  over_folds : (q : ℕ) → remainder n r (q * 2 ^ n) ≡ product n r r q
  unfolding product
  over_folds q =
      ap (remainder n r) (sym (clmul_pow q n) ∙ clmul_comm q (2 ^ n)) ∙ sym (remainder_left n r pos hr (2 ^ n) q)
      ∙ ap (λ (x : ℕ). remainder n r (clmul x q)) (remainder_pow n r pos hr)

  pub x8_folds : (a over kept folded x : ℕ) → 8 ≤ n → over ≡ a / 2 ^ (n - 8) → kept ≡ a * 2 ^ 8 % 2 ^ n → folded ≡ product n r r over
      → x ≡ bit_xor kept folded → x ≡ product n r a (2 ^ 8)
  unfolding product
  x8_folds a over kept folded x wide eo ek ef ex =
      let c : ℕ = a * 2 ^ 8 in
      let e : n ≡ n - 8 + 8 = omega arith in
      let over_is : c / 2 ^ n ≡ over =
      ap (λ (y : ℕ). c / y) (ap (λ (y : ℕ). 2 ^ y) e ∙ pow-add 2 (n - 8) 8) ∙ mul-div-mul_right a (2 ^ (n - 8)) (pow_pos 8) ∙ sym eo in
      ex
      ∙ ap₂ bit_xor (ek ∙ sym (remainder_small n r (c % 2 ^ n) (mod-lt c (pow_pos n)))) (ef ∙ ap (product n r r) (sym over_is) ∙ sym (over_folds (c / 2 ^ n)))
      ∙ xor_comm (remainder n r (c % 2 ^ n)) (remainder n r (c / 2 ^ n * 2 ^ n))
      ∙ sym (remainder_xor n r (c / 2 ^ n * 2 ^ n) (c % 2 ^ n)) ∙ ap (remainder n r) (sym (halves c n) ∙ sym (clmul_pow a 8))

  -- x^n·over by the coefficients of r, where it has at most eight
  pub over_by_low : (over p : ℕ) → r / 2 ^ 8 ≡ 0 → p ≡ product n r over (r % 2 ^ 8) → p ≡ product n r r over
  over_by_low over p small e =
      let all : r % 2 ^ 8 ≡ r = omega (arith, small, split r 8) in
      e ∙ ap (product n r over) all ∙ product_comm n r pos hr over r

  -- and by those of over, which has at most eight
  pub low_by_over : (a over p : ℕ) → 8 ≤ n → a < 2 ^ n → over ≡ a / 2 ^ (n - 8) → p ≡ product n r r (over % 2 ^ 8) → p ≡ product n r r over
  low_by_over a over p wide fits eo e =
      let w : n ≡ 8 + (n - 8) = omega arith in
      let small : a / 2 ^ (n - 8) < 2 ^ 8 = shr_lt 8 (n - 8) (subst (λ (x : ℕ). a < 2 ^ x) w fits) in
      e ∙ ap (product n r r) (mod-eq_of_lt (subst⁻¹ (λ (x : ℕ). x < 2 ^ 8) eo small))

module _ (n r : ℕ) where
  -- x^i·a, from turn to turn
  pub power_begins : (a : ℕ) → 0 < n → r < 2 ^ n → a < 2 ^ n → a ≡ product n r a (2 ^ 0)
  power_begins a pos hr h = sym (product_action n r pos hr a 1 h ∙ action_one (xtime n r) (xtime_xor n r) a)

  pub power_turns : (a i power : ℕ) → 0 < n → r < 2 ^ n → a < 2 ^ n → power ≡ product n r a (2 ^ i) → xtime n r power ≡ product n r a (2 ^ (i + 1))
  power_turns a i power pos hr h e =
      ap (xtime n r) (e ∙ product_action n r pos hr a (2 ^ i) h)
      ∙ sym (action_times_x (xtime n r) (xtime_xor n r) (2 ^ i) a)
      ∙ ap (λ (x : ℕ). action (xtime n r) x a) (sym (ap (λ (x : ℕ). 2 ^ x) (add-one i) ∙ pow-succ' 2 i))
      ∙ sym (product_action n r pos hr a (2 ^ (i + 1)) h)

-- Euclid's loop, from the equations that the calls of a turn promise
module _ (n r a : ℕ) where
  pub euclid_begins : (j u g h one : ℕ) → 0 < n → r < 2 ^ n → a < 2 ^ n → 1 < a → j ≡ count_leading_zeros n a
      → u ≡ bit_xor r (a * 2 ^ (j + 1) % 2 ^ n) → g ≡ one * 2 ^ (j + 1) % 2 ^ n → one ≡ 1 → h ≡ 1 → Bezout n r a u a g h
  euclid_begins j u g h one pos hr fits big ej eu eg eo eh =
      let small : 2 ^ (count_leading_zeros n a + 1) < 2 ^ n = pow-lt (leads n a big fits).0 in
      let g_is : g ≡ 2 ^ (count_leading_zeros n a + 1) =
      eg ∙ ap₂ (λ (x y : ℕ). x * 2 ^ (y + 1) % 2 ^ n) eo ej ∙ ap (λ (x : ℕ). x % 2 ^ n) (one-mul (2 ^ (count_leading_zeros n a + 1))) ∙ mod-eq_of_lt small in
      let u_is : u ≡ bit_xor r (a * 2 ^ (count_leading_zeros n a + 1) % 2 ^ n) = eu ∙ ap (λ (x : ℕ). bit_xor r (a * 2 ^ (x + 1) % 2 ^ n)) ej in
      rw (u_is, g_is, eh) (first n r pos hr a fits big)

  pub euclid_exchanges : (u v g h u' v' g' h' : ℕ) → Bezout n r a u v g h → u ≢ 0 → u < v
      → u' ≡ v → v' ≡ u → g' ≡ h → h' ≡ g → Ordered n r a u' v' g' h' (u + v)
  euclid_exchanges u v g h u' v' g' h' z some lt eu ev eg eh = rw (eu, ev, eg, eh) (exchanged n r a u v g h z some lt)

  pub euclid_stays : (u v g h u' v' g' h' : ℕ) → Bezout n r a u v g h → 0 < v → v ≤ u
      → u' ≡ u → v' ≡ v → g' ≡ g → h' ≡ h → Ordered n r a u' v' g' h' (u + v)
  euclid_stays u v g h u' v' g' h' z some le eu ev eg eh = rw (eu, ev, eg, eh) (stayed n r a u v g h z some le)

  pub euclid_turns : (u v g h sum zv zu shifted u' p g' : ℕ) → 0 < n → r < 2 ^ n → Ordered n r a u v g h sum
      → zv ≡ count_leading_zeros n v → zu ≡ count_leading_zeros n u → shifted ≡ v * 2 ^ (zv - zu) % 2 ^ n → u' ≡ bit_xor u shifted
      → p ≡ product n r h (2 ^ (zv - zu)) → g' ≡ bit_xor g p → Bezout n r a u' v g' h × (u' + v < sum)
  euclid_turns u v g h sum zv zu shifted u' p g' pos hr o ev eu es eu' ep eg' =
      let t = turned n r pos hr a u v g h sum o in
      let k : zv - zu ≡ count_leading_zeros n v - count_leading_zeros n u = ap₂ (λ (x y : ℕ). x - y) ev eu in
      let u_is : u' ≡ bit_xor u (v * 2 ^ (count_leading_zeros n v - count_leading_zeros n u)) =
      eu' ∙ ap (bit_xor u) (es ∙ ap (λ (x : ℕ). v * 2 ^ x % 2 ^ n) k ∙ mod-eq_of_lt t.fits) in
      let g_is : g' ≡ bit_xor g (product n r h (2 ^ (count_leading_zeros n v - count_leading_zeros n u))) =
      eg' ∙ ap (bit_xor g) (ep ∙ ap (λ (x : ℕ). product n r h (2 ^ x)) k) in
      rw (u_is, g_is) (t.bezout, t.falls)
