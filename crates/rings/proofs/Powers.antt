-- What the loops over powers of τ do in a turn.
use Rattle.std.proofs.Common.{◌≡◌, ℕ, zero, suc, ◌+◌, ◌*◌, ◌<◌, List, [], ◌∷◌, ◌++◌, length, sym, refl, ap, ◌∙◌, ap₂, add-zero, add-suc, add-one, arith, length-append, pow_pos}
use lib.Bits.{bit_xor, xor_assoc, xor_zero_l, xor_zero_r, xor_lt}
use Rattle.rings.specs.Ring.{RingKind, size, times}
use Rattle.rings.specs.Sums.{power, hash_sum, sigma}
use Rattle.rings.proofs.Total.{one_below, times_below, times_blocks, times_comm, times_assoc, times_distrib, times_over, times_unit, zero_times}

module _ (r : RingKind) where
  pub power_below : (τ m : ℕ) → power r τ m < size r
  unfolding power
  power_below τ zero = one_below r
  power_below τ (suc m) = times_below r τ (power r τ m)

  pub hash_sum_below : (τ : ℕ) (bs : List ℕ) → hash_sum r τ bs < size r
  unfolding hash_sum
  hash_sum_below τ [] = pow_pos (8 * r.width)
  hash_sum_below τ (b ∷ bs) = xor_lt (8 * r.width) _ _ (times_below r b (power r τ (suc (length bs)))) (hash_sum_below τ bs)

  pub hash_sum_none : (τ : ℕ) → hash_sum r τ [] ≡ 0
  unfolding hash_sum
  hash_sum_none τ = refl

  -- Horner's rule: H(τ; B_1..B_m, B) = (H(τ; B_1..B_m) + B)·τ
  pub hash_sum_push : (τ : ℕ) → τ < size r → (bs : List ℕ) (b : ℕ) → hash_sum r τ (bs ++ (b ∷ [])) ≡ times r (bit_xor (hash_sum r τ bs) b) τ
  unfolding hash_sum power
  hash_sum_push τ small [] b =
      xor_zero_r (times r b (times r τ 1)) ∙ ap (times r b) (times_unit r τ small) ∙ ap (λ (x : ℕ). times r x τ) (sym (xor_zero_l b))
  hash_sum_push τ small (x ∷ xs) b =
      let p : ℕ = power r τ (suc (length xs)) in
      let more : ℕ = times r (bit_xor (hash_sum r τ xs) b) τ in
      let long : length (xs ++ (b ∷ [])) ≡ suc (length xs) = simp length-append (omega arith) in
      ap₂ (λ (n y : ℕ). bit_xor (times r x (power r τ (suc n))) y) long (hash_sum_push τ small xs b)
      ∙ ap (λ (y : ℕ). bit_xor y more) (ap (times r x) (times_comm r τ p) ∙ sym (times_assoc r x p τ))
      ∙ sym (times_over r (times r x p) (bit_xor (hash_sum r τ xs) b) τ)
      ∙ ap (λ (y : ℕ). times r y τ) (sym (xor_assoc (times r x p) (hash_sum r τ xs) b))

  -- one turn of the loop
  pub hash_sum_turns : (τ sum b sum' : ℕ) (bs : List ℕ) → τ < size r → b < size r → sum ≡ hash_sum r τ bs → sum' ≡ r.product (bit_xor sum b) τ
      → sum' ≡ hash_sum r τ (bs ++ (b ∷ []))
  hash_sum_turns τ sum b sum' bs small below inv e =
      e ∙ ap (λ (x : ℕ). r.product (bit_xor x b) τ) inv
      ∙ sym (times_blocks r (bit_xor (hash_sum r τ bs) b) τ (xor_lt (8 * r.width) _ _ (hash_sum_below τ bs) below) small)
      ∙ sym (hash_sum_push τ small bs b)

  -- the same turn, multiplied out
  pub hash_sum_added : (τ : ℕ) → τ < size r → (bs : List ℕ) (b : ℕ) → b < size r
      → hash_sum r τ (bs ++ (b ∷ [])) ≡ bit_xor (r.product (hash_sum r τ bs) τ) (r.product b τ)
  hash_sum_added τ small bs b below =
      hash_sum_push τ small bs b ∙ times_over r (hash_sum r τ bs) b τ
      ∙ ap₂ bit_xor (times_blocks r (hash_sum r τ bs) τ (hash_sum_below τ bs) small) (times_blocks r b τ below small)

  pub power_none : (τ : ℕ) → power r τ 0 ≡ 1
  unfolding power
  power_none τ = refl

  -- one more power
  pub power_more : (τ m : ℕ) → τ < size r → power r τ (m + 1) ≡ r.product τ (power r τ m)
  unfolding power
  power_more τ m small = ap (power r τ) (add-one m) ∙ times_blocks r τ (power r τ m) small (power_below τ m)

  -- ---- sums of powers by doubling

  -- 1 + τ + .. + τ^(k-1)
  unfoldable pub first_powers : ℕ → ℕ → ℕ
  first_powers τ zero = 0
  first_powers τ (suc k) = bit_xor (first_powers τ k) (power r τ k)

  first_powers_below : (τ k : ℕ) → first_powers τ k < size r
  unfolding first_powers
  first_powers_below τ zero = pow_pos (8 * r.width)
  first_powers_below τ (suc k) = xor_lt (8 * r.width) _ _ (first_powers_below τ k) (power_below τ k)

  -- τ^(a+b) = τ^a·τ^b
  power_add : (τ a b : ℕ) → power r τ (a + b) ≡ times r (power r τ a) (power r τ b)
  unfolding power
  power_add τ a zero = ap (power r τ) (add-zero a) ∙ sym (times_unit r (power r τ a) (power_below τ a))
  power_add τ a (suc b) =
      ap (power r τ) (add-suc a b) ∙ ap (times r τ) (power_add τ a b) ∙ times_comm r τ (times r (power r τ a) (power r τ b))
      ∙ times_assoc r (power r τ a) (power r τ b) τ ∙ ap (times r (power r τ a)) (times_comm r (power r τ b) τ)

  -- the first a + b powers: the first a, and τ^a times the first b
  first_powers_add : (τ a b : ℕ) → first_powers τ (a + b) ≡ bit_xor (first_powers τ a) (times r (power r τ a) (first_powers τ b))
  unfolding first_powers
  first_powers_add τ a zero =
      ap (first_powers τ) (add-zero a)
      ∙ sym (ap (bit_xor (first_powers τ a)) (times_comm r (power r τ a) 0 ∙ zero_times r (power r τ a)) ∙ xor_zero_r (first_powers τ a))
  first_powers_add τ a (suc b) =
      ap (first_powers τ) (add-suc a b) ∙ ap₂ bit_xor (first_powers_add τ a b) (power_add τ a b)
      ∙ xor_assoc (first_powers τ a) (times r (power r τ a) (first_powers τ b)) (times r (power r τ a) (power r τ b))
      ∙ ap (bit_xor (first_powers τ a)) (sym (times_distrib r (power r τ a) (first_powers τ b) (power r τ b)))

  sigma_first : (τ m : ℕ) → sigma r τ m ≡ first_powers τ (suc m)
  unfolding sigma first_powers power
  sigma_first τ zero = refl
  sigma_first τ (suc m) = ap (λ (x : ℕ). bit_xor x (power r τ (suc m))) (sigma_first τ m)

  -- what the loop keeps after k powers
  pub record Summed (τ k sum last : ℕ) : Type 0 where
    pub powers : sum ≡ first_powers τ k
    pub next : last ≡ power r τ k

  pub summed_one : (τ sum : ℕ) → τ < size r → sum ≡ 1 → Summed τ 1 sum τ
  unfolding first_powers power
  summed_one τ sum small es = record { powers = es; next = sym (times_unit r τ small) }

  pub powers_one : (τ k sum last : ℕ) → Summed τ k sum last → k ≡ 1 → sum ≡ 1
  unfolding first_powers power
  powers_one τ k sum last z e = z.powers ∙ ap (first_powers τ) e

  pub summed_doubled : (τ k sum last sum' last' p : ℕ) → Summed τ k sum last → p ≡ r.product last sum → sum' ≡ bit_xor sum p → last' ≡ r.product last last
      → Summed τ (k + k) sum' last'
  summed_doubled τ k sum last sum' last' p z ep es el =
      let product_is : p ≡ times r (power r τ k) (first_powers τ k) =
      ep ∙ ap₂ r.product z.next z.powers ∙ sym (times_blocks r (power r τ k) (first_powers τ k) (power_below τ k) (first_powers_below τ k)) in
      record {
        powers = es ∙ ap₂ bit_xor z.powers product_is ∙ sym (first_powers_add τ k k);
        next = el ∙ ap₂ r.product z.next z.next ∙ sym (times_blocks r (power r τ k) (power r τ k) (power_below τ k) (power_below τ k)) ∙ sym (power_add τ k k);
      }

  pub summed_more : (τ k sum last sum' last' : ℕ) → τ < size r → Summed τ k sum last → sum' ≡ bit_xor sum last → last' ≡ r.product τ last
      → Summed τ (k + 1) sum' last'
  unfolding first_powers power
  summed_more τ k sum last sum' last' small z es el =
      record {
        powers = es ∙ ap₂ bit_xor z.powers z.next ∙ ap (first_powers τ) (sym (add-one k));
        next = el ∙ ap (r.product τ) z.next ∙ sym (power_more τ k small);
      }

  -- σ for a sector of no block and of one
  pub sigma_none : (τ one : ℕ) → one ≡ 1 → one ≡ sigma r τ 0
  unfolding sigma
  sigma_none τ one e = e

  pub sigma_one : (τ one sum : ℕ) → τ < size r → one ≡ 1 → sum ≡ bit_xor one τ → sum ≡ sigma r τ 1
  unfolding sigma power
  sigma_one τ one sum small eo es = es ∙ ap₂ bit_xor eo (sym (times_unit r τ small))

  -- the first k + 1 powers
  more_powers : (τ k sum last more : ℕ) → Summed τ k sum last → more ≡ bit_xor sum last → more ≡ first_powers τ (suc k)
  unfolding first_powers
  more_powers τ k sum last more z em = em ∙ ap₂ bit_xor z.powers z.next

  -- the first k + (k + 1) powers, for m = 2k
  pub sigma_even : (τ m k sum last more p result : ℕ) → Summed τ k sum last → m ≡ k + k → more ≡ bit_xor sum last
      → p ≡ r.product last more → result ≡ bit_xor sum p → result ≡ sigma r τ m
  sigma_even τ m k sum last more p result z e em ep er =
      let p_is : p ≡ times r (power r τ k) (first_powers τ (suc k)) =
      ep ∙ ap₂ r.product z.next (more_powers τ k sum last more z em)
      ∙ sym (times_blocks r (power r τ k) (first_powers τ (suc k)) (power_below τ k) (first_powers_below τ (suc k))) in
      er ∙ ap₂ bit_xor z.powers p_is ∙ sym (first_powers_add τ k (suc k)) ∙ ap (first_powers τ) (add-suc k k ∙ ap suc (sym e)) ∙ sym (sigma_first τ m)

  -- the first (k + 1) + (k + 1) powers, for m = 2k + 1
  pub sigma_odd : (τ m k sum last more next p result : ℕ) → τ < size r → Summed τ k sum last → m ≡ k + k + 1 → more ≡ bit_xor sum last
      → next ≡ r.product τ last → p ≡ r.product next more → result ≡ bit_xor more p → result ≡ sigma r τ m
  sigma_odd τ m k sum last more next p result small z e em en ep er =
      let more_is = more_powers τ k sum last more z em in
      let next_is : next ≡ power r τ (suc k) = en ∙ ap (r.product τ) z.next ∙ sym (power_more τ k small) ∙ ap (power r τ) (add-one k) in
      let p_is : p ≡ times r (power r τ (suc k)) (first_powers τ (suc k)) =
      ep ∙ ap₂ r.product next_is more_is
      ∙ sym (times_blocks r (power r τ (suc k)) (first_powers τ (suc k)) (power_below τ (suc k)) (first_powers_below τ (suc k))) in
      let count : suc k + suc k ≡ suc m = omega arith in
      er ∙ ap₂ bit_xor more_is p_is ∙ sym (first_powers_add τ (suc k) (suc k)) ∙ ap (first_powers τ) count ∙ sym (sigma_first τ m)
