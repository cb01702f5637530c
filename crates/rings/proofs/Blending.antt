-- One block added to each block of a row, and the hash sum: what the wide modes blend with, and what undoes it.
use Rattle.std.proofs.Common.{◌≡◌, ℕ, zero, suc, ◌*◌, ◌<◌, List, [], ◌∷◌, map, length, Some, sym, ap, ◌∙◌, ap₂}
use lib.Bits.{bit_xor, xor_comm, xor_assoc, xor_self, xor_zero_l, xor_lt}
use lib.ListN.{length-map}
pub use Rattle.polynomials.proofs.Xor.{cancel}
use Rattle.polynomials.proofs.Xor.{swap4}
use Rattle.rings.specs.Ring.{RingKind, size, times}
use Rattle.rings.specs.Sums.{power, hash_sum, sigma}
use Rattle.rings.proofs.Powers.{power_below, hash_sum_below}
use Rattle.rings.proofs.Total.{one_below, times_below, times_blocks, times_comm, times_assoc, times_distrib, times_over, times_unit}

-- a + (a + b) = b
cancel_left : (a b : ℕ) → bit_xor a (bit_xor a b) ≡ b
cancel_left a b = sym (xor_assoc a a b) ∙ ap (λ (x : ℕ). bit_xor x b) (xor_self a) ∙ xor_zero_l b

-- a + ((a + d) + s) + d = s
left_over : (a d s : ℕ) → bit_xor (bit_xor a (bit_xor (bit_xor a d) s)) d ≡ s
left_over a d s =
    ap (λ (x : ℕ). bit_xor x d) (ap (bit_xor a) (xor_assoc a d s) ∙ cancel_left a (bit_xor d s) ∙ xor_comm d s) ∙ cancel s d

-- a + (b + (a + d)) = b + d
drop_out : (a b d : ℕ) → bit_xor a (bit_xor b (bit_xor a d)) ≡ bit_xor b d
drop_out a b d =
    ap (bit_xor a) (sym (xor_assoc b a d) ∙ ap (λ (x : ℕ). bit_xor x d) (xor_comm b a) ∙ xor_assoc a b d) ∙ cancel_left a (bit_xor b d)

module _ (r : RingKind) where
  pub sigma_below : (τ m : ℕ) → sigma r τ m < size r
  unfolding sigma
  sigma_below τ zero = one_below r
  sigma_below τ (suc m) = xor_lt (8 * r.width) _ _ (sigma_below τ m) (power_below r τ (suc m))

  -- what the ring calls an inverse is one for the product of any numbers
  pub times_inverse : (a b : ℕ) → a < size r → r.inverse a ≡ Some b → times r a b ≡ 1
  times_inverse a b small is = let p = r.inverts a b small is in times_blocks r a b small p.0 ∙ p.1

  -- s added to each block adds s·(σ + 1) to the sum
  pub hash_sum_plus : (τ s : ℕ) → s < size r → (xs : List ℕ)
      → hash_sum r τ (map (λ x. bit_xor x s) xs) ≡ bit_xor (hash_sum r τ xs) (bit_xor (times r s (sigma r τ (length xs))) s)
  unfolding hash_sum sigma
  hash_sum_plus τ s small [] = sym (xor_zero_l _ ∙ ap (λ (x : ℕ). bit_xor x s) (times_unit r s small) ∙ xor_self s)
  hash_sum_plus τ s small (x ∷ xs) =
      let n = length xs in
      let p = power r τ (suc n) in
      let A = times r x p in
      let B = times r s p in
      let D = times r s (sigma r τ n) in
      ap₂ (λ (k y : ℕ). bit_xor (times r (bit_xor x s) (power r τ (suc k))) y) (length-map xs (λ x. bit_xor x s)) (hash_sum_plus τ s small xs)
      ∙ ap (λ (y : ℕ). bit_xor y (bit_xor (hash_sum r τ xs) (bit_xor D s))) (times_over r x s p)
      ∙ swap4 A B (hash_sum r τ xs) (bit_xor D s)
      ∙ ap (bit_xor (bit_xor A (hash_sum r τ xs)))
      (sym (xor_assoc B D s) ∙ ap (λ (y : ℕ). bit_xor y s) (xor_comm B D ∙ sym (times_distrib r s (sigma r τ n) p)))

  module _ (τ ι p : ℕ) (xs : List ℕ) (small : p < size r) (inverse : times r (sigma r τ (length xs)) ι ≡ 1) where
    -- with s = H·(1/σ) + p, the sum over the blocks with s added, and σ·p, make s again
    pub back : (s : ℕ) → s ≡ bit_xor (times r (hash_sum r τ xs) ι) p
        → bit_xor (hash_sum r τ (map (λ x. bit_xor x s) xs)) (times r (sigma r τ (length xs)) p) ≡ s
    back s e =
        let h = hash_sum r τ xs in
        let σ = sigma r τ (length xs) in
        let low : s < size r = rw e (xor_lt (8 * r.width) _ _ (times_below r h ι) small) in
        let once : times r (times r h ι) σ ≡ h =
        times_assoc r h ι σ ∙ ap (times r h) (times_comm r ι σ ∙ inverse) ∙ times_unit r h (hash_sum_below r τ xs) in
        let full : times r s σ ≡ bit_xor h (times r σ p) =
        ap (λ (x : ℕ). times r x σ) e ∙ times_over r (times r h ι) p σ ∙ ap₂ bit_xor once (times_comm r p σ) in
        ap (λ (x : ℕ). bit_xor x (times r σ p)) (hash_sum_plus τ s low xs ∙ ap (λ (x : ℕ). bit_xor h (bit_xor x s)) full)
        ∙ left_over h (times r σ p) s

    -- with s = H + σ·p, the sum over the blocks with s added, times 1/σ, and p, make s again
    pub forth : (s : ℕ) → s ≡ bit_xor (hash_sum r τ xs) (times r (sigma r τ (length xs)) p)
        → bit_xor (times r (hash_sum r τ (map (λ x. bit_xor x s) xs)) ι) p ≡ s
    forth s e =
        let h = hash_sum r τ xs in
        let σ = sigma r τ (length xs) in
        let low : s < size r = rw e (xor_lt (8 * r.width) _ _ (hash_sum_below r τ xs) (times_below r σ p)) in
        let sum : hash_sum r τ (map (λ x. bit_xor x s) xs) ≡ times r σ (bit_xor s p) =
        hash_sum_plus τ s low xs
        ∙ ap (λ (x : ℕ). bit_xor h (bit_xor (times r s σ) x)) e
        ∙ drop_out h (times r s σ) (times r σ p)
        ∙ ap (λ (x : ℕ). bit_xor x (times r σ p)) (times_comm r s σ)
        ∙ sym (times_distrib r σ s p) in
        let once : times r (times r σ (bit_xor s p)) ι ≡ bit_xor s p =
        ap (λ (x : ℕ). times r x ι) (times_comm r σ (bit_xor s p))
        ∙ times_assoc r (bit_xor s p) σ ι
        ∙ ap (times r (bit_xor s p)) inverse
        ∙ times_unit r (bit_xor s p) (xor_lt (8 * r.width) s p low small) in
        ap (λ (x : ℕ). bit_xor x p) (ap (λ (x : ℕ). times r x ι) sum ∙ once) ∙ cancel s p
