-- Sums of powers in a block ring.
use Rattle.std.specs.Prelude.{ℕ, zero, suc, List, [], ◌∷◌, length, bit_xor}
use Rattle.rings.specs.Ring.{RingKind, times}

module _ (r : RingKind) where
  -- τ^m
  unfoldable pub power : ℕ → ℕ → ℕ
  power τ zero = 1
  power τ (suc m) = times r τ (power τ m)

  -- H(τ; B_1..B_m) = B_1·τ^m + B_2·τ^(m-1) + .. + B_m·τ
  unfoldable pub hash_sum : ℕ → List ℕ → ℕ
  hash_sum τ [] = 0
  hash_sum τ (b ∷ bs) = bit_xor (times r b (power τ (suc (length bs)))) (hash_sum τ bs)

  -- σ = 1 + τ + .. + τ^m
  unfoldable pub sigma : ℕ → ℕ → ℕ
  sigma τ zero = 1
  sigma τ (suc m) = bit_xor (sigma τ m) (power τ (suc m))
