-- Blending with a hash key, and what undoes it.
use Rattle.std.proofs.Common.{◌≡◌, ℕ, ◌*◌, ◌<◌, length, sym, refl, ap, ◌∙◌}
use lib.Bits.{bit_xor, xor_lt}
use Rattle.rings.specs.Ring.{RingKind, times}
use Rattle.rings.specs.Sums.{hash_sum, sigma}
use Rattle.rings.proofs.Blending.{back, forth}
use Rattle.rings.proofs.Powers.{hash_sum_below}
use Rattle.rings.proofs.Total.{times_below}
use Rattle.passes.specs.Passes.{plus, tail_block}
use Rattle.passes.specs.Sector.{Sector}
use Rattle.passes.proofs.Stages.{Sound, plus_plus, tail_below, added_sound}
use Rattle.tet_theory.specs.Tet.{HashKey, blended, unblended}

module _ (r : RingKind) (m t : ℕ) (short : t < r.width) (h : HashKey) (s : Sector) (ok : Sound r m t s) where
  pub blended_sound : Sound r m t (blended r h s)
  blended_sound =
      added_sound r m t _ (xor_lt (8 * r.width) _ _ (times_below r (hash_sum r h.τ s.blocks) h.«1/σ») (tail_below r m t short s ok)) s ok

  pub unblended_sound : Sound r m t (unblended r h s)
  unblended_sound =
      added_sound r m t _ (xor_lt (8 * r.width) _ _ (hash_sum_below r h.τ s.blocks) (times_below r h.σ (tail_block r s.tail))) s ok

  module _ (sum : h.σ ≡ sigma r h.τ m) (inverse : times r h.σ h.«1/σ» ≡ 1) where
    sum_of : h.σ ≡ sigma r h.τ (length s.blocks)
    sum_of = sum ∙ ap (sigma r h.τ) (sym ok.count)

    inverse_sum : times r (sigma r h.τ (length s.blocks)) h.«1/σ» ≡ 1
    inverse_sum = ap (λ (v : ℕ). times r v h.«1/σ») (sym sum_of) ∙ inverse

    pub unblended_blended : unblended r h (blended r h s) ≡ s
    unblended_blended =
        let xs = s.blocks in
        let p = tail_block r s.tail in
        let v = bit_xor (times r (hash_sum r h.τ xs) h.«1/σ») p in
        let same : bit_xor (hash_sum r h.τ (plus v xs)) (times r h.σ p) ≡ v =
        ap (λ (σ : ℕ). bit_xor (hash_sum r h.τ (plus v xs)) (times r σ p)) sum_of
        ∙ back r h.τ h.«1/σ» p xs (tail_below r m t short s ok) inverse_sum v refl in
        let undo = ap (λ (n : ℕ). plus n (plus v xs)) same ∙ plus_plus v xs in
        λ t. record { blocks = undo t; tail = s.tail }

    pub blended_unblended : blended r h (unblended r h s) ≡ s
    blended_unblended =
        let xs = s.blocks in
        let p = tail_block r s.tail in
        let v = bit_xor (hash_sum r h.τ xs) (times r h.σ p) in
        let is : v ≡ bit_xor (hash_sum r h.τ xs) (times r (sigma r h.τ (length xs)) p) =
        ap (λ (σ : ℕ). bit_xor (hash_sum r h.τ xs) (times r σ p)) sum_of in
        let same = forth r h.τ h.«1/σ» p xs (tail_below r m t short s ok) inverse_sum v is in
        let undo = ap (λ (n : ℕ). plus n (plus v xs)) same ∙ plus_plus v xs in
        λ t. record { blocks = undo t; tail = s.tail }
