-- The hash key, as the code works it out.
use Rattle.std.proofs.Common.{◌≡◌, ℕ, ◌/◌, ◌<◌, ◌≤◌, true, leb, None, Option, sym, ap, ◌∙◌, ap₂}
use Rattle.std.proofs.lemmas.Bool.{and_from, le-leb, cond-true}
use Rattle.rings.specs.Ring.{RingKind, size, times}
use Rattle.rings.specs.Sums.{sigma}
use Rattle.rings.proofs.Total.{alpha_below, times_blocks}
use Rattle.tet_theory.specs.Tet.{size_fits, hash_with, hash_key}

-- α times a block
pub times_alpha : (r : RingKind) (x y : ℕ) → x < size r → y ≡ r.product 2 x → y ≡ times r 2 x
times_alpha r x y small is = is ∙ sym (times_blocks r 2 x (alpha_below r) small)

pub size_fit : (r : RingKind) (n : ℕ) → r.width ≤ n → n ≤ r.longest → size_fits r n ≡ true
size_fit r n low high = and_from (leb r.width n) (leb n r.longest) (le-leb r.width n low) (le-leb n r.longest high)

-- from z = 0, x = E(z), y = α·x, τ = E(y) and σ, in code that holds the width as v
pub hash_made : (r : RingKind) (E : ℕ → ℕ) (n v z x y τ σ : ℕ) (ι : Option ℕ) → r.width ≤ n → n ≤ r.longest → x < size r
    → v ≡ r.width → z ≡ 0 → x ≡ E z → y ≡ r.product 2 x → τ ≡ E y → σ ≡ sigma r τ (n / v) → ι ≡ r.inverse σ → hash_with r τ σ ι ≡ hash_key r E n
hash_made r E n v z x y τ σ ι low high small v_is z_is x_is y_is τ_is σ_is ι_is =
    let τ_made : τ ≡ E (times r 2 (E 0)) = τ_is ∙ ap E (times_alpha r x y small y_is ∙ ap (times r 2) (x_is ∙ ap E z_is)) in
    let σ_made : σ ≡ sigma r (E (times r 2 (E 0))) (n / r.width) = σ_is ∙ ap₂ (sigma r) τ_made (ap (λ (w : ℕ). n / w) v_is) in
    let ι_made = ι_is ∙ ap r.inverse σ_made in
    (λ t. hash_with r (τ_made t) (σ_made t) (ι_made t)) ∙ sym (cond-true (size_fits r n) _ None (size_fit r n low high))
