-- The passes of a sector, one after another.
use Rattle.std.proofs.Common.{◌≡◌, ℕ, ◌/◌, ◌%◌, ◌<◌, List, length, ◌∙◌}
use Rattle.std.specs.Int.Digits.{AllBelowBase}
use Rattle.rings.specs.Ring.{RingKind, size}
use Rattle.passes.specs.Passes.{mapped, whitened}
use Rattle.passes.specs.Sector.{Sector, parted, rowwise}
use Rattle.passes.proofs.Parts.{parted_sound, stage, tail_short}
use Rattle.passes.proofs.Stages.{Sound, mapped_sound, whitened_sound}
use Rattle.tet_theory.specs.Tet.{crypted, crypted_tail}
use Rattle.tet_theory.proofs.Lasts.{crypted_sound}

-- f is E or D, and B what blends or unblends
module _ (r : RingKind) (f : ℕ → ℕ) (low : (x : ℕ) → x < size r → f x < size r) (β : ℕ) (B : Sector → Sector)
    (sound : (m t : ℕ) → t < r.width → (s : Sector) → Sound r m t s → Sound r m t (B s)) where
  pub passed : (bs one two three four five six : List ℕ) → AllBelowBase 256 bs
      → one ≡ rowwise r.width B bs
      → two ≡ rowwise r.width (whitened r β) one
      → three ≡ rowwise r.width (mapped f) two
      → four ≡ rowwise r.width (crypted_tail r f) three
      → five ≡ rowwise r.width (whitened r β) four
      → six ≡ rowwise r.width B five
      → six ≡ rowwise r.width (λ X. B (whitened r β (crypted r f (whitened r β (B X))))) bs
  passed bs one two three four five six under is1 is2 is3 is4 is5 is6 =
      let m = length bs / r.width in
      let t = length bs % r.width in
      let short = tail_short r (length bs) in
      let s0 = parted r.width bs in
      let s1 = B s0 in
      let o1 = sound m t short s0 (parted_sound r bs under) in
      let s2 = whitened r β s1 in
      let o2 = whitened_sound r m t β s1 o1 in
      let s3 = mapped f s2 in
      let o3 = mapped_sound r m t f low s2 o2 in
      let s4 = crypted r f s2 in
      let o4 = crypted_sound r f low m t s2 o2 in
      let s5 = whitened r β s4 in
      let o5 = whitened_sound r m t β s4 o4 in
      let e2 = is2 ∙ stage r m t short one s1 (whitened r β) is1 o1 in
      let e3 = is3 ∙ stage r m t short two s2 (mapped f) e2 o2 in
      let e4 = is4 ∙ stage r m t short three s3 (crypted_tail r f) e3 o3 in
      let e5 = is5 ∙ stage r m t short four s4 (whitened r β) e4 o4 in
      is6 ∙ stage r m t short five s5 B e5 o5
