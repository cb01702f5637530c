-- What the calls of a closure make of the blocks of a sector.
use Rattle.std.specs.Prelude.{◌≡◌, ℕ, List, map}
use Rattle.std.specs.List.{FoldsTo}
use Rattle.passes.specs.Sector.{Sector}

module _ {F R : Type 0} (step : F → R → R → F → Type 0) (value : R → ℕ) where
  -- f was called at each block of s in turn, and s' has the blocks that it gave in their places
  abbrev pub Replaces : F → Sector → Sector → Type 0
  Replaces f s s' =
      (calls : List (R × R)) × (last : F) × FoldsTo (λ p c q. step p c.0 c.1 q) f calls last
      × (s.blocks ≡ map (λ c. value c.0) calls) × (s'.blocks ≡ map (λ c. value c.1) calls) × (s'.tail ≡ s.tail)
