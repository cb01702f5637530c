-- What the passes make of a sector. Blocks are numbers, + is bit_xor, α is the block 2.
use Rattle.std.specs.Prelude.{ℕ, suc, ◌-◌, List, [], ◌∷◌, ◌++◌, map, length, replicate, bit_xor, slice_index}
use Rattle.std.specs.Int.Digits.{number_from_digits}
use Rattle.rings.specs.Blocks.{bytes_of}
use Rattle.rings.specs.Ring.{RingKind, times}
use Rattle.rings.specs.Sums.{power}
use Rattle.passes.specs.Sector.{Sector}

-- f i of the first, f (i + 1) of the next, and so on
unfoldable pub placewise : (ℕ → ℕ → ℕ) → ℕ → List ℕ → List ℕ
placewise f i [] = []
placewise f i (x ∷ xs) = f i x ∷ placewise f (suc i) xs

-- X_i + s
abbrev pub plus : ℕ → List ℕ → List ℕ
plus s xs = map (λ x. bit_xor x s) xs

abbrev pub added : ℕ → Sector → Sector
added s x = record { blocks = plus s x.blocks; tail = x.tail }

-- f i of block i, counted from 0
abbrev pub placed : (ℕ → ℕ → ℕ) → Sector → Sector
placed f x = record { blocks = placewise f 0 x.blocks; tail = x.tail }

-- f(X_i)
abbrev pub mapped : (ℕ → ℕ) → Sector → Sector
mapped f x = record { blocks = map f x.blocks; tail = x.tail }

module _ (r : RingKind) where
  -- x + α^i·β
  abbrev pub whitened_at : ℕ → ℕ → ℕ → ℕ
  whitened_at β i x = bit_xor x (times r (power r 2 i) β)

  -- X_i + α^(i-1)·β
  abbrev pub whitened : ℕ → Sector → Sector
  whitened β = placed (whitened_at β)

  -- pad(Y): Y, the byte 80, then zeros up to w bytes
  abbrev pub pad : List ℕ → ℕ
  pad ys = number_from_digits 256 (ys ++ (0x80 ∷ replicate (r.width - 1 - length ys) 0))

  -- the pad of a tail, or 0 without one
  abbrev pub tail_block : List ℕ → ℕ
  tail_block [] = 0
  tail_block (y ∷ ys) = pad (y ∷ ys)

  -- a byte plus byte i of the block u, counted from the first; none stands past a block
  abbrev pub mixed_at : ℕ → ℕ → ℕ → ℕ
  mixed_at u i b = bit_xor b (slice_index (bytes_of r.width u) i)

  -- a tail plus the first bytes of u
  abbrev pub mixed : ℕ → List ℕ → List ℕ
  mixed u ys = placewise (mixed_at u) 0 ys
