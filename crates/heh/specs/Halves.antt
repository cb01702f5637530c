-- Ψ and its inverse on a row of blocks that is cut before its last block.
use Rattle.std.specs.Prelude.{ℕ, ◌%◌, List, length, bit_xor}
use Rattle.std.specs.Int.Digits.{number_from_digits}
use Rattle.rings.specs.Blocks.{bytes_of, blocks}
use Rattle.rings.specs.Ring.{RingKind, size}
use Rattle.rings.specs.Sums.{hash_sum}
use Rattle.passes.specs.Passes.{mapped}
use Rattle.passes.specs.Sector.{rowwise}
use Rattle.heh_theory.specs.Heh.{offset, on_blocks}

-- the bytes of X_1..X_(m-1), and those of X_m
pub record Halves : Type 0 where
  pub front : List ℕ
  pub last : List ℕ

module _ (r : RingKind) where
  -- X_m
  abbrev pub last_block : Halves → ℕ
  last_block h = number_from_digits 256 h.last % size r

  -- X_i + Y + α^i·β for i < m
  abbrev pub offset_front : ℕ → ℕ → List ℕ → List ℕ
  offset_front Y β front = rowwise r.width (on_blocks (offset r Y β)) front

  -- X_i + Y + α^i·β for i < m, and Y + β for the last, where Y = X_m + H(τ; X_1..X_(m-1))
  abbrev pub psi : ℕ → ℕ → Halves → Halves
  psi τ β h =
      let Y : ℕ = bit_xor (last_block h) (hash_sum r τ (blocks r.width h.front)) in
      record { front = offset_front Y β h.front; last = bytes_of (length h.last) (bit_xor Y β) }

  -- X_i = Z_i + Y + α^i·β for i < m, and Y + H(τ; X_1..X_(m-1)) for the last, where Y = Z_m + β
  abbrev pub psi_back : ℕ → ℕ → Halves → Halves
  psi_back τ β h =
      let Y : ℕ = bit_xor (last_block h) β in
      record { front = offset_front Y β h.front; last = bytes_of (length h.last) (bit_xor Y (hash_sum r τ (blocks r.width (offset_front Y β h.front)))) }

  -- f of each block
  abbrev pub mapped_halves : (ℕ → ℕ) → Halves → Halves
  mapped_halves f h = record { front = rowwise r.width (mapped f) h.front; last = rowwise r.width (mapped f) h.last }

  -- Ψ with β, f on each block, then the inverse of Ψ with β'
  abbrev pub wrapped : (ℕ → ℕ) → ℕ → ℕ → ℕ → Halves → Halves
  wrapped f τ β β' h = psi_back τ β' (mapped_halves f (psi τ β h))
