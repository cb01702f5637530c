-- A sector: whole blocks, and the bytes after them.
use Rattle.std.specs.Prelude.{ℕ, ◌*◌, ◌/◌, List, [], ◌∷◌, ◌++◌, length, drop}
use Rattle.rings.specs.Blocks.{bytes_of, first_blocks}

pub record Sector : Type 0 where
  -- P_1..P_m
  pub blocks : List ℕ
  -- fewer bytes than a block has
  pub tail : List ℕ

-- the bytes of blocks, w of each
unfoldable pub bytes : ℕ → List ℕ → List ℕ
bytes w [] = []
bytes w (x ∷ xs) = bytes_of w x ++ bytes w xs

-- a row of bytes as a sector, for blocks of w bytes
abbrev pub parted : ℕ → List ℕ → Sector
parted w bs = record { blocks = first_blocks w (length bs / w) bs; tail = drop (length bs / w * w) bs }

abbrev pub joined : ℕ → Sector → List ℕ
joined w s = bytes w s.blocks ++ s.tail

-- a map of sectors as a map of rows
abbrev pub rowwise : ℕ → (Sector → Sector) → List ℕ → List ℕ
rowwise w f bs = joined w (f (parted w bs))
