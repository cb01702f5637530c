-- Rows of bytes.
use Rattle.std.specs.Prelude.{ℕ, Bool, true, ◌&&◌, List, [], ◌∷◌, length, ◌==◌, nat_lt}

-- is each number a byte?
unfoldable pub all_bytes : List ℕ → Bool
all_bytes [] = true
all_bytes (b ∷ bs) = nat_lt b 256 && all_bytes bs

-- is it a row of n bytes?
abbrev pub row : ℕ → List ℕ → Bool
row n bs = length bs == n && all_bytes bs
