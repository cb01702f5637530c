-- Blocks as bytes, the first byte the highest.
use Rattle.std.specs.Prelude.{ℕ, zero, suc, ◌*◌, ◌/◌, ◌%◌, List, [], ◌∷◌, ◌++◌, length, take, drop}
use Rattle.std.specs.Int.Digits.{number_from_digits}

-- the lowest w bytes of a number, the highest of them first
unfoldable pub bytes_of : ℕ → ℕ → List ℕ
bytes_of zero a = []
bytes_of (suc w) a = bytes_of w (a / 256) ++ (a % 256 ∷ [])

-- block i of w bytes, counted from 0
abbrev pub block_at : ℕ → ℕ → List ℕ → ℕ
block_at w i bytes = number_from_digits 256 (take w (drop (i * w) bytes))

-- the first m blocks of w bytes
unfoldable pub first_blocks : ℕ → ℕ → List ℕ → List ℕ
first_blocks w zero bytes = []
first_blocks w (suc m) bytes = number_from_digits 256 (take w bytes) ∷ first_blocks w m (drop w bytes)

-- the whole blocks B_1..B_m; the bytes after them do not count
abbrev pub blocks : ℕ → List ℕ → List ℕ
blocks w bytes = first_blocks w (length bytes / w) bytes
