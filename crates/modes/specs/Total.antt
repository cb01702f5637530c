-- The maps of a mode on every list: on a sector they are the kind's, and a list that is no sector stays.
use Rattle.std.specs.Prelude.{ℕ, cond, List}
use Rattle.rings.specs.Rows.{row}
use Rattle.modes.specs.Mode.{ModeKind, Keyed}

-- f on rows of `size` bytes
abbrev pub within : ℕ → (List ℕ → List ℕ) → List ℕ → List ℕ
within size f bs = cond (row size bs) (f bs) bs

-- the map that enciphers sector number n, of a key held for its size
abbrev pub enciphering : ModeKind → Keyed → ℕ → List ℕ → List ℕ
enciphering k s n = within s.size (k.encipher s.key s.size n)

-- the map that deciphers it
abbrev pub deciphering : ModeKind → Keyed → ℕ → List ℕ → List ℕ
deciphering k s n = within s.size (k.decipher s.key s.size n)
