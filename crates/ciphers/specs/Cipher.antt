-- Kinds of block cipher.
use Rattle.std.specs.Prelude.{◌≡◌, ℕ, Bool, true, cond, List}
use Rattle.rings.specs.Ring.{RingKind, Block}
use Rattle.rings.specs.Rows.{row}

-- what a kind names, and what it shows: for each key, two maps on blocks that undo each other
pub record CipherKind : Type 0 where
  pub ring : RingKind
  -- the length of a key in bytes
  pub key_length : ℕ
  -- E_K and D_K
  pub encipher : List ℕ → ℕ → ℕ
  pub decipher : List ℕ → ℕ → ℕ
  -- laws, of keys that are rows of that many bytes, and of blocks
  pub encipher_block : (key : List ℕ) (x : ℕ) → row key_length key ≡ true → Block ring.width x → Block ring.width (encipher key x)
  pub decipher_block : (key : List ℕ) (x : ℕ) → row key_length key ≡ true → Block ring.width x → Block ring.width (decipher key x)
  pub undone : (key : List ℕ) (x : ℕ) → row key_length key ≡ true → Block ring.width x → decipher key (encipher key x) ≡ x
  pub redone : (key : List ℕ) (x : ℕ) → row key_length key ≡ true → Block ring.width x → encipher key (decipher key x) ≡ x

-- does a key fit?
abbrev pub fits : CipherKind → List ℕ → Bool
fits k key = row k.key_length key

-- the key that is held after one was handed in
abbrev pub key_after : CipherKind → List ℕ → List ℕ → List ℕ
key_after k key held = cond (fits k key) key held
