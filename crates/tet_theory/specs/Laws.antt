-- What is shown of TET.
use Rattle.std.specs.Prelude.{◌≡◌, ℕ, true, List}
use Rattle.rings.specs.Rows.{row}
use Rattle.ciphers.specs.Cipher.{CipherKind}
use Rattle.tet_theory.specs.Tet.{encipher, decipher}

-- whatever the cipher, the key, the size and the tweak: the maps keep sectors of that size, and undo each other
pub record Undoing : Type 0 where
  pub encipher_row : (k : CipherKind) (key : List ℕ) (ℓ : ℕ) (tweak bs : List ℕ) → row ℓ bs ≡ true → row ℓ (encipher k key ℓ tweak bs) ≡ true
  pub decipher_row : (k : CipherKind) (key : List ℕ) (ℓ : ℕ) (tweak bs : List ℕ) → row ℓ bs ≡ true → row ℓ (decipher k key ℓ tweak bs) ≡ true
  pub undone : (k : CipherKind) (key : List ℕ) (ℓ : ℕ) (tweak bs : List ℕ) → row ℓ bs ≡ true → decipher k key ℓ tweak (encipher k key ℓ tweak bs) ≡ bs
  pub redone : (k : CipherKind) (key : List ℕ) (ℓ : ℕ) (tweak bs : List ℕ) → row ℓ bs ≡ true → encipher k key ℓ tweak (decipher k key ℓ tweak bs) ≡ bs
