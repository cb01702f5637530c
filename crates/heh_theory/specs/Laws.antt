-- What is shown of HEH.
use Rattle.std.specs.Prelude.{◌≡◌, ℕ, true, List}
use Rattle.rings.specs.Rows.{row}
use Rattle.ciphers.specs.Cipher.{CipherKind}
use Rattle.heh_theory.specs.Heh.{encipher, decipher}

-- whatever the cipher, the key, the size ℓ, the tweak and the bytes: the maps undo each other and keep rows of ℓ bytes
pub record Undoing : Type 0 where
  pub undone : (k : CipherKind) (key : List ℕ) (ℓ : ℕ) (tweak bs : List ℕ) → decipher k key ℓ tweak (encipher k key ℓ tweak bs) ≡ bs
  pub redone : (k : CipherKind) (key : List ℕ) (ℓ : ℕ) (tweak bs : List ℕ) → encipher k key ℓ tweak (decipher k key ℓ tweak bs) ≡ bs
  pub encipher_row : (k : CipherKind) (key : List ℕ) (ℓ : ℕ) (tweak bs : List ℕ) → row ℓ bs ≡ true → row ℓ (encipher k key ℓ tweak bs) ≡ true
  pub decipher_row : (k : CipherKind) (key : List ℕ) (ℓ : ℕ) (tweak bs : List ℕ) → row ℓ bs ≡ true → row ℓ (decipher k key ℓ tweak bs) ≡ true
