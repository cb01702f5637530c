-- What is shown of XTEA.
use Rattle.std.specs.Prelude.{◌≡◌, ℕ, ◌^◌, ◌<◌, List}
use Rattle.xtea.specs.Xtea.{encipher, decipher}

-- for every key and every block, the maps give blocks and undo each other
pub record Undoing : Type 0 where
  pub encipher_block : (key : List ℕ) (x : ℕ) → x < 2 ^ 64 → encipher key x < 2 ^ 64
  pub decipher_block : (key : List ℕ) (x : ℕ) → x < 2 ^ 64 → decipher key x < 2 ^ 64
  pub undone : (key : List ℕ) (x : ℕ) → x < 2 ^ 64 → decipher key (encipher key x) ≡ x
  pub redone : (key : List ℕ) (x : ℕ) → x < 2 ^ 64 → encipher key (decipher key x) ≡ x
