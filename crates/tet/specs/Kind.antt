-- TET as a kind of wide mode, over any kind of cipher.
use Rattle.std.specs.Prelude.{ℕ, List}
use Rattle.rings.specs.Blocks.{bytes_of}
use Rattle.ciphers.specs.Cipher.{CipherKind}
use Rattle.modes.specs.Mode.{ModeKind}
use Rattle.tet_theory.specs.State.{refusal}
use Rattle.tet_theory.specs.Tet.{encipher, decipher}
use Rattle.tet_theory.proofs.Undoing as undoing

-- the tweak of a sector number: the number in 8 bytes, the first the highest
abbrev pub sector_tweak : ℕ → List ℕ
sector_tweak n = bytes_of 8 n

abbrev pub kind_over : CipherKind → ModeKind
kind_over k = record {
  refusal = refusal k;
  encipher = λ key size n. encipher k key size (sector_tweak n);
  decipher = λ key size n. decipher k key size (sector_tweak n);
  encipher_row = λ key size n bs _ _. undoing.encipher_row k key size (sector_tweak n) bs;
  decipher_row = λ key size n bs _ _. undoing.decipher_row k key size (sector_tweak n) bs;
  undone = λ key size n bs _ _. undoing.undone k key size (sector_tweak n) bs;
  redone = λ key size n bs _ _. undoing.redone k key size (sector_tweak n) bs;
}
