-- HEH as a kind of wide mode, over any kind of cipher.
use Rattle.ciphers.specs.Cipher.{CipherKind}
use Rattle.modes.specs.Mode.{ModeKind}
use Rattle.heh_theory.specs.Heh.{sector_tweak, encipher_sector, decipher_sector}
use Rattle.heh_theory.specs.State.{refusal}
use Rattle.heh_theory.proofs.Undoing.{undoing}

abbrev pub kind_over : CipherKind → ModeKind
kind_over k = record {
  refusal = refusal k;
  encipher = encipher_sector k;
  decipher = decipher_sector k;
  encipher_row = λ key size n bs _ _. undoing.encipher_row k key size (sector_tweak k.ring n) bs;
  decipher_row = λ key size n bs _ _. undoing.decipher_row k key size (sector_tweak k.ring n) bs;
  undone = λ key size n bs _ _ _. undoing.undone k key size (sector_tweak k.ring n) bs;
  redone = λ key size n bs _ _ _. undoing.redone k key size (sector_tweak k.ring n) bs;
}
