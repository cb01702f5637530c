-- TET and HEH as such modes, over any cipher.
use Rattle.std.specs.Prelude.{length, ◌==◌, nat_le}
use Rattle.ciphers.specs.Cipher.{CipherKind}
use Rattle.tet_theory.specs.Tet as tet
use Rattle.tet_theory.specs.State as tet-mode
use Rattle.tet_theory.proofs.Undoing as tet-undoing
use Rattle.heh_theory.specs.Heh as heh
use Rattle.heh_theory.specs.State as heh-mode
use Rattle.heh_theory.proofs.Undoing.{undoing}
use Rattle.tweak_modes.specs.Sizes.{tet_bounded, heh_bounded}
use Rattle.tweak_modes.specs.Tweaked.{TweakKind}

-- TET takes tweaks of up to 4,096 bytes
abbrev pub tet_over : CipherKind → TweakKind
tet_over k = record {
  refusal = tet-mode.refusal k;
  tweak_fits = λ tweak. nat_le (length tweak) 4096;
  encipher = tet.encipher k;
  decipher = tet.decipher k;
  bounded = tet_bounded k;
  encipher_row = tet-undoing.encipher_row k;
  decipher_row = tet-undoing.decipher_row k;
  undone = tet-undoing.undone k;
  redone = tet-undoing.redone k;
}

-- HEH takes tweaks of one block
abbrev pub heh_over : CipherKind → TweakKind
heh_over k = record {
  refusal = heh-mode.refusal k;
  tweak_fits = λ tweak. ((length tweak) == k.ring.width);
  encipher = heh.encipher k;
  decipher = heh.decipher k;
  bounded = heh_bounded k;
  encipher_row = undoing.encipher_row k;
  decipher_row = undoing.decipher_row k;
  undone = λ key ℓ tweak bs _. undoing.undone k key ℓ tweak bs;
  redone = λ key ℓ tweak bs _. undoing.redone k key ℓ tweak bs;
}
