use Rattle.std.proofs.Common.{ℕ, ◌%◌, ◌<◌, length, get_or, sym, ap, ◌∙◌, rules}
use Rattle.std.specs.Int.Digits.{number_from_digits}
use Rattle.rings.specs.Ring.{RingKind, size}
use Rattle.rings.proofs.Rows.{row_array}
use Rattle.modes.specs.Mode.{obstacle}
use Rattle.heh_theory.specs.Heh.{size_fits, encipher}
use Rattle.heh_theory.specs.State.{keyed_with, or_tweak}
use Rattle.heh_theory.proofs.Refusals.{accepted, admitted, ciphered_is, tweak_admitted}
use Rattle.heh.proofs.Steps.{encipher_is, tweak_block}
use Rattle.heh.proofs.Heh.encipher_with_tweak.Goals as goal

pub encipher-requires : goal.encipher-requires
encipher-requires g c =
    let k = g.C.BlockCipher.kind in
    let self = c.args.self.now in
    let key = g.C.BlockCipher.held self.cipher in
    let ℓ = self.size in
    let bs = c.args.buffer.now in
    let o = obstacle (keyed_with k.ring key ℓ) bs in
    let tweak = c.args.tweak.now in
    let free = accepted (or_tweak k.ring tweak o) c.in_ok-admit_with_tweak.ensures.answer in
    let both = tweak_admitted k.ring tweak o free in
    let ok = admitted k.ring key ℓ bs both.0 in
    ap (λ (r : RingKind). size_fits r (length bs)) (sym g.met.C.BlockCipher.over) ∙ ap (size_fits k.ring) ok.long ∙ ok.fit

pub returns : goal.returns
returns g c =
    let k = g.C.BlockCipher.kind in
    let self = c.args.self.now in
    let key = g.C.BlockCipher.held self.cipher in
    let ℓ = self.size in
    let bs = c.args.buffer.now in
    let o = obstacle (keyed_with k.ring key ℓ) bs in
    let tweak = c.args.tweak.now in
    let free = accepted (or_tweak k.ring tweak o) c.in_ok-admit_with_tweak.ensures.answer in
    let both = tweak_admitted k.ring tweak o free in
    let ok = admitted k.ring key ℓ bs both.0 in
    let over = g.met.C.BlockCipher.over in
    let bytes_low : (i : ℕ) → get_or bs i 0 < 256 = search rules in
    let tweak_low : (i : ℕ) → get_or tweak i 0 < 256 = search rules in
    let block = row_array k.ring.width tweak both.1 tweak_low in
    let T-is = c.from_bytes.ensures ∙ ap (λ (r : RingKind). number_from_digits 256 tweak % size r) (sym over) ∙ tweak_block k.ring tweak block in
    record {
      answer = c.in_ok-admit_with_tweak.ensures.answer;
      buffer_is_enciphered =
          c.encipher.ensures
          ∙ encipher_is k key ℓ tweak bs g.C.Ring.BlockRing.ring over _ (g.C.BlockCipher.fitting self.cipher) ok.fit block ok.long bytes_low T-is
          ∙ sym (ciphered_is k.ring key ℓ bs ok (λ key size. encipher k key size tweak) (or_tweak k.ring tweak o) free);
    }
