use Rattle.std.proofs.Common.{ℕ, ◌%◌, ◌<◌, length, get_or, sym, ap, ◌∙◌, ap₂, rules}
use Rattle.rings.specs.Ring.{RingKind, size}
use Rattle.rings.proofs.Rows.{row_bytes_of}
use Rattle.modes.specs.Mode.{obstacle}
use Rattle.heh_theory.specs.Heh.{size_fits, decipher_sector, sector_tweak}
use Rattle.heh_theory.specs.State.{keyed_with}
use Rattle.heh_theory.proofs.Refusals.{accepted, admitted, ciphered_is}
use Rattle.heh.proofs.Steps.{decipher_is, sector_block}
use Rattle.heh.proofs.Heh.decipher_sector.Goals as goal

pub decipher-requires : goal.decipher-requires
decipher-requires g c =
    let k = g.C.BlockCipher.kind in
    let self = c.args.self.now in
    let key = g.C.BlockCipher.held self.cipher in
    let ℓ = self.size in
    let bs = c.args.buffer.now in
    let o = obstacle (keyed_with k.ring key ℓ) bs in
    let ok = admitted k.ring key ℓ bs (accepted o c.in_ok-admit.ensures.answer) in
    ap (λ (r : RingKind). size_fits r (length bs)) (sym g.met.C.BlockCipher.over) ∙ ap (size_fits k.ring) ok.long ∙ ok.fit

pub returns : goal.returns
returns g c =
    let k = g.C.BlockCipher.kind in
    let self = c.args.self.now in
    let key = g.C.BlockCipher.held self.cipher in
    let ℓ = self.size in
    let bs = c.args.buffer.now in
    let o = obstacle (keyed_with k.ring key ℓ) bs in
    let s = c.args.number in
    let over = g.met.C.BlockCipher.over in
    let none = accepted o c.in_ok-admit.ensures.answer in
    let ok = admitted k.ring key ℓ bs none in
    let bytes_low : (i : ℕ) → get_or bs i 0 < 256 = search rules in
    let T-is = c.from_number-tweak.ensures ∙ ap₂ (λ (n : ℕ) (r : RingKind). n % size r) c.from.ensures (sym over) ∙ sector_block k.ring s in
    record {
      answer = c.in_ok-admit.ensures.answer;
      buffer_is_deciphered =
          c.decipher.ensures
          ∙ decipher_is k key ℓ (sector_tweak k.ring s) bs g.C.Ring.BlockRing.ring over _ (g.C.BlockCipher.fitting self.cipher) ok.fit (row_bytes_of k.ring.width (s % size k.ring)) ok.long bytes_low T-is
          ∙ sym (ciphered_is k.ring key ℓ bs ok (λ key size. decipher_sector k key size s) o none);
    }
