use Rattle.std.proofs.Common.{◌≡◌, ◌*◌, sym, ap, ◌∙◌, ap₂, mod-eq_of_lt}
use lib.Bits.{bit_xor}
use Rattle.rings.specs.Ring.{times}
use Rattle.rings.proofs.Total.{alpha_below, times_blocks}
use Rattle.heh_theory.proofs.Undoing.{length_block}
use Rattle.heh.proofs.sectors.tweak_key.Goals as goal

pub returns : goal.returns
returns g c =
    let m = g.C.Ring.BlockRing in
    let r = m.ring in
    let E = g.C.BlockCipher.kind.encipher (g.C.BlockCipher.held c.args.cipher.now) in
    let ℓ = c.args.size in
    let τ_is = c.encipher.ensures.block_is_enciphered in
    let L-is : m.value c.from_number.result ≡ 8 * ℓ = c.from_number.ensures ∙ mod-eq_of_lt (length_block r ℓ c.requires) in
    let β1 = m.value c.encipher-2.new.block in
    let β1_is = c.encipher-2.ensures.block_is_enciphered ∙ ap E (c.add-beta1.ensures ∙ ap₂ bit_xor τ_is L-is) in
    record {
      tau = τ_is;
      beta1 = β1_is;
      beta2 = c.times_alpha.ensures ∙ sym (times_blocks r 2 β1 (alpha_below r) (g.met.C.Ring.BlockRing.below c.encipher-2.new.block)) ∙ ap (times r 2) β1_is;
    }
