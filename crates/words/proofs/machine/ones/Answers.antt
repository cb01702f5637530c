use Rattle.std.proofs.Common.{ap, ◌∙◌, pow_pos, arith}
use Rattle.num_traits.specs.Laws.{bit_len}
use Rattle.words.proofs.Bounds.{made, inverted, fits_made}
use Rattle.words.proofs.machine.ones.Goals as goal

pub returns : goal.returns
returns g c =
    let b = g.T.FixedWidth in
    let n = g.T.Number in
    let laws = g.met.T.FixedWidth in
    let none = ap b.bits_of c.zero.ensures ∙ laws.bits_of_natural_law g.T.Zero.zero 0 (g.met.T.Zero.zero_law g.met.T.Integral.exact_law) in
    let is = g.met.T.PrimInt.not_law _ _ c.not.ensures ∙ ap b.of_bits (inverted b.width (b.bits_of c.zero.result) none) in
    let one = pow_pos (bit_len b.width) in
    record {
      bits = made b.width b.bits_of b.of_bits b.bits_round_trip_law c.not.result _ is (omega arith);
      range = fits_made b.width b.bits_of b.of_bits b.bits_round_trip_law n.value n.fits n.wrap laws.of_bits_law g.met.T.Integral.wrap_fits_law c.not.result _ is (omega arith);
    }
