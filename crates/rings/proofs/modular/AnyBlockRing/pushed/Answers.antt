use Rattle.std.proofs.Common.{◌%◌, ◌^◌, arith}
use Rattle.num_traits.specs.Laws.{bit_len}
use Rattle.rings.proofs.Bytes.{pushed}
use Rattle.rings.proofs.modular.AnyBlockRing.pushed.Goals as goal

pub returns : goal.returns
returns g c =
    let word = g.T.FixedWidth in
    let n = bit_len word.width in
    let same = g.met.T.Modulus.width_is in
    let sum = pushed n (word.bits_of c.args.self % 2 ^ n) c.args.byte c.ranges.byte.fits in
    grind arith
