use Rattle.std.proofs.Common.{◌≡◌, ap, ◌∙◌, arith}
use lib.Count.{count_leading_zeros, leading_of_zero}
use mir.Val.{bits}
use Rattle.num_traits.specs.Laws.{bit_len}
use Rattle.words.proofs.Bounds.{bits_is}
use Rattle.words.proofs.machine.AnyWord.bits.Goals as goal

pub returns : goal.returns
returns g c =
    let b = g.T.FixedWidth in
    let none = ap b.bits_of c.zero.ensures ∙ g.met.T.FixedWidth.bits_of_natural_law g.T.Zero.zero 0 (g.met.T.Zero.zero_law g.met.T.Integral.exact_law) in
    let all : c.leading_zeros.result ≡ bit_len b.width =
    c.leading_zeros.ensures ∙ ap (count_leading_zeros (bits b.width)) none ∙ leading_of_zero (bits b.width) ∙ bits_is b.width in
    omega arith
