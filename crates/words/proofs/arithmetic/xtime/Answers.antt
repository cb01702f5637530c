use Rattle.std.proofs.Common.{◌∙◌, ap₂}
use lib.Bits.{bit_xor}
use Rattle.words.proofs.Turns.{doubled}
use Rattle.words.proofs.arithmetic.xtime.Goals as goal

pub returns : goal.returns
returns g c =
    let m = g.W.Word in
    let laws = g.met.W.Word in
    let low = m.value c.args.low in
    let a = m.value c.args.a in
    c.add.ensures ∙ ap₂ bit_xor c.shifted.ensures c.masked.ensures
    ∙ doubled m.size low a (m.value c.top.result) laws.some (laws.below c.args.low) (laws.below c.args.a) c.top.ensures
