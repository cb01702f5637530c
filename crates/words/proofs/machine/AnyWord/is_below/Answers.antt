use Rattle.std.proofs.Common.{ap₂, ◌∙◌, arith}
use Rattle.std.specs.Prelude.{nat_lt}
use Rattle.words.proofs.Bounds.{natural, less_is}
use Rattle.words.proofs.machine.AnyWord.is_below.Goals as goal

pub returns : goal.returns
returns g c =
    let b = g.T.FixedWidth in
    let laws = g.met.T.FixedWidth in
    let x = c.whole.result in
    let y = c.whole-2.result in
    let value = g.T.Number.value in
    c.lt.ensures
    ∙ less_is (b.bits_of x) (b.bits_of y) (value x) (value y) (g.T.PartialOrd.partial_cmp x y) (g.met.T.Number.order_law x y g.met.T.Integral.exact_law)
    (natural (value x) (b.bits_of x) (g.met.T.Unsigned.unsigned_law x) (laws.bits_of_natural_law x))
    (natural (value y) (b.bits_of y) (g.met.T.Unsigned.unsigned_law y) (laws.bits_of_natural_law y))
    ∙ ap₂ nat_lt (omega arith) (omega arith)
