use Rattle.std.proofs.Common.{◌==◌, ap, ◌∙◌, ℕ}
use Rattle.words.proofs.Bounds.{natural, equal_is}
use Rattle.words.proofs.machine.AnyWord.is_one.Goals as goal

pub returns : goal.returns
returns g c =
    let b = g.T.FixedWidth in
    let laws = g.met.T.FixedWidth in
    let exact = g.met.T.Integral.exact_law in
    let x = c.whole.result in
    let value = g.T.Number.value in
    c.eq.ensures
    ∙ equal_is (g.T.PartialEq.eq x c.one.result) (value x) (value c.one.result) (b.bits_of x) 1 (g.met.T.Number.eq_law x c.one.result exact)
    (natural (value x) (b.bits_of x) (g.met.T.Unsigned.unsigned_law x) (laws.bits_of_natural_law x))
    (ap value c.one.ensures ∙ g.met.T.One.one_law exact)
    ∙ ap (λ (m : ℕ). m == 1) c.whole.ensures
