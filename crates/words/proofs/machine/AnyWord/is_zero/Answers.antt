use Rattle.std.proofs.Common.{◌==◌, ap, ◌∙◌, ℕ}
use Rattle.words.proofs.Bounds.{natural, equal_is}
use Rattle.words.proofs.machine.AnyWord.is_zero.Goals as goal

pub returns : goal.returns
returns g c =
    let b = g.T.FixedWidth in
    let laws = g.met.T.FixedWidth in
    let exact = g.met.T.Integral.exact_law in
    let x = c.whole.result in
    let value = g.T.Number.value in
    c.eq.ensures
    ∙ equal_is (g.T.PartialEq.eq x c.zero.result) (value x) (value c.zero.result) (b.bits_of x) 0 (g.met.T.Number.eq_law x c.zero.result exact)
    (natural (value x) (b.bits_of x) (g.met.T.Unsigned.unsigned_law x) (laws.bits_of_natural_law x))
    (ap value c.zero.ensures ∙ g.met.T.Zero.zero_law exact)
    ∙ ap (λ (m : ℕ). m == 0) c.whole.ensures
