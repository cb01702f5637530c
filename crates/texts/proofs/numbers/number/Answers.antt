use Rattle.std.proofs.Common.{◌<◌, length, sym, ◌∙◌, arith, false-eqb}
use Rattle.texts.proofs.Digits.{read_none, read_more, read_end, some_word}
use Rattle.texts.proofs.numbers.number.Goals as goal

pub returns-in_err-value : goal.returns-in_err-value
returns-in_err-value c =
    let some : 0 < length c.args.word.now = omega arith in
    c.from_residual.ensures ∙ sym (some_word _ some ∙ c.loop-c.invariant ∙ read_none _ _ _ c.loop-c-test.true (sym c.in_err-value.ensures))

pub loop-c-preserved : goal.loop-c-preserved
loop-c-preserved c = c.loop-c.invariant ∙ read_more _ _ _ _ c.loop-c-test.true (sym c.in_ok-value.ensures)

pub returns : goal.returns
returns c =
    let some : 0 < length c.args.word.now = omega (arith, false-eqb _ 0 c.if-is_empty.ensures) in
    sym (some_word _ some ∙ c.loop-c.invariant ∙ read_end _ _ _ c.loop-c-test.false)
