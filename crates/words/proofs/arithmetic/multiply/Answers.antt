use Rattle.std.proofs.Common.{◌≡◌, ◌+◌, ◌-◌, ◌*◌, ◌≤◌, arith}
use Rattle.words.proofs.Turns.{horner_begins, horner_turns}
use Rattle.words.proofs.arithmetic.multiply.Goals as goal

pub loop-i-init : goal.loop-i-init
loop-i-init g c =
    let m = g.W.Word in
    let laws = g.met.W.Word in
    let some = laws.some in
    let all : m.size ≤ 8 * c.div_ceil-i.result = omega (arith, c.bits.ensures, c.div_ceil-i.ensures) in
    horner_begins m.size (m.value c.args.low) some (laws.below c.args.low) (m.value c.args.a) (m.value c.args.b) _ (m.value c.zero-sum.result)
    (laws.below c.args.b) all c.zero-sum.ensures

pub loop-i-preserved : goal.loop-i-preserved
loop-i-preserved g c =
    let m = g.W.Word in
    let laws = g.met.W.Word in
    let i = c.loop-i.i in
    let one : i ≡ i - 1 + 1 = omega (arith, c.loop-i-test.true) in
    horner_turns m.size (m.value c.args.low) laws.some (laws.below c.args.low) (m.value c.args.a) (m.value c.args.b) i (i - 1)
    (m.value c.loop-i.sum) (m.value c.lowered.result) (m.value c.times_x8.result) (m.value c.times_byte.result) (m.value c.add-sum.result)
    one c.loop-i.invariant c.lowered.ensures c.times_x8.ensures c.times_byte.ensures c.add-sum.ensures
