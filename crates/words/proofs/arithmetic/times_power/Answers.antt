use Rattle.std.proofs.Common.{◌≡◌, ℕ, ◌^◌, ap, ◌∙◌, arith}
use Rattle.polynomials.specs.Polynomial.{product}
use Rattle.words.proofs.Turns.{power_begins, power_turns}
use Rattle.words.proofs.arithmetic.times_power.Goals as goal

pub loop-init : goal.loop-init
loop-init g c =
    let m = g.W.Word in
    let laws = g.met.W.Word in
    power_begins m.size (m.value c.args.low) (m.value c.args.a) laws.some (laws.below c.args.low) (laws.below c.args.a)

pub loop-preserved : goal.loop-preserved
loop-preserved g c =
    let m = g.W.Word in
    let laws = g.met.W.Word in
    c.xtime-power.ensures
    ∙ power_turns m.size (m.value c.args.low) (m.value c.args.a) c.loop.counter (m.value c.loop.power)
    laws.some (laws.below c.args.low) (laws.below c.args.a) c.loop.invariant

pub returns : goal.returns
returns g c =
    let m = g.W.Word in
    let all : c.loop.counter ≡ c.args.k = omega arith in
    c.loop.invariant ∙ ap (λ (x : ℕ). product m.size (m.value c.args.low) (m.value c.args.a) (2 ^ x)) all
