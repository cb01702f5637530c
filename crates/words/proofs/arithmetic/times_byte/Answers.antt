use Rattle.std.proofs.Common.{◌≡◌, ℕ, ◌%◌, ◌^◌, ap, ◌∙◌, arith}
use lib.Bits.{bit_xor}
use Rattle.polynomials.specs.Polynomial.{product}
use Rattle.words.proofs.Turns.{byte_begins, byte_turns, power_begins, power_turns}
use Rattle.words.proofs.arithmetic.times_byte.Goals as goal

pub loop-k-init : goal.loop-k-init
loop-k-init g c =
    let m = g.W.Word in
    let laws = g.met.W.Word in
    let low = m.value c.args.low in
    let a = m.value c.args.a in (
      byte_begins m.size low laws.some (laws.below c.args.low) a (m.value c.args.b) (m.value c.zero-sum.result) c.zero-sum.ensures,
      power_begins m.size low a laws.some (laws.below c.args.low) (laws.below c.args.a),
    )

pub loop-k-preserved : goal.loop-k-preserved
loop-k-preserved g c =
    let m = g.W.Word in
    let laws = g.met.W.Word in
    let low = m.value c.args.low in
    let a = m.value c.args.a in
    let k = c.loop-k.k in
    let sum = m.value c.loop-k.sum in
    let power = m.value c.loop-k.power in (
      byte_turns m.size low laws.some (laws.below c.args.low) a (m.value c.args.b) k sum power (m.value c.lowered.result) (m.value c.add-sum.result)
          c.loop-k.invariant.0 c.loop-k.invariant.1 c.lowered.ensures (c.add-sum.ensures ∙ ap (bit_xor sum) c.masked.ensures),
      c.xtime-power.ensures ∙ power_turns m.size low a k power laws.some (laws.below c.args.low) (laws.below c.args.a) c.loop-k.invariant.1,
    )

pub returns : goal.returns
returns g c =
    let m = g.W.Word in
    let all : c.loop-k.k ≡ 8 = omega arith in
    c.loop-k.invariant.0 ∙ ap (λ (x : ℕ). product m.size (m.value c.args.low) (m.value c.args.a) (m.value c.args.b % 2 ^ x)) all
