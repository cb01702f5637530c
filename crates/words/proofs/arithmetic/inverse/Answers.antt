use Rattle.std.proofs.Common.{◌≡◌, ℕ, ◌+◌, ◌<◌, false, eqb, ◌≢◌, sym, ap, ◌∙◌, arith}
use lib.Bits.{bit_xor}
use Rattle.std.proofs.lemmas.Bool.{eqb-true, eqb-false, ltb-true, ltb-false}
use Rattle.polynomials.proofs.Euclid.{Bezout, Ordered, leads, last_found, last_none, turned}
use Rattle.polynomials.proofs.Inverses.{inverse_zero, inverse_one, inverse_some, inverse_lacks}
use Rattle.words.proofs.Turns.{euclid_begins, euclid_exchanges, euclid_stays, euclid_turns}
use Rattle.words.proofs.arithmetic.inverse.Given as given
use Rattle.words.proofs.arithmetic.inverse.Goals as goal
use Rattle.words.proofs.arithmetic.inverse.Goals.{then-is_below, else-is_below, Joined-is_below}

pub returns-then-is_zero : goal.returns-then-is_zero
returns-then-is_zero g c =
    let m = g.W.Word in
    let laws = g.met.W.Word in
    let a = m.value c.args.a in
    sym (inverse_zero m.size (m.value c.args.low) laws.some (laws.below c.args.low) a (eqb-true a 0 (sym c.if-is_zero.ensures)))

pub returns-then-is_one : goal.returns-then-is_one
returns-then-is_one g c =
    let m = g.W.Word in
    let laws = g.met.W.Word in
    let a = m.value c.args.a in
    sym (inverse_one m.size (m.value c.args.low) laws.some (laws.below c.args.low) a (eqb-true a 1 (sym c.if-is_one.ensures)))

-- the operand is neither 0 nor 1
big : (a : ℕ) → false ≡ eqb a 0 → false ≡ eqb a 1 → 1 < a
big a e f = let x : a ≢ 0 = eqb-false a 0 (sym e) in let y : a ≢ 1 = eqb-false a 1 (sym f) in omega arith

pub overflow_add-j : goal.overflow_add-j
overflow_add-j g c =
    let m = g.W.Word in
    let laws = g.met.W.Word in
    let a = m.value c.args.a in
    let l = (leads m.size a (big a c.if-is_zero.ensures c.if-is_one.ensures) (laws.below c.args.a)).0 in
    omega (arith, l, laws.few, c.leading_zeros-j.ensures)

pub loop-low-init : goal.loop-low-init
loop-low-init g c =
    let m = g.W.Word in
    let laws = g.met.W.Word in
    let low = m.value c.args.low in
    let a = m.value c.args.a in
    let more = big a c.if-is_zero.ensures c.if-is_one.ensures in (
      euclid_begins m.size low a c.leading_zeros-j.result (m.value c.add-u.result) (m.value c.shifted-g.result) (m.value c.one-h.result) (m.value c.one.result)
          laws.some (laws.below c.args.low) (laws.below c.args.a) more
          c.leading_zeros-j.ensures (c.add-u.ensures ∙ ap (bit_xor low) c.shifted.ensures) c.shifted-g.ensures c.one.ensures c.one-h.ensures,
      omega (arith, more),
    )

-- the greater of the two is first, whichever way the exchange went
order : (g : given.Over) (c : Joined-is_below g)
    → let m = g.W.Word in
    Ordered m.size (m.value c.args.low) (m.value c.args.a) (m.value c.if-is_below.u) (m.value c.if-is_below.v) (m.value c.if-is_below.g) (m.value c.if-is_below.h)
    (m.value c.loop-low.u + m.value c.loop-low.v)
order g c =
    let m = g.W.Word in
    let low = m.value c.args.low in
    let a = m.value c.args.a in
    let u = m.value c.loop-low.u in
    let v = m.value c.loop-low.v in
    let some : u ≢ 0 = eqb-false u 0 (sym c.loop-low-test.ensures) in
    elim c.if-is_below.branch [
      | then-is_below w ↦
          euclid_exchanges m.size low a u v (m.value c.loop-low.g) (m.value c.loop-low.h) _ _ _ _ c.loop-low.invariant.0 some
          (ltb-true u v (sym w.if-is_below.ensures)) (ap m.value (w.u-is ∙ w.swap.ensures.x_after)) (ap m.value (w.v-is ∙ w.swap.ensures.y_after))
          (ap m.value (w.g-is ∙ w.swap-then-is_below.ensures.x_after)) (ap m.value (w.h-is ∙ w.swap-then-is_below.ensures.y_after))
      | else-is_below w ↦
          euclid_stays m.size low a u v (m.value c.loop-low.g) (m.value c.loop-low.h) _ _ _ _ c.loop-low.invariant.0 c.loop-low.invariant.1
          (ltb-false u v (sym w.if-is_below.ensures)) (ap m.value w.u-is) (ap m.value w.v-is) (ap m.value w.g-is) (ap m.value w.h-is)
    ]

pub overflow_sub-k : goal.overflow_sub-k
overflow_sub-k g c =
    let m = g.W.Word in
    let laws = g.met.W.Word in
    let t = turned m.size (m.value c.args.low) laws.some (laws.below c.args.low) (m.value c.args.a) _ _ _ _ _ (order g (goal.at.overflow_sub-k g c).Joined-is_below) in
    omega (arith, t.less, c.leading_zeros.ensures, c.leading_zeros-in-loop-low.ensures)

turn : (g : given.Over) (c : goal.After-add-g g)
    → let m = g.W.Word in
    Bezout m.size (m.value c.args.low) (m.value c.args.a) (m.value c.add-u-in-loop-low.result) (m.value c.if-is_below.v) (m.value c.add-g.result) (m.value c.if-is_below.h)
    × (m.value c.add-u-in-loop-low.result + m.value c.if-is_below.v < m.value c.loop-low.u + m.value c.loop-low.v)
turn g c =
    let m = g.W.Word in
    let laws = g.met.W.Word in
    euclid_turns m.size (m.value c.args.low) (m.value c.args.a)
    (m.value c.if-is_below.u) (m.value c.if-is_below.v) (m.value c.if-is_below.g) (m.value c.if-is_below.h) _
    c.leading_zeros.result c.leading_zeros-in-loop-low.result (m.value c.shifted-in-loop-low.result) (m.value c.add-u-in-loop-low.result)
    (m.value c.times_power.result) (m.value c.add-g.result)
    laws.some (laws.below c.args.low) (order g (goal.at.loop-low-preserved g c).Joined-is_below)
    c.leading_zeros.ensures c.leading_zeros-in-loop-low.ensures c.shifted-in-loop-low.ensures c.add-u-in-loop-low.ensures
    c.times_power.ensures c.add-g.ensures

pub loop-low-smaller : goal.loop-low-smaller
loop-low-smaller g c = (turn g c).1

pub loop-low-preserved : goal.loop-low-preserved
loop-low-preserved g c = ((turn g c).0, (order g (goal.at.loop-low-preserved g c).Joined-is_below).some)

pub returns-then-is_one-2 : goal.returns-then-is_one-2
returns-then-is_one-2 g c =
    let m = g.W.Word in
    let laws = g.met.W.Word in
    let low = m.value c.args.low in
    let a = m.value c.args.a in
    let u = m.value c.loop-low.u in
    let v = m.value c.loop-low.v in
    let h = m.value c.loop-low.h in
    sym (inverse_some m.size low laws.some (laws.below c.args.low) a h (laws.below c.args.a) (laws.below c.loop-low.h)
    (last_found m.size low laws.some (laws.below c.args.low) a u v (m.value c.loop-low.g) h c.loop-low.invariant.0
    (eqb-true v 1 (sym c.if-is_one-2.ensures))))

pub returns-else-is_one-2 : goal.returns-else-is_one-2
returns-else-is_one-2 g c =
    let m = g.W.Word in
    let laws = g.met.W.Word in
    let low = m.value c.args.low in
    let a = m.value c.args.a in
    let u = m.value c.loop-low.u in
    let v = m.value c.loop-low.v in
    sym (inverse_lacks m.size low laws.some (laws.below c.args.low) a (laws.below c.args.a)
    (last_none m.size low laws.some (laws.below c.args.low) a u v (m.value c.loop-low.g) (m.value c.loop-low.h) c.loop-low.invariant.0
    (eqb-true u 0 (sym c.loop-low-test.ensures)) (eqb-false v 1 (sym c.if-is_one-2.ensures))))
