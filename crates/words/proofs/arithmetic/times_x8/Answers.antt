use Rattle.std.proofs.Common.{ℕ, ◌-◌, ◌/◌, ◌^◌, ◌≤◌, sym, ap, ◌∙◌, arith}
use Rattle.std.proofs.lemmas.Bool.{eqb-true}
use Rattle.words.proofs.Turns.{x8_folds, over_by_low, low_by_over}
use Rattle.words.proofs.arithmetic.times_x8.Goals as goal

pub returns-then-is_zero : goal.returns-then-is_zero
returns-then-is_zero g c =
    let m = g.W.Word in
    let laws = g.met.W.Word in
    let low = m.value c.args.low in
    let a = m.value c.args.a in
    let over = m.value c.lowered-over.result in
    let wide : 8 ≤ m.size = omega (arith, c.if-bits-lt8.false, c.bits.ensures) in
    let over_is = c.lowered-over.ensures ∙ ap (λ (x : ℕ). a / 2 ^ (x - 8)) c.bits-2.ensures in
    let small = sym c.lowered.ensures ∙ eqb-true (m.value c.lowered.result) 0 (sym c.if-is_zero.ensures) in
    x8_folds m.size low laws.some (laws.below c.args.low) a over (m.value c.shifted-kept.result) (m.value c.times_byte.result) (m.value c.add.result)
    wide over_is c.shifted-kept.ensures
    (over_by_low m.size low laws.some (laws.below c.args.low) over (m.value c.times_byte.result) small c.times_byte.ensures) c.add.ensures

pub returns-else-is_zero : goal.returns-else-is_zero
returns-else-is_zero g c =
    let m = g.W.Word in
    let laws = g.met.W.Word in
    let low = m.value c.args.low in
    let a = m.value c.args.a in
    let over = m.value c.lowered-over.result in
    let folded = m.value c.times_byte-else-is_zero.result in
    let wide : 8 ≤ m.size = omega (arith, c.if-bits-lt8.false, c.bits.ensures) in
    let over_is = c.lowered-over.ensures ∙ ap (λ (x : ℕ). a / 2 ^ (x - 8)) c.bits-2.ensures in
    x8_folds m.size low laws.some (laws.below c.args.low) a over (m.value c.shifted-kept.result) folded (m.value c.add-else-is_zero.result)
    wide over_is c.shifted-kept.ensures
    (low_by_over m.size low laws.some (laws.below c.args.low) a over folded wide (laws.below c.args.a) over_is c.times_byte-else-is_zero.ensures) c.add-else-is_zero.ensures
