use Rattle.std.proofs.Common.{◌≡◌, ℕ, ◌+◌, ◌-◌, ◌*◌, ◌/◌, ◌^◌, ◌<◌, ◌≤◌, ◌≢◌, sym, ap, ◌∙◌, subst, div-lt_iff_lt-mul, div-one, arith, pow_pos, shr-shr}
use lib.Bits.{bit_and, and_mask}
use Rattle.std.proofs.lemmas.Nat.{le-div}
use Rattle.rings.specs.Ring.{RingKind}
use Rattle.rings.specs.Sums.{sigma}
use Rattle.rings.proofs.Powers.{Summed, summed_one, powers_one, summed_doubled, summed_more, sigma_none, sigma_one, sigma_even, sigma_odd}
use Rattle.rings.proofs.sums.power_sum.Goals as goal

-- the highest bit alone
top_bit : (k j : ℕ) → 2 ^ j ≤ k → k < 2 * 2 ^ j → k / 2 ^ j ≡ 1
top_bit k j le lt =
    let low : 1 ≤ k / 2 ^ j = le-div 1 k (2 ^ j) (pow_pos j) (omega arith) in
    let high : k / 2 ^ j < 2 = (div-lt_iff_lt-mul {k = 2 ^ j} {x = k} {y = 2} (pow_pos j)).1 lt in
    omega (arith, low, high)

-- one more bit of k
module _ (k i : ℕ) (pos : 0 < i) where
  above : k / 2 ^ i ≡ k / 2 ^ (i - 1) / 2
  above = let e : i ≡ i - 1 + 1 = omega arith in ap (λ (j : ℕ). k / 2 ^ j) e ∙ sym (shr-shr k (i - 1) 1)

  bit_set : bit_and (k / 2 ^ (i - 1)) 1 ≡ 1 → k / 2 ^ i + k / 2 ^ i + 1 ≡ k / 2 ^ (i - 1)
  bit_set e = omega (arith, above, and_mask (k / 2 ^ (i - 1)) 1)

  bit_clear : bit_and (k / 2 ^ (i - 1)) 1 ≢ 1 → k / 2 ^ i + k / 2 ^ i ≡ k / 2 ^ (i - 1)
  bit_clear ne = omega (arith, above, and_mask (k / 2 ^ (i - 1)) 1)

-- no bit is left
all_bits : (r : RingKind) (τ k i sum last : ℕ) → i ≤ 0 → Summed r τ (k / 2 ^ i) sum last → Summed r τ k sum last
all_bits r τ k i sum last none z =
    let zero_left : i ≡ 0 = omega (arith, none) in
    subst (λ (n : ℕ). Summed r τ n sum last) (ap (λ (j : ℕ). k / 2 ^ j) zero_left ∙ div-one k) z

pub returns-then-m-eq0 : goal.returns-then-m-eq0
returns-then-m-eq0 g c =
    let b = g.R.BlockRing in
    let τ = b.value c.args.tau in
    sigma_none b.ring τ (b.value c.one-one.result) c.one-one.ensures ∙ ap (sigma b.ring τ) (sym c.if-m-eq0.true)

pub returns-then-m-eq1 : goal.returns-then-m-eq1
returns-then-m-eq1 g c =
    let b = g.R.BlockRing in
    let τ = b.value c.args.tau in
    sigma_one b.ring τ (b.value c.one-one.result) (b.value c.add.result) (g.met.R.BlockRing.below c.args.tau) c.one-one.ensures c.add.ensures
    ∙ ap (sigma b.ring τ) (sym c.if-m-eq1.true)

pub loop-i-init : goal.loop-i-init
loop-i-init g c =
    let b = g.R.BlockRing in
    let half = c.args.m / 2 in
    subst (λ (k : ℕ). Summed b.ring (b.value c.args.tau) k (b.value c.one-one.result) (b.value c.args.tau))
    (sym (top_bit half c.ilog2-i.result c.ilog2-i.ensures.power_le c.ilog2-i.ensures.next_power_gt))
    (summed_one b.ring (b.value c.args.tau) (b.value c.one-one.result) (g.met.R.BlockRing.below c.args.tau) c.one-one.ensures)

pub times_first_powers-requires : goal.times_first_powers-requires
times_first_powers-requires g c e =
    let b = g.R.BlockRing in
    let half = c.args.m / 2 in
    let i = c.loop-i.i in
    let same : i ≡ i - 1 + 1 = omega (arith, c.loop-i-test.true) in
    powers_one b.ring (b.value c.args.tau) (half / 2 ^ i) (b.value c.loop-i.sum) (b.value c.loop-i.power) c.loop-i.invariant
    (ap (λ (j : ℕ). half / 2 ^ j) same ∙ e)

pub loop-i-preserved-then-half-i-eq1 : goal.loop-i-preserved-then-half-i-eq1
loop-i-preserved-then-half-i-eq1 g c =
    let b = g.R.BlockRing in
    let τ = b.value c.args.tau in
    let half = c.args.m / 2 in
    let k = half / 2 ^ c.loop-i.i in
    let sum = b.value c.add-sum.result in
    let last = b.value c.multiply-power.result in
    let twice = summed_doubled b.ring τ k (b.value c.loop-i.sum) (b.value c.loop-i.power) sum last (b.value c.times_first_powers.result)
    c.loop-i.invariant c.times_first_powers.ensures c.add-sum.ensures c.multiply-power.ensures in
    let more = summed_more b.ring τ (k + k) sum last (b.value c.add-sum-then-half-i-eq1.result) (b.value c.multiply-power-then-half-i-eq1.result)
    (g.met.R.BlockRing.below c.args.tau) twice c.add-sum-then-half-i-eq1.ensures c.multiply-power-then-half-i-eq1.ensures in
    subst (λ (n : ℕ). Summed b.ring τ n (b.value c.add-sum-then-half-i-eq1.result) (b.value c.multiply-power-then-half-i-eq1.result))
    (bit_set half c.loop-i.i c.loop-i-test.true c.if-half-i-eq1.true) more

pub loop-i-preserved : goal.loop-i-preserved
loop-i-preserved g c =
    let b = g.R.BlockRing in
    let τ = b.value c.args.tau in
    let half = c.args.m / 2 in
    let k = half / 2 ^ c.loop-i.i in
    let sum = b.value c.add-sum.result in
    let last = b.value c.multiply-power.result in
    let twice = summed_doubled b.ring τ k (b.value c.loop-i.sum) (b.value c.loop-i.power) sum last (b.value c.times_first_powers.result)
    c.loop-i.invariant c.times_first_powers.ensures c.add-sum.ensures c.multiply-power.ensures in
    subst (λ (n : ℕ). Summed b.ring τ n sum last) (bit_clear half c.loop-i.i c.loop-i-test.true c.if-half-i-eq1.false) twice

pub returns-then-m-eq0-2 : goal.returns-then-m-eq0-2
returns-then-m-eq0-2 g c =
    let b = g.R.BlockRing in
    let m = c.args.m in
    let even : m ≡ m / 2 + m / 2 = omega (arith, c.if-m-eq0-2.true) in
    sigma_even b.ring (b.value c.args.tau) m (m / 2) (b.value c.loop-i.sum) (b.value c.loop-i.power) (b.value c.add-more.result)
    (b.value c.multiply.result) (b.value c.add-then-m-eq0-2.result)
    (all_bits b.ring (b.value c.args.tau) (m / 2) c.loop-i.i (b.value c.loop-i.sum) (b.value c.loop-i.power) c.loop-i-test.false c.loop-i.invariant)
    even c.add-more.ensures c.multiply.ensures c.add-then-m-eq0-2.ensures

pub returns-else-m-eq0-2 : goal.returns-else-m-eq0-2
returns-else-m-eq0-2 g c =
    let b = g.R.BlockRing in
    let m = c.args.m in
    let odd : m ≡ m / 2 + m / 2 + 1 = omega (arith, c.if-m-eq0-2.false) in
    sigma_odd b.ring (b.value c.args.tau) m (m / 2) (b.value c.loop-i.sum) (b.value c.loop-i.power) (b.value c.add-more.result)
    (b.value c.multiply-else-m-eq0-2.result) (b.value c.multiply-else-m-eq0-2-2.result) (b.value c.add-else-m-eq0-2.result)
    (g.met.R.BlockRing.below c.args.tau)
    (all_bits b.ring (b.value c.args.tau) (m / 2) c.loop-i.i (b.value c.loop-i.sum) (b.value c.loop-i.power) c.loop-i-test.false c.loop-i.invariant)
    odd c.add-more.ensures c.multiply-else-m-eq0-2.ensures c.multiply-else-m-eq0-2-2.ensures c.add-else-m-eq0-2.ensures
