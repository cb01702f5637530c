use Rattle.std.proofs.Common.{ℕ, ◌/◌, ◌<◌, map, length, get_or, ap, ◌∙◌, arith, rules, of_calls}
use Rattle.std.specs.Int.Digits.{AllBelowBase}
use Rattle.std.proofs.ByRecursion.{All-from_get_or}
use Rattle.rings.proofs.Bytes.{block_inside}
use Rattle.passes.proofs.Loops.{none_ran, block_read, block_written, more_ran, all_ran}
use Rattle.passes.proofs.blocks.map_each.Goals as goal

pub loop-i-init : goal.loop-i-init
loop-i-init g c = (c.requires, none_ran (goal.F-step g) g.R.BlockRing.value g.R.BlockRing.ring.width c.args.sector.now c.args.f)

pub loop-i-preserved : goal.loop-i-preserved
loop-i-preserved g c =
    let m = g.R.BlockRing in
    let w = m.ring.width in
    let v = c.width-w.result in
    let e = c.width-w.ensures in
    let i = c.loop-i.i in
    let bs = c.args.sector.now in
    let bytes : (k : ℕ) → get_or bs k 0 < 256 = search rules in
    let under : AllBelowBase 256 bs = All-from_get_or (λ (d : ℕ). d < 256) bs 0 (λ k _. bytes k) in
    let ran = c.loop-i.invariant.1 in
    let text = c.loop-i.sector in
    let ys = map (λ c. m.value c.1) ran.0 in
    let done = block_written w bs v e text ys i ran.3 (block_inside i (length bs) v c.loop-i-test.true) c.to_bytes.new.bytes (m.value c.f.result) c.to_bytes.ensures in (
      search of_calls,
      more_ran (goal.F-step g) m.value w bs c.args.f c.loop-i.f c.f.new.self i text _ c.from_bytes.result c.f.result ran
          c.f.ensures (c.from_bytes.ensures ∙ block_read w bs under v e text ys i ran.3) done,
    )

pub returns : goal.returns
returns g c =
    let bs = c.args.sector.now in
    all_ran (goal.F-step g) g.R.BlockRing.value g.R.BlockRing.ring.width bs c.args.f c.loop-i.f c.loop-i.i (length bs / c.width-w.result) c.loop-i.sector
    (omega arith) (omega arith) (ap (λ (v : ℕ). length bs / v) c.width-w.ensures) c.loop-i.invariant.1
