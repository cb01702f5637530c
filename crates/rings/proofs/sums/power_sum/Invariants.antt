use Rattle.std.proofs.Common.{◌/◌, ◌^◌}
use Rattle.rings.proofs.Powers.{Summed}
use Rattle.rings.proofs.sums.power_sum.Given as goal

abbrev pub invariant-loop-i : goal.invariant-loop-i
invariant-loop-i g l =
    let m = g.R.BlockRing in
    Summed m.ring (m.value l.tau) (l.half / 2 ^ l.i) (m.value l.sum) (m.value l.power)
