use Rattle.passes.proofs.Loops.{Ran}
use Rattle.passes.proofs.blocks.map_each.Given as goal

abbrev pub invariant-loop-i : goal.invariant-loop-i
invariant-loop-i g l =
    goal.F-IsAlwaysCallable g l.f
    × Ran (goal.F-step g) g.R.BlockRing.value g.R.BlockRing.ring.width l.initial.sector l.initial.f l.f l.i l.sector
