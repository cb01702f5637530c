use Rattle.std.proofs.Common.{◌≡◌, ◌++◌, take, drop}
use Rattle.passes.specs.Passes.{mixed}
use Rattle.passes.proofs.tails.mix.Given as goal

abbrev pub invariant-loop-j : goal.invariant-loop-j
invariant-loop-j g l =
    let m = g.R.BlockRing in
    l.byte-items ≡ take l.j (mixed m.ring (m.value l.block) l.initial.byte-items) ++ drop l.j l.initial.byte-items
