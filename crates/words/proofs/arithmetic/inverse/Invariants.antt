use Rattle.std.proofs.Common.{◌+◌, ◌<◌}
use Rattle.polynomials.proofs.Euclid.{Bezout}
use Rattle.words.proofs.arithmetic.inverse.Given as goal

abbrev pub invariant-loop-low : goal.invariant-loop-low
invariant-loop-low g l =
    let m = g.W.Word in
    Bezout m.size (m.value l.low) (m.value l.initial.v) (m.value l.u) (m.value l.v) (m.value l.g) (m.value l.h)
    × (0 < m.value l.v)

abbrev pub decreases-loop-low : goal.decreases-loop-low
decreases-loop-low g l = let m = g.W.Word in m.value l.u + m.value l.v
