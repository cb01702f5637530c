use Rattle.std.proofs.Common.{◌≡◌, ◌*◌, ◌/◌, ◌^◌}
use Rattle.polynomials.specs.Polynomial.{product}
use Rattle.words.proofs.arithmetic.multiply.Given as goal

abbrev pub invariant-loop-i : goal.invariant-loop-i
invariant-loop-i g l =
    let m = g.W.Word in
    m.value l.sum ≡ product m.size (m.value l.low) (m.value l.a) (m.value l.b / 2 ^ (8 * l.i))
