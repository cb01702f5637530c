use Rattle.std.proofs.Common.{◌≡◌, ◌^◌}
use Rattle.polynomials.specs.Polynomial.{product}
use Rattle.words.proofs.arithmetic.times_power.Given as goal

abbrev pub invariant-loop : goal.invariant-loop
invariant-loop g l =
    let m = g.W.Word in
    m.value l.power ≡ product m.size (m.value l.low) (m.value l.initial.power) (2 ^ l.counter)
