use Rattle.std.proofs.Common.{◌≡◌, ◌%◌, ◌^◌}
use Rattle.polynomials.specs.Polynomial.{product}
use Rattle.words.proofs.arithmetic.times_byte.Given as goal

abbrev pub invariant-loop-k : goal.invariant-loop-k
invariant-loop-k g l =
    let m = g.W.Word in
    let times = product m.size (m.value l.low) (m.value l.initial.power) in
    (m.value l.sum ≡ times (m.value l.b % 2 ^ l.k)) × (m.value l.power ≡ times (2 ^ l.k))
