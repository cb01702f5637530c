use Rattle.std.proofs.Common.{◌≡◌, ◌%◌, map}
use Rattle.std.specs.Int.Digits.{number_from_digits}
use Rattle.rings.specs.Ring.{size}
use Rattle.rings.specs.Sums.{hash_sum}
use Rattle.rings.proofs.sums.hash_sum.Given as goal

abbrev pub invariant-loop-block : goal.invariant-loop-block
invariant-loop-block g l =
    let m = g.R.BlockRing in
    m.value l.sum ≡ hash_sum m.ring (m.value l.fn.tau) (map (λ b. number_from_digits 256 b.now % size m.ring) l.yielded)
