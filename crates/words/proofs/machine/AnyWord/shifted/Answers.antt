use Rattle.std.proofs.Common.{◌≤◌, ◌%◌, ◌^◌, arith}
use native.Mathlib.Nat.{zero-mod}
use Rattle.num_traits.specs.Laws.{bit_len}
use Rattle.words.proofs.Bounds.{raised}
use Rattle.words.proofs.Widths.{shifted_out}
use Rattle.words.proofs.machine.AnyWord.shifted.Goals as goal

pub returns-then-by-bits : goal.returns-then-by-bits
returns-then-by-bits g c =
    let b = g.T.FixedWidth in
    raised b.width b.bits_of b.of_bits b.bits_round_trip_law _ (b.bits_of c.args.self) c.args.by (cc)

pub returns-else-by-bits : goal.returns-else-by-bits
returns-else-by-bits g c =
    let n = bit_len g.T.FixedWidth.width in
    let past : n ≤ c.args.by = omega arith in
    cc (zero-mod (2 ^ n), shifted_out n (g.T.FixedWidth.bits_of c.args.self % 2 ^ n) c.args.by past)
