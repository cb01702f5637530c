use Rattle.std.proofs.Common.{◌≡◌, ◌≤◌, ◌^◌, arith}
use native.Mathlib.Nat.{zero-mod}
use Rattle.num_traits.specs.Laws.{bit_len}
use Rattle.words.proofs.Widths.{lowered_out}
use Rattle.words.proofs.machine.AnyWord.lowered.Goals as goal

pub returns-else-by-bits : goal.returns-else-by-bits
returns-else-by-bits g c =
    let b = g.T.FixedWidth in
    let n = bit_len b.width in
    let none : b.bits_of g.T.Zero.zero ≡ 0 = g.met.T.FixedWidth.bits_of_natural_law g.T.Zero.zero 0 (g.met.T.Zero.zero_law g.met.T.Integral.exact_law) in
    let past : n ≤ c.args.by = omega arith in
    cc (none, zero-mod (2 ^ n), lowered_out n (b.bits_of c.args.self) c.args.by past)
