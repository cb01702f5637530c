use Rattle.std.proofs.Common.{arith}
use Rattle.words.proofs.Bounds.{added}
use Rattle.words.proofs.machine.AnyWord.add.Goals as goal

pub returns : goal.returns
returns g c =
    let b = g.T.FixedWidth in
    added b.width b.bits_of b.of_bits b.bits_round_trip_law c.bitxor.result (b.bits_of c.whole.result) (b.bits_of c.whole-2.result) (b.bits_of c.args.self) (b.bits_of c.args.other)
    (omega arith) (omega arith) (g.met.T.PrimInt.bitxor_law _ _ _ c.bitxor.ensures)
