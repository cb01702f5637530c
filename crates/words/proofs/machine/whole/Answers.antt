use Rattle.words.proofs.Bounds.{kept}
use Rattle.words.proofs.machine.whole.Goals as goal

pub returns : goal.returns
returns g c =
    let b = g.T.FixedWidth in
    kept b.width b.bits_of b.of_bits b.bits_round_trip_law c.bitand.result (b.bits_of c.args.number) (b.bits_of c.ones.result) c.ones.ensures.bits
    (g.met.T.PrimInt.bitand_law _ _ _ c.bitand.ensures)
