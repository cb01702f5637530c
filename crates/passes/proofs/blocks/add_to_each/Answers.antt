use Rattle.std.proofs.Common.{ap, ◌∙◌, rules}
use lib.Bits.{bit_xor}
use Rattle.passes.specs.Sector.{parted, joined}
use Rattle.passes.proofs.Loops.{mapped_by}
use Rattle.passes.proofs.blocks.add_to_each.Goals as goal

pub returns : goal.returns
returns g c =
    let m = g.R.BlockRing in
    let w = m.ring.width in
    let made = c.map_each.ensures in
    record { block_is_added = made.2 ∙ ap (joined w) (mapped_by _ m.value (λ x. bit_xor x (m.value c.args.block)) _ (λ x y q k. search rules) (parted w c.args.sector.now) made.0 made.1) }
