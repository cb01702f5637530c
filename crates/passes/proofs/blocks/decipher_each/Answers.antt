use Rattle.std.proofs.Common.{ap, ◌∙◌, rules}
use Rattle.passes.specs.Sector.{parted, joined}
use Rattle.passes.proofs.Loops.{mapped_by}
use Rattle.passes.proofs.blocks.decipher_each.Goals as goal

pub returns : goal.returns
returns g c =
    let m = g.C.Ring.BlockRing in
    let k = g.C.BlockCipher in
    let w = m.ring.width in
    let made = c.map_each.ensures in
    record { blocks_are_deciphered = made.2 ∙ ap (joined w) (mapped_by _ m.value (k.kind.decipher (k.held c.args.cipher.now)) _ (λ x y q h. search rules) (parted w c.args.sector.now) made.0 made.1) }
