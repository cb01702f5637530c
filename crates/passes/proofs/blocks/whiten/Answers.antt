use Rattle.std.proofs.Common.{◌≡◌, ap, ◌∙◌, rules}
use lib.Bits.{bit_xor}
use Rattle.rings.specs.Ring.{times}
use Rattle.rings.specs.Sums.{power}
use Rattle.passes.specs.Passes.{whitened_at}
use Rattle.passes.specs.Sector.{parted, joined}
use Rattle.passes.proofs.Loops.{placed_by}
use Rattle.passes.proofs.Stages.{offset_first, offset_more}
use Rattle.passes.proofs.blocks.whiten.Goals as goal

pub returns : goal.returns
returns g c =
    let m = g.R.BlockRing in
    let r = m.ring in
    let w = m.ring.width in
    let β = m.value c.args.beta in
    let made = c.map_each.ensures in
    record {
      sector_is_whitened = made.2 ∙ ap (joined w) (placed_by _ m.value (whitened_at r β) (λ i f. m.value f.0.now ≡ times r (power r 2 i) β)
          (λ i p x y q is k.
          let sum : m.value y ≡ bit_xor (m.value x) (m.value p.0.now) = search rules in
          let next : m.value q.0.now ≡ r.product 2 (m.value p.0.now) = search rules in
          (sum ∙ ap (bit_xor (m.value x)) is, next ∙ ap (r.product 2) is ∙ offset_more r β i))
          _ (offset_first r β (g.met.R.BlockRing.below c.args.beta)) (parted w c.args.sector.now) made.0 made.1);
    }
