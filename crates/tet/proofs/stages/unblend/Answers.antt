use Rattle.std.proofs.Common.{ℕ, sym, ap, ◌∙◌, ap₂}
use lib.Bits.{bit_xor}
use Rattle.rings.specs.Ring.{times}
use Rattle.rings.proofs.Total.{times_blocks}
use Rattle.passes.specs.Passes.{added}
use Rattle.passes.specs.Sector.{rowwise}
use Rattle.tet.proofs.stages.unblend.Goals as goal

pub returns : goal.returns
returns g c =
    let m = g.R.BlockRing in
    let r = m.ring in
    let below = g.met.R.BlockRing.below in
    let bs = c.args.sector.now in
    let σ = c.args.hash.sigma in
    let p = c.tail_block.result in
    let part = c.multiply.ensures ∙ sym (times_blocks r (m.value σ) (m.value p) (below σ) (below p))
    ∙ ap (λ (x : ℕ). times r (m.value σ) x) c.tail_block.ensures.tail_is_padded in
    c.add_to_each.ensures.block_is_added
    ∙ ap (λ (v : ℕ). rowwise r.width (added v) bs) (c.add-sum.ensures ∙ ap₂ bit_xor c.hash_sum.ensures part)
