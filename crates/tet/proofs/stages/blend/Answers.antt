use Rattle.std.proofs.Common.{ℕ, sym, ap, ◌∙◌, ap₂}
use lib.Bits.{bit_xor}
use Rattle.rings.specs.Blocks.{blocks}
use Rattle.rings.specs.Sums.{hash_sum}
use Rattle.rings.proofs.Powers.{hash_sum_below}
use Rattle.rings.proofs.Total.{times_blocks}
use Rattle.passes.specs.Passes.{added}
use Rattle.passes.specs.Sector.{rowwise}
use Rattle.tet.proofs.stages.blend.Goals as goal

pub returns : goal.returns
returns g c =
    let m = g.R.BlockRing in
    let r = m.ring in
    let bs = c.args.sector.now in
    let τ = m.value c.args.hash.tau in
    let ι = m.value c.args.hash.inverse in
    let sum = hash_sum r τ (blocks r.width bs) in
    let part = c.multiply.ensures ∙ ap (λ (x : ℕ). r.product x ι) c.hash_sum.ensures
    ∙ sym (times_blocks r sum ι (hash_sum_below r τ (blocks r.width bs)) (g.met.R.BlockRing.below c.args.hash.inverse)) in
    c.add_to_each.ensures.block_is_added
    ∙ ap (λ (v : ℕ). rowwise r.width (added v) bs) (c.add-sum.ensures ∙ ap₂ bit_xor part c.tail_block.ensures.tail_is_padded)
