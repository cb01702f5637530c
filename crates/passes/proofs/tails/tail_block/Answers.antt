use Rattle.std.proofs.Common.{ℕ, ◌<◌, ◌∙◌, rules}
use Rattle.std.proofs.ByRecursion.{All-from_get_or}
use Rattle.passes.proofs.Ends.{tail_some}
use Rattle.passes.proofs.tails.tail_block.Goals as goal

pub returns : goal.returns
returns g c =
    let bs = c.args.sector.now in
    let under = All-from_get_or (λ (d : ℕ). d < 256) bs 0 (λ k _. (c.type_inv.sector k).fits) in
    let ys = c.remainder-tail.result.now in
    record { tail_is_padded = c.pad_block.ensures.bytes_are_padded ∙ tail_some g.R.BlockRing.ring bs under c.width.result c.width.ensures ys (c.remainder-tail.ensures ∙ c.chunks_exact.ensures.remainder) (search rules) }
