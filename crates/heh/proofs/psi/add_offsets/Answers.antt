use Rattle.std.proofs.Common.{◌≡◌, ℕ, ◌/◌, ◌%◌, ◌<◌, List, ◌++◌, length, get_or, sym, ap, ◌∙◌, rules}
use Rattle.std.proofs.ByRecursion.{All-from_get_or}
use Rattle.rings.specs.Ring.{times}
use Rattle.rings.proofs.Total.{alpha_below, times_blocks}
use Rattle.passes.specs.Passes.{added, whitened}
use Rattle.passes.specs.Sector.{bytes, parted, rowwise}
use Rattle.passes.proofs.Parts.{parted_sound, stage, tail_short}
use Rattle.passes.proofs.Stages.{added_sound}
use Rattle.heh.proofs.Buffers.{offset_is}
use Rattle.heh.proofs.psi.add_offsets.Goals as goal

pub returns : goal.returns
returns g c =
    let m = g.R.BlockRing in
    let r = m.ring in
    let w = r.width in
    let bs = c.args.blocks.now in
    let below = g.met.R.BlockRing.below in
    let bytes_low : (i : ℕ) → get_or bs i 0 < 256 = search rules in
    let under = All-from_get_or (λ (d : ℕ). d < 256) bs 0 (λ i _. bytes_low i) in
    let y = m.value c.args.y in
    let β = m.value c.args.beta in
    let s = parted w bs in
    let mid = c.add_to_each.new.sector in
    let ok = added_sound r (length bs / w) (length bs % w) y (below c.args.y) s (parted_sound r bs under) in
    let αβ : m.value c.times_alpha.result ≡ times r 2 β = c.times_alpha.ensures ∙ sym (times_blocks r 2 β (alpha_below r) (below c.args.beta)) in
    c.whiten.ensures.sector_is_whitened
    ∙ ap (λ (b : ℕ). rowwise w (whitened r b) mid) αβ
    ∙ stage r (length bs / w) (length bs % w) (tail_short r (length bs)) mid (added y s) (whitened r (times r 2 β)) c.add_to_each.ensures.block_is_added ok
    ∙ ap (λ (xs : List ℕ). bytes w xs ++ s.tail) (offset_is r y β 0 s.blocks)
