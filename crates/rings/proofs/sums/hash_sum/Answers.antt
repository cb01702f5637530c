use Rattle.std.proofs.Common.{◌≡◌, ℕ, Bor, List, ◌%◌, ◌<◌, ◌∷◌, [], map, refl, sym, ap, ◌∙◌, subst}
use lib.Bits.{bit_xor}
use Rattle.std.specs.Int.Digits.{number_from_digits, AllBelowBase}
use Rattle.std.specs.Slice.Iter.{chunks_exact_rest, chunks_exact_size}
use Rattle.rings.specs.Blocks.{blocks}
use Rattle.std.proofs.ByRecursion.{All-from_get_or}
use Rattle.std.proofs.lemmas.List.{map-append}
use Rattle.rings.specs.Ring.{size}
use Rattle.rings.specs.Sums.{hash_sum}
use Rattle.rings.proofs.Chunks.{chunked}
use Rattle.rings.proofs.Powers.{hash_sum_none, hash_sum_turns, hash_sum_added}
use Rattle.rings.proofs.Total.{rest_below}
use Rattle.rings.proofs.sums.hash_sum.Goals as goal

pub loop-block-init : goal.loop-block-init
loop-block-init g c = cc (hash_sum_none g.R.BlockRing.ring (g.R.BlockRing.value c.args.tau))

-- by the facts of the calls, whether a turn adds first or multiplies first
pub loop-block-preserved : goal.loop-block-preserved
loop-block-preserved g c =
    let m = g.R.BlockRing in
    let τ = m.value c.args.tau in
    let sum = m.value c.loop-block.sum in
    let small = g.met.R.BlockRing.below c.args.tau in
    let read = λ (b : Bor (List ℕ)). number_from_digits 256 b.now % size m.ring in
    let bs = map read c.loop-block.yielded in
    let b = read c.in-Some.block in
    let fits = rest_below m.ring (number_from_digits 256 c.in-Some.block.now) in
    cc (
      map-append read c.loop-block.yielded (c.in-Some.block ∷ []),
      hash_sum_turns m.ring τ sum b (m.ring.product (bit_xor sum b) τ) bs small fits c.loop-block.invariant refl,
      hash_sum_added m.ring τ small bs b fits,
    )

pub returns : goal.returns
returns g c =
    let m = g.R.BlockRing in
    let r = m.ring in
    let bytes = c.args.sector.now in
    let under : AllBelowBase 256 bytes = All-from_get_or (λ (d : ℕ). d < 256) bytes 0 (λ k _. (c.type_inv.sector k).fits) in
    let begun = c.into_iter-block-iterator.ensures.into_iter_gives in
    let w_is : chunks_exact_size c.into_iter-block-iterator.result ≡ r.width =
    ap chunks_exact_size begun ∙ c.chunks_exact-block-items.ensures.size ∙ c.width.ensures in
    let all : chunks_exact_rest c.into_iter-block-iterator.result ≡ bytes = ap chunks_exact_rest begun ∙ c.chunks_exact-block-items.ensures.rest in
    c.loop-block.invariant
    ∙ ap (hash_sum r (m.value c.args.tau))
    (chunked r.width r.some c.into_iter-block-iterator.result c.loop-block.block-iterator c.loop-block.yielded c.loop-block.yielded_by w_is
    (subst (AllBelowBase 256) (sym all) under) c.in-None.ensures.steps.1.0
    ∙ ap (blocks r.width) all)
