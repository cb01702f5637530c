use Rattle.std.proofs.Common.{◌≡◌, ℕ, ◌<◌, length, get_or, ◌∙◌, rules, of_calls}
use Rattle.std.specs.Int.Digits.{AllBelowBase}
use Rattle.std.proofs.ByRecursion.{All-from_get_or}
use Rattle.tet.proofs.Ends.{tail_stays, blocks_stay, crypted_then, last_within}
use Rattle.tet.proofs.stages.crypt_tail.Goals.{then-is_empty-via-then-is_empty, then-is_empty-via-else-is_empty+then-is_empty-2}
use Rattle.tet.proofs.stages.crypt_tail.Goals as goal

pub returns-then-is_empty : goal.returns-then-is_empty
returns-then-is_empty g c f post =
    let r = g.R.BlockRing.ring in
    let bs = c.args.sector.now in
    let v = c.width-w.result in
    let bytes : (k : ℕ) → get_or bs k 0 < 256 = search rules in
    let under : AllBelowBase 256 bs = All-from_get_or (λ (d : ℕ). d < 256) bs 0 (λ k _. bytes k) in
    let stays : c.then-is_empty.sector ≡ bs = elim c.then-is_empty.branch [
      | then-is_empty-via-then-is_empty w ↦ search rules
      | then-is_empty-via-else-is_empty+then-is_empty-2 w ↦ search rules
    ] in
    stays ∙ elim c.then-is_empty.branch [
      | then-is_empty-via-then-is_empty w ↦ blocks_stay r f bs under v c.width-w.ensures (search rules)
      | then-is_empty-via-else-is_empty+then-is_empty-2 w ↦ tail_stays r f bs under v c.width-w.ensures (search rules)
    ]

pub overflow_sub-last : goal.overflow_sub-last
overflow_sub-last g c = last_within (length c.args.sector.now) c.width-w.result (search rules)

pub returns : goal.returns
returns g c f post =
    let m = g.R.BlockRing in
    let bs = c.args.sector.now in
    let cut = c.split_at_mut-blocks in
    let bytes : (k : ℕ) → get_or bs k 0 < 256 = search rules in
    let under : AllBelowBase 256 bs = All-from_get_or (λ (d : ℕ). d < 256) bs 0 (λ k _. bytes k) in
    crypted_then m.ring f bs under c.width-w.result c.width-w.ensures
    cut.result.0.now cut.result.1.now c.to_bytes.new.bytes c.mix.new.tail (m.value c.from_bytes-middle.result) (m.value c.f.result)
    cut.ensures.front cut.ensures.back (search rules) (search rules)
    c.from_bytes-middle.ensures (post _ _ (search of_calls)) c.to_bytes.ensures c.mix.ensures.tail_is_mixed
