use Rattle.std.proofs.Common.{◌≡◌, ℕ, ◌-◌, List, ◌++◌, length, drop, replicate, ap, ◌∙◌, arith}
use lib.ListN.{length-replicate}
use borrow.Rule.Slice.PartMut.{put_mid}
use Rattle.std.proofs.lemmas.List.{take_rest}
use Rattle.rings.proofs.Reading.{copied, block_number, last_chunk_number}
use Rattle.rings.proofs.modular.last.Goals as goal

pub returns-in-Some : goal.returns-in-Some
returns-in-Some g c = last_chunk_number g.row.N c.args.bytes.now c.in-Some.end.now c.in-Some.ensures.cases.0 c.in-Some.ensures.cases.1.same

pub returns : goal.returns
returns g c =
    let N = g.row.N in
    let bs = c.args.bytes.now in
    let count = c.min-count.result in
    let new = c.copy_from_slice.new.self in
    let least = c.min-count.ensures in
    let block_is : put_mid (N - count) (length (replicate N 0) - (N - count)) (replicate N 0) new ≡ replicate (N - count) 0 ++ drop (length bs - count) bs =
    ap (λ (k : ℕ). put_mid (N - count) (k - (N - count)) (replicate N 0) new) (length-replicate N 0)
    ∙ copied N (N - count) (N - (N - count)) new (omega arith) (omega arith)
    ∙ ap (λ (l : List ℕ). replicate (N - count) 0 ++ l) (c.copy_from_slice.ensures.after ∙ take_rest bs (length bs - count)) in
    block_number N bs _ count least block_is
