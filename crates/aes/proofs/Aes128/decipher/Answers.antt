use Rattle.std.proofs.Common.{◌≡◌, ◌≤◌, suc, length, take, drop, sym, ap, ◌∙◌, arith}
use Rattle.std.proofs.lemmas.List.{length_push}
use Rattle.std.specs.Simd.{first_chunks}
use Rattle.aes.specs.Aes.{inv_rounds}
use Rattle.aes.specs.Columns.{state}
use Rattle.aes.proofs.Chunks.{last_taken}
use Rattle.aes.proofs.Rounds.{back}
use Rattle.aes.proofs.Aes128.decipher.Goals as goal

pub loop-key-preserved : goal.loop-key-preserved
loop-key-preserved c =
    let w = c.args.self.now.w in
    let dw = c.args.self.now.dw in
    let keys = drop 1 (first_chunks 4 11 dw) in
    let rest = c.next.new.self.iter.rest.now in
    let key = c.in-Some.key.now in
    let step = c.in-Some.ensures.steps in
    let long : length c.loop-key.key-iterator.iter.rest.now ≡ suc (length rest) = ap length step ∙ length_push rest key ∙ omega arith in
    let short : suc (length rest) ≤ 9 = rw long at c.loop-key.invariant.0 in
    let taken = last_taken keys rest key (sym step ∙ c.loop-key.invariant.1 ∙ ap (λ l. take (length l) keys) step) in (
      omega (arith, short),
      taken.0,
      ap (inv_rounds w (length rest)) c.inv_round-columns.ensures
          ∙ back w dw c.args.self.now.unmixed _ (state c.loop-key.columns) (length rest) key (omega (arith, short)) taken.1
          (ap (λ n. inv_rounds w n (state c.loop-key.columns)) (sym long) ∙ c.loop-key.invariant.2),
    )
