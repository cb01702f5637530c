use Rattle.std.proofs.Common.{rules, ◌≡◌, ℕ, List, ◌++◌, take, get_or, ◌-◌, ◌<◌, ◌≤◌, length, sym, ap, ◌∙◌, arith, length-set, take_all}
use Rattle.std.proofs.Math.Seq.{take-append_seam}
use Rattle.aes.specs.Aes.{word, expansion, key_word, key_expansion}
use Rattle.aes.proofs.Chunks.{word_at, words_are}
use Rattle.aes.proofs.Expansion.{more}
use Rattle.aes.proofs.schedule.expand.Goals as goal

pub loop-i-init : goal.loop-i-init
unfolding key_word word
loop-i-init c =
    let key = c.args.key.now in
    let words = c.from_fn-first.result in
    let at : (i : ℕ) → i < 4 → get_or words i 0 ≡ key_word key i = λ i h. search (rules, word_at) in
    let made : words ≡ expansion key 0 = words_are key words c.from_fn-first.ensures.items.long at in
    let new = c.copy_from_slice.new.self in
    let long : length new ≡ 4 = ap length c.copy_from_slice.ensures.after ∙ c.from_fn-first.ensures.items.long in
    let front : (z : List ℕ) → take 4 (new ++ z) ≡ new = λ z. ap (λ n. take n (new ++ z)) (sym long) ∙ take-append_seam new z in (
      search (rules, long),
      front _ ∙ c.copy_from_slice.ensures.after ∙ made,
    )

pub loop-i-preserved : goal.loop-i-preserved
loop-i-preserved c =
    let within : c.loop-i.i < length c.loop-i.w = omega (arith, c.loop-i.invariant.0) in (
      simp length-set c.loop-i.invariant.0,
      more c.args.key.now c.loop-i.w c.loop-i.i _ c.loop-i.auto.i within c.loop-i.invariant.1 c.temp.ensures,
    )

pub returns : goal.returns
unfolding key_expansion
returns c =
    let w = c.loop-i.w in
    let i = c.loop-i.i in
    let end : i ≡ 44 = omega (arith, c.loop-i.auto.i-end (omega arith)) in
    let all : length w ≤ i = omega (arith, c.loop-i.invariant.0) in
    sym (take_all i w all) ∙ c.loop-i.invariant.1 ∙ ap (λ n. expansion c.args.key.now (n - 4)) end
