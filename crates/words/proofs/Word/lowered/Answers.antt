use Rattle.std.proofs.Common.{◌≡◌, ℕ, suc, ◌+◌, ◌/◌, ◌^◌, sym, ap, ◌∙◌, arith}
use native.Mathlib.Nat.{div-div-eq-div-mul}
use Rattle.std.proofs.Math.Nat.{pow-suc}
use Rattle.words.proofs.Word.lowered.Goals as goal

grown : (i : ℕ) → i + 1 ≡ suc i
grown i = omega arith

pub loop-preserved : goal.loop-preserved
loop-preserved g c =
    let x = g.Self.Word.value c.args.self in
    let i = c.loop.counter in
    c.halved-low.ensures ∙ ap (λ (n : ℕ). n / 2) c.loop.invariant ∙ div-div-eq-div-mul x (2 ^ i) 2 ∙ ap (λ (n : ℕ). x / n) (sym (ap (λ (n : ℕ). 2 ^ n) (grown i) ∙ pow-suc 2 i))
