use Rattle.std.proofs.Common.{◌≡◌, ℕ, ◌+◌, ◌-◌, ◌*◌, ◌%◌, [], ◌∷◌, ◌++◌, length, replicate, sym, refl, ap, ◌∙◌, arith, rules, length-append}
use Rattle.std.specs.Int.Digits.{number_from_digits}
use Rattle.std.specs.List.{range_with_len}
use Rattle.std.proofs.lemmas.Fn.{fold_over}
use Rattle.std.proofs.lemmas.Int.Digits.{number_push}
use Rattle.std.proofs.iter.Yields.{nat_range_steps}
use Rattle.std.proofs.lemmas.List.FromFn.{length-range_with_len}
use Rattle.std.proofs.lemmas.Iterator.{YieldsList-from_range}
use Rattle.rings.specs.Ring.{size}
use Rattle.rings.proofs.Bytes.{mod_shift}
use Rattle.passes.proofs.Ends.{pad_more}
use Rattle.passes.proofs.tails.pad_block.Goals as goal

pub returns : goal.returns
returns g c =
    let m = g.R.BlockRing in
    let n = size m.ring in
    let bs = c.args.bytes.now in
    let zeros = c.saturating_sub-zeros.result in
    let padded : ℕ → ℕ = λ k. number_from_digits 256 (bs ++ (128 ∷ replicate k 0)) % n in
    let start : m.value c.pushed.result ≡ padded 0 =
    c.pushed.ensures
    ∙ ap (λ (x : ℕ). (x * 256 + 128) % n) c.from_bytes.ensures
    ∙ mod_shift (number_from_digits 256 bs) 128 n
    ∙ ap (λ (x : ℕ). x % n) (sym (number_push 256 bs 128)) in
    let all : m.value c.fold.result ≡ padded (length (range_with_len 0 zeros)) =
    fold_over nat_range_steps (λ x. x) _ (λ ys a. m.value a ≡ padded (length ys)) _
    (λ ys a x b f is k.
    let more : m.value b ≡ (m.value a * 256 + 0) % n = search rules in
    (more ∙ ap (λ (v : ℕ). (v * 256 + 0) % n) is ∙ pad_more bs (length ys) n ∙ ap padded (sym (length-append ys (x ∷ []))), search rules))
    (record { start = 0; end = zeros }) (range_with_len 0 zeros) _ _ (YieldsList-from_range 0 zeros zeros refl (omega arith)).runs start c.fold.ensures.ran in
    let same : length (range_with_len 0 zeros) ≡ m.ring.width - 1 - length bs = length-range_with_len 0 zeros ∙ omega (arith, c.saturating_sub.ensures, c.saturating_sub-zeros.ensures, c.width.ensures) in
    record { bytes_are_padded = all ∙ ap padded same }
