use Rattle.std.proofs.Common.{ℕ, ◌%◌, List, get_or, take, sym, ap, ◌∙◌, take_all, arith}
use Rattle.std.proofs.lemmas.Grind.{common_steps}
use native.Mathlib.Nat.{zero-mod}
use Rattle.std.specs.Int.Digits.{number_from_digits}
use Rattle.std.proofs.lemmas.Int.Digits.{number_more}
use Rattle.rings.specs.Ring.{size}
use Rattle.rings.proofs.Bytes.{mod_shift}
use Rattle.rings.proofs.BlockRing.from_bytes.Goals as goal

pub loop-b-init : goal.loop-b-init
loop-b-init g c = c.zero-block.ensures ∙ sym (zero-mod (size g.Self.BlockRing.ring))

pub loop-b-preserved : goal.loop-b-preserved
loop-b-preserved g c =
    let n = size g.Self.BlockRing.ring in
    let bytes = c.args.bytes.now in
    let i = c.loop-b.b-index in
    let b = get_or bytes i 0 in
    grind (arith, common_steps, mod_shift (number_from_digits 256 (take i bytes)) b n, number_more 256 bytes i c.loop-b-test.true)

pub returns : goal.returns
returns g c = c.loop-b.invariant ∙ ap (λ (l : List ℕ). number_from_digits 256 l % size g.Self.BlockRing.ring) (take_all _ _ c.loop-b-test.false)
