use Rattle.std.proofs.Common.{ℕ, ◌%◌, List, get_or, take, ap, ◌∙◌, take_all, arith}
use Rattle.std.specs.Int.Digits.{number_from_digits}
use Rattle.std.proofs.lemmas.Int.Digits.{number_more}
use Rattle.rings.specs.Ring.{size}
use Rattle.rings.proofs.Bytes.{mod_shift}
use Rattle.rings.proofs.modular.AnyBlockRing.from_bytes.Goals as goal

pub loop-b-init : goal.loop-b-init
loop-b-init g c = c.from_number-block.ensures

pub loop-b-preserved : goal.loop-b-preserved
loop-b-preserved g c =
    let n = size g.T.Modulus.ring in
    let bytes = c.args.bytes.now in
    let i = c.loop-b.b-index in
    let b = get_or bytes i 0 in
    grind (arith, mod_shift (number_from_digits 256 (take i bytes)) b n, number_more 256 bytes i c.loop-b-test.true)

pub returns-then-bytes-width : goal.returns-then-bytes-width
returns-then-bytes-width g c = c.loop-b.invariant ∙ ap (λ (l : List ℕ). number_from_digits 256 l % size g.T.Modulus.ring) (take_all _ _ c.loop-b-test.false)
