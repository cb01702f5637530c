use Rattle.std.proofs.Common.{◌≡◌, ℕ, ◌<◌, length, get_or, sym, ap, ◌∙◌, subst, rules}
use lib.Bits.{bit_xor}
use Rattle.std.specs.Int.Digits.{AllBelowBase}
use Rattle.std.proofs.ByRecursion.{All-from_get_or}
use Rattle.rings.specs.Blocks.{blocks}
use Rattle.tet_theory.specs.Tet.{chained}
use Rattle.tet.proofs.Chains.{Left, chained_more, chained_all}
use Rattle.tet.proofs.tweaks.chain.Goals as goal

pub loop-block-init : goal.loop-block-init
loop-block-init g c =
    let bs = c.args.bytes.now in
    let bytes : (i : ℕ) → get_or bs i 0 < 256 = search rules in
    let under : AllBelowBase 256 bs = All-from_get_or (λ (d : ℕ). d < 256) bs 0 (λ i _. bytes i) in
    let E = g.C.BlockCipher.kind.encipher (g.C.BlockCipher.held c.args.cipher.now) in
    let r = g.C.Ring.BlockRing.ring in
    let sized : c.into_iter-block-iterator.result.size ≡ r.width = search rules in
    let is : c.into_iter-block-iterator.result.rest.now ≡ bs = search rules in
    (sized, (subst (AllBelowBase 256) (sym is) under, λ t. chained r E (c.zero-v.ensures t) (blocks r.width (is t))))

pub loop-block-preserved : goal.loop-block-preserved
loop-block-preserved g c =
    let m = g.C.Ring.BlockRing in
    let r = m.ring in
    let E = g.C.BlockCipher.kind.encipher (g.C.BlockCipher.held c.args.cipher.now) in
    let W = chained r E 0 (blocks r.width c.args.bytes.now) in
    let steps = c.in-Some.ensures.steps in
    let rest = c.next.new.self.rest.now in
    let V = m.value c.loop-block.v in
    let left = chained_more r E V (m.value c.add-v.result) W c.loop-block.block-iterator.rest.now c.in-Some.block.now rest c.loop-block.invariant.1
    (steps.1.1 ∙ c.loop-block.invariant.0) steps.1.0 (c.add-v.ensures ∙ ap (bit_xor V) c.from_bytes.ensures) in
    (steps.0 ∙ c.loop-block.invariant.0, subst (λ V. Left r E V rest W) (sym c.encipher.ensures.block_is_enciphered) left)

pub returns : goal.returns
returns g c =
    let m = g.C.Ring.BlockRing in
    let r = m.ring in
    let E = g.C.BlockCipher.kind.encipher (g.C.BlockCipher.held c.args.cipher.now) in
    let short : length c.loop-block.block-iterator.rest.now < r.width = subst (λ w. length c.loop-block.block-iterator.rest.now < w) c.loop-block.invariant.0 c.in-None.ensures.steps.1.0 in
    sym (chained_all r E (m.value c.loop-block.v) c.loop-block.block-iterator.rest.now short) ∙ c.loop-block.invariant.1.1
