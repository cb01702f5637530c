use Rattle.std.proofs.Common.{◌≡◌, ℕ, ◌*◌, ◌/◌, ◌<◌, length, take, drop, ap, ◌∙◌, ap₂, mod-eq_of_lt, arith}
use Rattle.rings.specs.Blocks.{blocks, first_blocks}
use Rattle.rings.specs.Ring.{size}
use Rattle.passes.proofs.Parts.{blocks_ahead}
use Rattle.tet_theory.specs.Tet.{ahead, chained, last_step}
use Rattle.tet.proofs.Chains.{ahead_fits}
use Rattle.tet.proofs.tweaks.tweak_block.Goals as goal

pub returns : goal.returns
returns g c =
    let m = g.C.Ring.BlockRing in
    let w = m.ring.width in
    let E = g.C.BlockCipher.kind.encipher (g.C.BlockCipher.held c.args.cipher.now) in
    let bs = c.args.tweak.now in
    let n = c.args.size in
    let low : 8 * n < size m.ring = omega (arith, m.ring.counted, c.requires) in
    let x_is : m.value c.encipher.new.block ≡ E (8 * n) = c.encipher.ensures.block_is_enciphered ∙ ap E (c.from_number-x.ensures ∙ mod-eq_of_lt low) in
    let k = ahead m.ring E bs in
    let at : c.saturating_sub.result / c.width-w.result * c.width-w.result ≡ k * w = ap₂ (λ (a v : ℕ). a / v * v) c.saturating_sub.ensures c.width-w.ensures in
    let front : c.split_at.result.0.now ≡ take (k * w) bs = c.split_at.ensures.front ∙ ap (λ (i : ℕ). take i bs) at in
    let end_is : c.split_at.result.1.now ≡ drop (k * w) bs = c.split_at.ensures.back ∙ ap (λ (i : ℕ). drop i bs) at in
    let v_is : m.value c.chain-v.result ≡ chained m.ring E 0 (first_blocks w k bs) =
    c.chain-v.ensures ∙ ap (chained m.ring E 0) (ap (blocks w) front ∙ blocks_ahead w k bs m.ring.some (ahead_fits (length bs) w)) in
    c.last_step.ensures ∙ (λ t. last_step m.ring E (x_is t) (v_is t) (end_is t))
