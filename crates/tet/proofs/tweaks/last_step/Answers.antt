use Rattle.std.proofs.Common.{ℕ, ◌<◌, get_or, sym, ap, ◌∙◌, rules}
use lib.Bits.{bit_xor}
use Rattle.std.proofs.ByRecursion.{All-from_get_or}
use Rattle.rings.specs.Ring.{times}
use Rattle.tet.proofs.Chains.{whole_step, short_step}
use Rattle.tet.proofs.Hashes.{times_alpha}
use Rattle.tet.proofs.tweaks.last_step.Goals.{then-end-width, else-end-width}
use Rattle.tet.proofs.tweaks.last_step.Goals as goal

pub returns : goal.returns
returns g c =
    let m = g.C.Ring.BlockRing in
    let below = g.met.C.Ring.BlockRing.below in
    let E = g.C.BlockCipher.kind.encipher (g.C.BlockCipher.held c.args.cipher.now) in
    let x = m.value c.args.x in
    let v = m.value c.args.v in
    let end = c.args.end.now in
    let bytes : (i : ℕ) → get_or end i 0 < 256 = search rules in
    let under = All-from_get_or (λ (d : ℕ). d < 256) end 0 (λ i _. bytes i) in
    let once = times_alpha m.ring x (m.value c.times_alpha-once.result) (below c.args.x) c.times_alpha-once.ensures in
    let twice = times_alpha m.ring (m.value c.times_alpha-once.result) (m.value c.times_alpha-twice.result) (below c.times_alpha-once.result) c.times_alpha-twice.ensures
    ∙ ap (times m.ring 2) once in
    let chosen = c.if-end-width.offset in
    let made = c.encipher.ensures.block_is_enciphered ∙ ap E (c.add-sum.ensures ∙ ap (λ (s : ℕ). bit_xor s (m.value chosen.1)) c.add.ensures) in
    made ∙ elim c.if-end-width.branch [
      | then-end-width w ↦
          (λ t. E (bit_xor (bit_xor (m.value (w.offset-is t).0) v) (m.value (w.offset-is t).1)))
          ∙ (λ t. E (bit_xor (bit_xor (once t) v) (w.from_bytes.ensures t)))
          ∙ whole_step m.ring E x v end under (w.if-end-width.true ∙ c.width.ensures)
      | else-end-width w ↦
          (λ t. E (bit_xor (bit_xor (m.value (w.offset-is t).0) v) (m.value (w.offset-is t).1)))
          ∙ (λ t. E (bit_xor (bit_xor (twice t) v) (w.pad_block.ensures.bytes_are_padded t)))
          ∙ short_step m.ring E x v end under c.requires (λ e. w.if-end-width.false (e ∙ sym c.width.ensures))
    ]
