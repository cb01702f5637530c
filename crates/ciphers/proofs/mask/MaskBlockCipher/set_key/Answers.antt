use Rattle.std.proofs.Common.{◌≡◌, ℕ, ◌<◌, true, length, ap, ◌∙◌, mod-eq_of_lt}
use Rattle.std.proofs.ByRecursion.{All-from_get_or}
use Rattle.rings.specs.Blocks.{bytes_of}
use Rattle.rings.specs.Rows.{row}
use Rattle.rings.proofs.Rows.{bytes_of_number, row_array, row_block}
use Rattle.ciphers.proofs.mask.MaskBlockCipher.set_key.Goals as goal

pub returns : goal.returns
returns g c =
    let w = g.R.BlockRing.ring.width in
    let key = c.args.key.now in
    let same : length key ≡ w = c.if-key-width.false ∙ c.width.ensures in
    let good : row w key ≡ true = row_array w key same (λ i. (c.type_inv.key i).fits) in
    let under = All-from_get_or (λ (d : ℕ). d < 256) key 0 (λ i _. (c.type_inv.key i).fits) in
    let kept : bytes_of w (g.R.BlockRing.value c.from_bytes-self.result) ≡ key =
    ap (bytes_of w) (c.from_bytes-self.ensures ∙ mod-eq_of_lt (row_block w key good)) ∙ rw same at (bytes_of_number key under) in
    record { answer = simp good; key_is_held = simp good kept }
