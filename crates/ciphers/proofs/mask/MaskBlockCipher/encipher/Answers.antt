use Rattle.std.proofs.Common.{sym, ap, ◌∙◌}
use lib.Bits.{bit_xor}
use Rattle.rings.proofs.Bytes.{pow_bytes}
use Rattle.rings.proofs.Rows.{number_bytes_of}
use Rattle.ciphers.proofs.mask.MaskBlockCipher.encipher.Goals as goal

pub returns : goal.returns
returns g c =
    let m = g.R.BlockRing in
    let w = m.ring.width in
    let k = c.args.self.now.key in
    let low = rw (← pow_bytes w) at (g.met.R.BlockRing.below k) in
    record { block_is_enciphered = c.add.ensures ∙ ap (bit_xor (m.value c.args.block.now)) (sym (number_bytes_of w (m.value k) low)) }
