use Rattle.std.proofs.Common.{length, refl}
use Rattle.rings.proofs.Rows.{row_array}
use Rattle.volumes.proofs.serve.holds_bytes.Goals as goal

pub returns : goal.returns
returns c = row_array (length c.args.buffer.now) c.args.buffer.now refl (λ i. (c.type_inv.buffer i).fits)
