use Rattle.std.proofs.Common.{arith, rules}
use Rattle.rings.proofs.Reading.{sixteen}
use Rattle.rings.proofs.modular.U128Modulus.of_bytes.Goals as goal

pub returns : goal.returns
returns c = omega (arith, sixteen c.last.result (search rules))
