use Rattle.std.proofs.Common.{arith, rules}
use Rattle.rings.proofs.Reading.{one}
use Rattle.rings.proofs.modular.U8Modulus.of_bytes.Goals as goal

pub returns : goal.returns
returns c = omega (arith, one c.last.result (search rules))
