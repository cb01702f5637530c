use Rattle.std.proofs.Common.{arith, rules}
use Rattle.rings.proofs.Reading.{eight}
use Rattle.rings.proofs.modular.U64Modulus.of_bytes.Goals as goal

pub returns : goal.returns
returns c = omega (arith, eight c.last.result (search rules))
