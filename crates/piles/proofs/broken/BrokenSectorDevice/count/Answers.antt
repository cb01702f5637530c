use Rattle.std.proofs.Common.{arith}
use Rattle.piles.proofs.Refuses.{count_is}
use Rattle.piles.proofs.broken.BrokenSectorDevice.count.Goals as goal

pub returns : goal.returns
returns c = omega (arith, count_is c.args.self.now.count c.args.self.now.fault)
