use Rattle.std.proofs.Common.{rules}
use Rattle.aes.specs.Aes.{rounds}
use Rattle.aes.proofs.Rounds.{forth}
use Rattle.aes.proofs.Aes128.encipher.Goals as goal

pub loop-key-preserved : goal.loop-key-preserved
unfolding rounds
loop-key-preserved c = search (rules, forth)
