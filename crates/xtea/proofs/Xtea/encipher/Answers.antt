use Rattle.std.proofs.Common.{rules, arith}
use Rattle.std.proofs.lemmas.Grind.{common_steps}
use Rattle.xtea.specs.Xtea.{plus, sum_after, rounds, words_of, block_of, encipher}
use Rattle.xtea.proofs.Rounds.{sum_next, turn}
use Rattle.xtea.proofs.Undoing.{pair}
use Rattle.xtea.proofs.Xtea.encipher.Goals as goal

pub loop-init : goal.loop-init
unfolding sum_after rounds
loop-init c = search rules

pub loop-preserved : goal.loop-preserved
unfolding plus
loop-preserved c = grind (arith, sum_next, turn)

pub returns : goal.returns
unfolding encipher block_of words_of pair
returns c = grind (arith, common_steps)
