use Rattle.std.proofs.Common.{rules, arith}
use Rattle.std.proofs.lemmas.Grind.{common_steps}
use Rattle.xtea.specs.Xtea.{plus, minus, sum_after, rounds_back, words_of, block_of, decipher}
use Rattle.xtea.proofs.Rounds.{sum_back, inv_turn}
use Rattle.xtea.proofs.Undoing.{pair}
use Rattle.xtea.proofs.Xtea.decipher.Goals as goal

pub loop-init : goal.loop-init
unfolding plus sum_after
loop-init c = search rules

pub loop-preserved : goal.loop-preserved
unfolding minus
loop-preserved c = grind (arith, sum_back, inv_turn)

pub returns : goal.returns
unfolding decipher block_of words_of rounds_back pair
returns c = grind (arith, common_steps)
