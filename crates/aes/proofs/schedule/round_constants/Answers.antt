use Rattle.std.proofs.Common.{◌+◌}
use Rattle.polynomials.specs.Polynomial.{action_in, action, clmul, xtime, remainder, product}
use Rattle.rings.specs.Sums.{power}
use Rattle.aes.specs.Aes.{word, rcon}
use Rattle.aes.proofs.Computed.{tabulates}
use Rattle.aes.proofs.schedule.round_constants.Goals as goal

pub returns : goal.returns
unfolding action_in action clmul xtime remainder product power word rcon
returns c = tabulates (λ k. rcon (k + 1)) tt
