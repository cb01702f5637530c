use lib.Count.{count_leading_zeros}
use Rattle.polynomials.specs.Inverse.{euclid, inverse}
use Rattle.polynomials.specs.Polynomial.{action_in, action, clmul, xtime, remainder, product}
use Rattle.aes.specs.Aes.{word, byte, inverted, bit, bits, inv_affine, inv_sbox, row, matrix, inv_mix_column}
use Rattle.aes.specs.Columns.{inv_round_word}
use Rattle.aes.proofs.Computed.{tabulates}
use Rattle.aes.proofs.tables.inv_round.Goals as goal

pub returns : goal.returns
unfolding count_leading_zeros action_in action clmul xtime remainder product euclid inverse word byte inverted bit bits inv_affine inv_sbox row matrix inv_mix_column
returns c = tabulates inv_round_word tt
