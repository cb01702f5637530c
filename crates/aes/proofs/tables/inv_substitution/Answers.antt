use lib.Count.{count_leading_zeros}
use Rattle.polynomials.specs.Inverse.{euclid, inverse}
use Rattle.polynomials.specs.Polynomial.{action_in, action, clmul, xtime, remainder, product}
use Rattle.aes.specs.Aes.{inverted, bit, bits, inv_affine, inv_sbox}
use Rattle.aes.proofs.Computed.{tabulates}
use Rattle.aes.proofs.tables.inv_substitution.Goals as goal

pub returns : goal.returns
unfolding count_leading_zeros action_in action clmul xtime remainder product euclid inverse inverted bit bits inv_affine inv_sbox
returns c = tabulates inv_sbox tt
