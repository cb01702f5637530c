use Rattle.std.proofs.Common.{refl}
use lib.Count.{count_leading_zeros}
use Rattle.polynomials.specs.Inverse.{euclid, inverse}
use Rattle.polynomials.specs.Polynomial.{action_in, action, clmul, xtime, remainder, product}
use Rattle.rings.specs.Blocks.{bytes_of, first_blocks}
use Rattle.rings.specs.Rows.{all_bytes}
use Rattle.rings.specs.Sums.{power, hash_sum, sigma}
use Rattle.passes.specs.Passes.{placewise}
use Rattle.passes.specs.Sector.{bytes}
use Rattle.tet_theory.specs.Tet.{chained, last, on_last}
use Rattle.worked.proofs.worked_cases.Goals as goal

pub returns : goal.returns
unfolding action_in action clmul xtime remainder product euclid inverse count_leading_zeros bytes_of first_blocks all_bytes power hash_sum sigma placewise bytes chained last on_last
returns c =
    record {
      worked =
          record {
            byte_ring = record { product = refl; inverse = refl; zero = refl };
            reducible = record { unit = refl; divisor = refl };
            in_tet = record { byte = refl; keyless = refl; pair = refl; tailed = refl; untweaked = refl; tweaked = refl };
            in_heh = record { pair = refl };
            of_volume = record { after_write = refl; after_step = refl; below_the_mark = refl; at_the_mark = refl; after_sweep = refl; unwritten = refl; no_step_more = refl };
            in_jobs = record { byte = refl; back = refl; long = refl; keyless = refl };
          };
    }
