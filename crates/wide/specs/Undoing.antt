-- What is shown of the two modes together.
use Rattle.heh_theory.specs.Laws as heh
use Rattle.tet_theory.specs.Laws as tet

-- for every block ring and cipher, every key, size, tweak and sector: each direction undoes the other and keeps the length
pub record Undoing : Type 0 where
  pub of_tet : tet.Undoing
  pub of_heh : heh.Undoing
