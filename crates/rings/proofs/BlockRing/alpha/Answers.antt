use Rattle.std.proofs.Common.{◌∙◌, mod-eq_of_lt}
use Rattle.rings.proofs.Total.{alpha_below}
use Rattle.rings.proofs.BlockRing.alpha.Goals as goal

pub returns : goal.returns
returns g c = c.from_number.ensures ∙ mod-eq_of_lt (alpha_below g.Self.BlockRing.ring)
