use Rattle.std.proofs.Common.{◌∙◌, mod-eq_of_lt}
use Rattle.rings.proofs.Total.{one_below}
use Rattle.rings.proofs.BlockRing.one.Goals as goal

pub returns : goal.returns
returns g c = c.from_number.ensures ∙ mod-eq_of_lt (one_below g.Self.BlockRing.ring)
