use Rattle.runs.proofs.Upheld.{volume_law}
use Rattle.runs.proofs.law.every_volume_upholds_the_law.Goals as goal

pub returns : goal.returns
returns g c = record { law = volume_law g.M.WideMode.kind }
