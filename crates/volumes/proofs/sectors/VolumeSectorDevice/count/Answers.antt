use Rattle.std.proofs.Common.{sym, ◌∙◌}
use Rattle.volumes.specs.Volume.{view}
use Rattle.volumes.proofs.Shown.{count_is}
use Rattle.volumes.proofs.sectors.VolumeSectorDevice.count.Goals as goal

pub returns : goal.returns
returns g c = c.count.ensures ∙ sym (count_is g.M.WideMode.kind (view g.D.SectorDevice.meaning g.M.WideMode.state c.args.self.now) 0)
