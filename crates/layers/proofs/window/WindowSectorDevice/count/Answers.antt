use Rattle.std.proofs.Common.{arith}
use Rattle.layers.proofs.Windows.{count_is}
use Rattle.layers.proofs.window.WindowSectorDevice.count.Goals as goal

pub returns : goal.returns
returns g c =
    let w = c.args.self.now in
    omega (arith, count_is w.start w.wanted (g.D.SectorDevice.meaning w.device), c.min.ensures, c.saturating_sub.ensures, c.count.ensures)
