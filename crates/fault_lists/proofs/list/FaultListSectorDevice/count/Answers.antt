use Rattle.std.proofs.Common.{sym, ◌∙◌}
use Rattle.fault_lists.specs.Held.{held_by}
use Rattle.fault_lists.proofs.FaultLists.{count_is}
use Rattle.fault_lists.proofs.list.FaultListSectorDevice.count.Goals as goal

pub returns : goal.returns
returns g c =
    let l = c.args.self.now in
    c.count.ensures ∙ sym (count_is (held_by l.table) (g.D.SectorDevice.meaning l.device))
