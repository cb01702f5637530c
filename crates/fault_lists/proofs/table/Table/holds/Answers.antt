use Rattle.std.proofs.Common.{ap, ◌∙◌}
use Rattle.fault_lists.specs.Held.{is_held}
use Rattle.fault_lists.proofs.Holds.{contained}
use Rattle.fault_lists.proofs.table.Table.holds.Goals as goal

pub returns : goal.returns
returns c =
    contained _ c.args.number c.contains.result c.contains.ensures.cases
    ∙ ap (λ xs. is_held xs c.args.number) c.deref.ensures.0
