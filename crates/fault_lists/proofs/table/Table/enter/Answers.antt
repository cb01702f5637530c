use Rattle.std.proofs.Common.{sym}
use Rattle.fault_lists.proofs.Holds.{once_pushed}
use Rattle.fault_lists.proofs.table.Table.enter.Goals as goal

pub invariant_of-self : goal.invariant_of-self
invariant_of-self c = record {
  once = once_pushed c.try_push.result c.args.self.now.numbers c.try_push.new.self c.args.number c.args.self.now.once (sym c.if-holds.ensures) c.try_push.ensures.ok c.try_push.ensures.err;
}
