use Rattle.std.proofs.Common.{refl}
use Rattle.fault_lists.proofs.Bounds.{bounded}
use Rattle.fault_lists.proofs.list.FaultList.new.Goals as goal

pub returns : goal.returns
returns g c = record {
  no_number_is_held = c.new.ensures;
  none_will_be_held_twice = bounded;
  device_is_below = refl;
}
