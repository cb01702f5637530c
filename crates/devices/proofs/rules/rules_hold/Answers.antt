use Rattle.devices.proofs.RulesHold.{rules}
use Rattle.devices.proofs.rules.rules_hold.Goals as goal

pub returns : goal.returns
returns c = rules
