-- How reasons and faults print.
use Rattle.std.specs.Prelude.{ℕ, List, ◌++◌, codes, decimal}
use Rattle.devices.specs.Numbers.{number_of}
use Rattle.devices.specs.declared.fault.Reason.{Reason}
use Rattle.devices.specs.declared.fault.Fault.{Fault}

-- a reason prints as its number
abbrev pub reason_text : Reason → List ℕ
reason_text reason = decimal (number_of reason)

-- a fault prints as `3, sector 5, depth 1`
abbrev pub fault_text : Fault → List ℕ
fault_text f = reason_text f.reason ++ codes ", sector " ++ decimal f.sector ++ codes ", depth " ++ decimal f.depth
