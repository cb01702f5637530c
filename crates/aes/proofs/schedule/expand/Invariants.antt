use Rattle.std.proofs.Common.{◌≡◌, ◌-◌, length, take}
use Rattle.aes.specs.Aes.{expansion}
use Rattle.aes.proofs.schedule.expand.Given as goal

abbrev pub invariant-loop-i : goal.invariant-loop-i
invariant-loop-i l = (length l.w ≡ 44) × (take l.i l.w ≡ expansion l.key (l.i - 4))
