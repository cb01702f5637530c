use Rattle.std.proofs.Common.{◌≡◌, ◌%◌, take}
use Rattle.std.specs.Int.Digits.{number_from_digits}
use Rattle.rings.specs.Ring.{size}
use Rattle.rings.proofs.BlockRing.from_bytes.Given as goal

abbrev pub invariant-loop-b : goal.invariant-loop-b
invariant-loop-b g l = g.Self.BlockRing.value l.block ≡ number_from_digits 256 (take l.b-index l.bytes) % size g.Self.BlockRing.ring
