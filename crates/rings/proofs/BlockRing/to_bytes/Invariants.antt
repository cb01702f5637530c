use Rattle.std.proofs.Common.{◌≡◌, length, take}
use Rattle.rings.specs.Blocks.{bytes_of}
use Rattle.rings.proofs.BlockRing.to_bytes.Given as goal

abbrev pub invariant-loop-i : goal.invariant-loop-i
invariant-loop-i g l = take l.i l.bytes ≡ take l.i (bytes_of (length l.initial.bytes) (g.Self.BlockRing.value l.self))
