use Rattle.std.proofs.Common.{◌≡◌, ◌%◌, ◌^◌, take}
use Rattle.num_traits.specs.Laws.{bit_len}
use Rattle.std.specs.Int.Digits.{number_from_digits}
use Rattle.rings.specs.Ring.{size}
use Rattle.rings.proofs.modular.AnyBlockRing.from_bytes.Given as goal

abbrev pub invariant-loop-b : goal.invariant-loop-b
invariant-loop-b g l = g.T.FixedWidth.bits_of l.block % 2 ^ bit_len g.T.FixedWidth.width ≡ number_from_digits 256 (take l.b-index l.bytes) % size g.T.Modulus.ring
