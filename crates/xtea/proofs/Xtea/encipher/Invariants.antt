use Rattle.std.proofs.Common.{◌≡◌}
use Rattle.xtea.specs.Xtea.{sum_after, rounds}
use Rattle.xtea.proofs.Undoing.{pair}
use Rattle.xtea.proofs.Xtea.encipher.Given as goal

abbrev pub invariant-loop : goal.invariant-loop
invariant-loop l = (l.s ≡ sum_after l.counter) × (pair l.v0 l.v1 ≡ rounds l.self.words l.counter (pair l.initial.v0 l.initial.v1))
