use Rattle.std.proofs.Common.{◌≡◌, ◌-◌}
use Rattle.xtea.specs.Xtea.{sum_after, rounds_back}
use Rattle.xtea.proofs.Undoing.{pair}
use Rattle.xtea.proofs.Xtea.decipher.Given as goal

abbrev pub invariant-loop : goal.invariant-loop
invariant-loop l =
    (l.s ≡ sum_after (32 - l.counter))
    × (rounds_back l.self.words (32 - l.counter) (pair l.v0 l.v1) ≡ rounds_back l.self.words 32 (pair l.initial.v0 l.initial.v1))
