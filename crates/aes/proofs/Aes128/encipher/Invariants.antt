use Rattle.std.proofs.Common.{◌≡◌}
use Rattle.aes.specs.Aes.{rounds, state_of}
use Rattle.aes.specs.Columns.{state}
use Rattle.aes.proofs.Aes128.encipher.Given as goal

abbrev pub invariant-loop-key : goal.invariant-loop-key
invariant-loop-key l = state l.columns ≡ rounds l.self.w l.key-index (state_of l.block)
