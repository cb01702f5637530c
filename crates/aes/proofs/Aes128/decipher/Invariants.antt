use Rattle.std.proofs.Common.{◌≡◌, ◌≤◌, length, take, drop}
use Rattle.std.specs.Simd.{first_chunks}
use Rattle.aes.specs.Aes.{inv_rounds, inv_cipher, state_of}
use Rattle.aes.specs.Columns.{state}
use Rattle.aes.proofs.Aes128.decipher.Given as goal

abbrev pub invariant-loop-key : goal.invariant-loop-key
invariant-loop-key l =
    let rest = l.key-iterator.iter.rest.now in
    (length rest ≤ 9)
    × (rest ≡ take (length rest) (drop 1 (first_chunks 4 11 l.self.dw)))
    × (inv_rounds l.self.w (length rest) (state l.columns) ≡ inv_cipher l.self.w (state_of l.block))
