-- The widths of the machine's types.
use Rattle.std.specs.Prelude.{◌^◌, ◌<◌}
use Rattle.std.specs.Int.{Width, w8, w16, w32, w64, w128}
use Rattle.std.proofs.Common.{lit<}
use Rattle.num_traits.specs.Laws.{bit_len}

-- each has a bit
pub bits_some : (w : Width) → 0 < bit_len w
bits_some w8 = lit< tt
bits_some w16 = lit< tt
bits_some w32 = lit< tt
bits_some w64 = lit< tt
bits_some w128 = lit< tt

-- and as many as a `u32` counts
pub bits_few : (w : Width) → bit_len w < 2 ^ 32
bits_few w8 = lit< tt
bits_few w16 = lit< tt
bits_few w32 = lit< tt
bits_few w64 = lit< tt
bits_few w128 = lit< tt
