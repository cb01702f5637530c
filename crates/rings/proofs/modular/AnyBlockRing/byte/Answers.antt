use Rattle.std.proofs.Common.{ℕ, ◌%◌, ◌^◌, ◌<◌, sym, subst, mod-lt, pow_pos, arith}
use lib.Bits.{xor_zero_r}
use Rattle.num_traits.specs.Laws.{bit_len}
use Rattle.rings.proofs.Bytes.{pow_bytes, byte_past, cast_byte}
use Rattle.rings.proofs.modular.AnyBlockRing.byte.Goals as goal

-- `xor_zero_r` reads an index that is written as a sum of bits, such as a must-fail edit plants
pub returns-then-index-width : goal.returns-then-index-width
returns-then-index-width g c =
    let word = g.T.FixedWidth in
    let r = g.T.Modulus.ring in
    let exact = g.met.T.Integral.exact_law in
    let low = c.lowered.result in
    let cast =
    cast_byte r.width (bit_len word.width) (word.bits_of low) c.as_.result (g.T.Number.value low) r.some g.met.T.Modulus.width_is
    (g.met.T.Unsigned.unsigned_law low) (g.met.T.FixedWidth.bits_of_natural_law low) (c.as_.ensures.value exact tt) in
    let place = pow_bytes c.args.index in
    grind (arith, xor_zero_r)

pub returns-else-index-width : goal.returns-else-index-width
returns-else-index-width g c =
    let word = g.T.FixedWidth in
    let w = g.T.Modulus.ring.width in
    let n = bit_len word.width in
    let a = word.bits_of c.args.self % 2 ^ n in
    let fits = subst (λ (k : ℕ). a < 2 ^ k) (sym g.met.T.Modulus.width_is) (mod-lt (word.bits_of c.args.self) (pow_pos n)) in
    omega (arith, byte_past w a c.args.index fits (omega arith))
