use Rattle.std.proofs.Common.{ℕ, ◌-◌, ◌/◌, ◌%◌, ◌^◌, ◌<◌, ◌++◌, take, drop, sym, ap, ◌∙◌, ap₂, arith, length-take}
use lib.Bits.{bit_xor}
use Rattle.rings.proofs.Bytes.{bytes_of_at}
use Rattle.passes.specs.Passes.{mixed_at}
use Rattle.passes.proofs.Ends.{mixed_past}
use Rattle.passes.proofs.Loops.{place_read, place_step, place_done, placed_ahead}
use Rattle.passes.proofs.tails.mix.Goals as goal

pub loop-j-preserved : goal.loop-j-preserved
loop-j-preserved g c =
    let m = g.R.BlockRing in
    let w = m.ring.width in
    let u = m.value c.args.block in
    let f = mixed_at m.ring u in
    let n = c.min-reached.result in
    let orig = take n c.args.tail.now in
    let j = c.loop-j.j in
    let in_block : j < w = omega (arith, c.loop-j-test.true, length-take n c.args.tail.now, c.min-reached.ensures, c.width-w.ensures) in
    let byte = c.byte.ensures ∙ ap (λ (n : ℕ). u / 256 ^ (n - 1 - j) % 256) c.width-w.ensures ∙ sym (bytes_of_at w u j in_block) in
    let read = place_read f orig c.loop-j.byte-items j c.loop-j-test.true c.loop-j.invariant in
    place_step f orig c.loop-j.byte-items j _ c.loop-j-test.true c.loop-j.invariant (ap₂ bit_xor read byte)

pub returns : goal.returns
returns g c =
    let m = g.R.BlockRing in
    let u = m.value c.args.block in
    let f = mixed_at m.ring u in
    let n = c.min-reached.result in
    let orig = c.args.tail.now in
    let done = place_done f (take n orig) c.loop-j.byte-items c.loop-j.j (omega (arith, c.loop-j-test.false)) c.loop-j.invariant in
    record { tail_is_mixed = ap (λ l. l ++ drop n orig) done ∙ placed_ahead f n orig (λ k x h l. mixed_past m.ring u k x (omega (arith, h, l, c.min-reached.ensures, c.width-w.ensures))) }
