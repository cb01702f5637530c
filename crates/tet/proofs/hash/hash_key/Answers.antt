use Rattle.std.proofs.Common.{◌≤◌, arith}
use Rattle.tet.proofs.Hashes.{hash_made}
use Rattle.tet.proofs.hash.hash_key.Goals as goal

pub returns-in-Some : goal.returns-in-Some
returns-in-Some g c =
    let m = g.C.Ring.BlockRing in
    let k = g.C.BlockCipher in
    let n = c.args.size in
    let v_is = c.width-w.ensures in
    let low : m.ring.width ≤ n = omega (arith, c.if-size-w.false, v_is) in
    let high : n ≤ m.ring.longest = omega (arith, c.if-longest-size.false, c.longest.ensures) in
    record {
      hash_key =
          hash_made m.ring (k.kind.encipher (k.held c.args.cipher.now)) n c.width-w.result (m.value c.zero-block.result) (m.value c.encipher.new.block)
          (m.value c.times_alpha-tau.result) (m.value c.encipher-2.new.block) (m.value c.power_sum-sigma.result) _
          low high (g.met.C.Ring.BlockRing.below c.encipher.new.block) v_is c.zero-block.ensures c.encipher.ensures.block_is_enciphered
          c.times_alpha-tau.ensures c.encipher-2.ensures.block_is_enciphered c.power_sum-sigma.ensures c.in-Some.ensures;
    }

pub returns-in-None : goal.returns-in-None
returns-in-None g c =
    let m = g.C.Ring.BlockRing in
    let k = g.C.BlockCipher in
    let n = c.args.size in
    let v_is = c.width-w.ensures in
    let low : m.ring.width ≤ n = omega (arith, c.if-size-w.false, v_is) in
    let high : n ≤ m.ring.longest = omega (arith, c.if-longest-size.false, c.longest.ensures) in
    record {
      hash_key =
          hash_made m.ring (k.kind.encipher (k.held c.args.cipher.now)) n c.width-w.result (m.value c.zero-block.result) (m.value c.encipher.new.block)
          (m.value c.times_alpha-tau.result) (m.value c.encipher-2.new.block) (m.value c.power_sum-sigma.result) _
          low high (g.met.C.Ring.BlockRing.below c.encipher.new.block) v_is c.zero-block.ensures c.encipher.ensures.block_is_enciphered
          c.times_alpha-tau.ensures c.encipher-2.ensures.block_is_enciphered c.power_sum-sigma.ensures c.in-None.ensures;
    }
