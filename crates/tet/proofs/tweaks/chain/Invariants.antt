use Rattle.std.proofs.Common.{◌≡◌}
use Rattle.rings.specs.Blocks.{blocks}
use Rattle.tet_theory.specs.Tet.{chained}
use Rattle.tet.proofs.Chains.{Left}
use Rattle.tet.proofs.tweaks.chain.Given as goal

abbrev pub invariant-loop-block : goal.invariant-loop-block
invariant-loop-block g l =
    let m = g.C.Ring.BlockRing in
    let w = m.ring.width in
    let k = g.C.BlockCipher in
    let E = k.kind.encipher (k.held l.cipher) in
    (l.block-iterator.size ≡ w)
    × Left m.ring E (m.value l.v) l.block-iterator.rest.now (chained m.ring E 0 (blocks w l.bytes))
