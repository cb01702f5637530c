use Rattle.std.proofs.Common.{◌≡◌, ◌++◌, Some, sym, ap, ◌∙◌, ap₂}
use Rattle.modes.specs.Mode.{ciphered}
use Rattle.passes.specs.Sector.{rowwise}
use Rattle.tet_theory.specs.State.{keyed_with}
use Rattle.tet_theory.specs.Tet.{enciphered, beta, encipher}
use Rattle.tet_theory.proofs.States.{encipher_is}
use Rattle.tet.specs.Keys.{key_of}
use Rattle.tet.specs.State.{tet_state}
use Rattle.tet.proofs.Tet.encipher_with_tweak.Goals as goal

pub returns-clause-buffer_is_enciphered : goal.returns-clause-buffer_is_enciphered
returns-clause-buffer_is_enciphered g c =
    let m = g.C.Ring.BlockRing in
    let k = g.C.BlockCipher.kind in
    let tet = c.args.self.now in
    let K1 = g.C.BlockCipher.held tet.first in
    let K2 = g.C.BlockCipher.held tet.second in
    let n = tet.size in
    let h = key_of m.value c.in_ok-hash.hash in
    let tweak = c.args.tweak.now in
    let bs = c.args.buffer.now in
    let state : tet_state k g.C.BlockCipher.held tet ≡ Some (record { key = K1 ++ K2; size = n }) = ap (λ o. keyed_with o (K1 ++ K2) n) c.in_ok-hash.ensures.hash in
    c.encipher_sector.ensures
    ∙ ap (λ β. rowwise m.ring.width (enciphered m.ring (k.encipher K2) h β) bs) c.tweak_block-beta.ensures
    ∙ ap (λ r. rowwise r.width (enciphered r (k.encipher K2) h (beta r (k.encipher K1) n tweak)) bs) (sym g.met.C.BlockCipher.over)
    ∙ encipher_is k K1 K2 (g.C.BlockCipher.fitting tet.first) (g.C.BlockCipher.fitting tet.second) n h c.in_ok-hash.ensures.hash tweak bs
    ∙ sym (ap₂ (λ s o. ciphered (λ key size. encipher k key size tweak) s o bs) state (sym c.in_ok-hash.ensures.fault))
