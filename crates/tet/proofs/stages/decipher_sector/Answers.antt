use Rattle.std.proofs.Common.{ℕ, ◌<◌, get_or, subst, ap, ◌∙◌, rules}
use Rattle.std.proofs.ByRecursion.{All-from_get_or}
use Rattle.rings.specs.Ring.{size}
use Rattle.passes.specs.Passes.{placewise, mapped}
use Rattle.passes.specs.Sector.{rowwise}
use Rattle.tet.specs.Keys.{key_of}
use Rattle.tet.proofs.Steps.{passed}
use Rattle.tet_theory.specs.Tet.{unblended}
use Rattle.tet_theory.proofs.Blends.{unblended_sound}
use Rattle.tet.proofs.stages.decipher_sector.Goals as goal

pub returns : goal.returns
unfolding placewise
returns g c =
    let m = g.C.Ring.BlockRing in
    let r = m.ring in
    let k = g.C.BlockCipher in
    let key = k.held c.args.cipher.now in
    let f = k.kind.decipher key in
    let bs = c.args.sector.now in
    let bytes : (i : ℕ) → get_or bs i 0 < 256 = search rules in
    let under = All-from_get_or (λ (d : ℕ). d < 256) bs 0 (λ i _. bytes i) in
    let low : (x : ℕ) → x < size r → f x < size r =
    subst (λ r. (x : ℕ) → x < size r → f x < size r) g.met.C.BlockCipher.over (λ x l. k.kind.decipher_block key x (g.C.BlockCipher.fitting c.args.cipher.now) l) in
    let h = key_of m.value c.args.hash in
    passed r f low (m.value c.args.beta) (unblended r h) (λ m t short. unblended_sound r m t short h)
    bs c.unblend.new.sector c.whiten.new.sector c.decipher_each.new.sector c.crypt_tail.new.sector c.whiten-2.new.sector c.unblend-2.new.sector
    under c.unblend.ensures c.whiten.ensures.sector_is_whitened (c.decipher_each.ensures.blocks_are_deciphered ∙ ap (rowwise r.width (mapped f)) (search rules)) (c.crypt_tail.ensures f (λ x y h. search rules)) c.whiten-2.ensures.sector_is_whitened c.unblend-2.ensures
