use Rattle.std.proofs.Common.{ℕ, ◌-◌, ◌<◌, length, get_or, ap, ◌∙◌, subst, ap₂, rules}
use Rattle.std.proofs.ByRecursion.{All-from_get_or}
use Rattle.rings.specs.Ring.{RingKind, size}
use Rattle.passes.specs.Sector.{rowwise}
use Rattle.heh_theory.specs.Heh.{on_blocks, wrapped}
use Rattle.heh_theory.proofs.Undoing.{size_parts}
use Rattle.heh.specs.Halves.{wrapped as wrap_halves}
use Rattle.heh.proofs.Buffers.{wrapped_whole}
use Rattle.heh.proofs.sectors.decipher.Goals as goal

pub returns : goal.returns
returns g c =
    let m = g.C.Ring.BlockRing in
    let r = m.ring in
    let k = g.C.BlockCipher.kind in
    let key = g.C.BlockCipher.held c.args.cipher.now in
    let f = k.decipher key in
    let below = g.met.C.Ring.BlockRing.below in
    let bs = c.args.sector.now in
    let bytes_low : (i : ℕ) → get_or bs i 0 < 256 = search rules in
    let under = All-from_get_or (λ (d : ℕ). d < 256) bs 0 (λ i _. bytes_low i) in
    let low : (x : ℕ) → x < size r → f x < size r =
    subst (λ (r : RingKind). (x : ℕ) → x < size r → f x < size r) g.met.C.BlockCipher.over (λ x l. k.decipher_block key x (g.C.BlockCipher.fitting c.args.cipher.now) l) in
    let made = c.tweak_key-key.result in
    let is = c.tweak_key-key.ensures in
    let e = length bs - c.width.result in
    let cut = c.split_at_mut-front.ensures in
    let turned = c.exchanged.ensures in
    let halves = c.wrap.ensures f (λ x y h. search rules)
    ∙ (λ t. wrap_halves r f (m.value (turned t).tau) (m.value (turned t).beta1) (m.value (turned t).beta2) (record { front = cut.front t; last = cut.back t })) in
    wrapped_whole r bs under (size_parts r (length bs) c.requires) e (ap (λ (v : ℕ). length bs - v) c.width.ensures)
    f low (m.value made.tau) (m.value made.beta2) (m.value made.beta1) (below made.beta2) (below made.beta1) c.wrap.new.front c.wrap.new.last halves
    ∙ ap (λ (τ : ℕ). rowwise r.width (on_blocks (wrapped r f τ (m.value made.beta2) (m.value made.beta1))) bs) is.tau
    ∙ ap₂ (λ (β β' : ℕ). rowwise r.width (on_blocks (wrapped r f (k.encipher key (m.value c.args.tweak)) β β')) bs) is.beta2 is.beta1
