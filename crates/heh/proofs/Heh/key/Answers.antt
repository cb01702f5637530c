use Rattle.std.proofs.Common.{◌≡◌, ℕ, true, false, List, Option, sym, ap, ◌∙◌}
use Rattle.std.proofs.lemmas.Bool.{cond-true}
use Rattle.rings.specs.Ring.{RingKind}
use Rattle.ciphers.specs.Cipher.{fits}
use Rattle.modes.specs.Faults.{answered}
use Rattle.modes.specs.Mode.{keyed_after}
use Rattle.modes.specs.declared.ModeFault.{ModeFault}
use Rattle.heh_theory.specs.Heh.{size_fits}
use Rattle.heh_theory.specs.State.{keyed_with}
use Rattle.heh.specs.State.{state_of}
use Rattle.ciphers.proofs.Keys.{taken}
use Rattle.heh_theory.proofs.Refusals.{size_refused, not_refused, held}
use Rattle.heh.proofs.Heh.key.Goals as goal

pub returns-then-not-takes : goal.returns-then-not-takes
returns-then-not-takes g c =
    let k = g.C.BlockCipher.kind in
    let key = c.args.key.now in
    let ℓ = c.args.size in
    let good = taken (fits k key) c.in_ok-set_key.ensures.answer in
    let bad : size_fits k.ring ℓ ≡ false = ap (λ (r : RingKind). size_fits r ℓ) g.met.C.BlockCipher.over ∙ sym c.takes.ensures ∙ c.if-not-takes.true in
    let why = size_refused k key ℓ good bad in
    record {
      answer = sym (ap answered why);
      pair_is_held = sym (ap (λ (o : Option ModeFault). keyed_after o key ℓ (state_of k g.C.BlockCipher.held c.args.self.now)) why);
    }

pub returns : goal.returns
returns g c =
    let k = g.C.BlockCipher.kind in
    let key = c.args.key.now in
    let ℓ = c.args.size in
    let good = taken (fits k key) c.in_ok-set_key.ensures.answer in
    let fit : size_fits k.ring ℓ ≡ true = ap (λ (r : RingKind). size_fits r ℓ) g.met.C.BlockCipher.over ∙ sym c.takes.ensures ∙ c.if-not-takes.false in
    let free = not_refused k key ℓ good fit in
    let key_is = c.in_ok-set_key.ensures.key_is_held ∙ cond-true (fits k key) key _ good in
    record {
      answer = sym (ap answered free);
      pair_is_held =
          ap (λ (K : List ℕ). keyed_with k.ring K ℓ) key_is
          ∙ held k.ring key ℓ fit
          ∙ sym (ap (λ (o : Option ModeFault). keyed_after o key ℓ (state_of k g.C.BlockCipher.held c.args.self.now)) free);
    }
