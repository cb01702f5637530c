use Rattle.std.proofs.Common.{◌≡◌, Err, sym, ap, ◌∙◌, rules}
use Rattle.rings.specs.Ring.{RingKind}
use Rattle.modes.specs.Faults.{answered}
use Rattle.modes.specs.Mode.{obstacle}
use Rattle.heh_theory.specs.State.{keyed_with}
use Rattle.heh_theory.proofs.Refusals.{accepted, stopped, tweak_behind, tweak_refused, tweak_taken}
use Rattle.heh.proofs.Heh.admit_with_tweak.Goals as goal

pub returns-in_err-admit : goal.returns-in_err-admit
returns-in_err-admit g c =
    let k = g.C.BlockCipher.kind in
    let self = c.args.self.now in
    let key = g.C.BlockCipher.held self.cipher in
    let o = obstacle (keyed_with k.ring key self.size) c.args.buffer.now in
    let fault = c.in_err-admit.field-0.0 in
    let said : c.from_residual.result ≡ Err fault = search rules in
    record { answer = said ∙ sym (ap answered (tweak_behind k.ring c.args.tweak.now o fault (stopped o fault c.in_err-admit.ensures.answer))) }

pub returns-then-tweak-width : goal.returns-then-tweak-width
returns-then-tweak-width g c =
    let k = g.C.BlockCipher.kind in
    let self = c.args.self.now in
    let key = g.C.BlockCipher.held self.cipher in
    let o = obstacle (keyed_with k.ring key self.size) c.args.buffer.now in
    let w_is : k.ring.width ≡ c.width.result = ap (λ (r : RingKind). r.width) g.met.C.BlockCipher.over ∙ sym c.width.ensures in
    let none = accepted o c.in_ok-admit.ensures.answer in
    record { answer = sym (ap answered (tweak_refused k.ring c.args.tweak.now o none (λ e. c.if-tweak-width.true (e ∙ w_is)))) }

pub returns : goal.returns
returns g c =
    let k = g.C.BlockCipher.kind in
    let self = c.args.self.now in
    let key = g.C.BlockCipher.held self.cipher in
    let o = obstacle (keyed_with k.ring key self.size) c.args.buffer.now in
    let w_is : k.ring.width ≡ c.width.result = ap (λ (r : RingKind). r.width) g.met.C.BlockCipher.over ∙ sym c.width.ensures in
    let none = accepted o c.in_ok-admit.ensures.answer in
    record { answer = sym (ap answered (tweak_taken k.ring c.args.tweak.now o none (c.if-tweak-width.false ∙ sym w_is))) }
