use Rattle.std.proofs.Common.{◌≡◌, true, sym, ap, ◌∙◌}
use Rattle.rings.specs.Ring.{RingKind}
use Rattle.modes.specs.Faults.{answered}
use Rattle.heh_theory.specs.Heh.{size_fits}
use Rattle.heh_theory.proofs.Refusals.{blank, wrong_length, free}
use Rattle.heh.proofs.Heh.admit.Goals as goal
use Rattle.heh.proofs.Heh.admit.Goals.{then-not-takes-via-then-not-takes, then-not-takes-via-else-not-takes+then-buffer-self}

pub returns-then-not-takes : goal.returns-then-not-takes
returns-then-not-takes g c =
    let k = g.C.BlockCipher.kind in
    let self = c.args.self.now in
    let key = g.C.BlockCipher.held self.cipher in
    let bs = c.args.buffer.now in
    let is : size_fits k.ring self.size ≡ c.takes.result = ap (λ (r : RingKind). size_fits r self.size) g.met.C.BlockCipher.over ∙ sym c.takes.ensures in
    elim c.then-not-takes.branch [
      | then-not-takes-via-then-not-takes w ↦ record { answer = sym (ap answered (blank k.ring key self.size bs (is ∙ w.if-not-takes.true))) }
      | then-not-takes-via-else-not-takes+then-buffer-self w ↦
          record { answer = sym (ap answered (wrong_length k.ring key self.size bs (is ∙ w.if-not-takes.false) w.if-buffer-self.true)) }
    ]

pub returns : goal.returns
returns g c =
    let k = g.C.BlockCipher.kind in
    let self = c.args.self.now in
    let key = g.C.BlockCipher.held self.cipher in
    let bs = c.args.buffer.now in
    let fit : size_fits k.ring self.size ≡ true = ap (λ (r : RingKind). size_fits r self.size) g.met.C.BlockCipher.over ∙ sym c.takes.ensures ∙ c.if-not-takes.false in
    record { answer = sym (ap answered (free k.ring key self.size bs fit c.if-buffer-self.false)) }
