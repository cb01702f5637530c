use Rattle.std.proofs.Common.{◌+◌, length, refl, ap, ◌∙◌, arith}
use Rattle.devices.specs.Faults.{passed_up}
use Rattle.devices.proofs.Answers.{allows}
use Rattle.devices.proofs.Passes.{answer_passed, read_passed}
use Rattle.layers.specs.Window.{window_of}
use Rattle.layers.proofs.Windows.{shows}
use Rattle.layers.proofs.window.WindowSectorDevice.read.Goals as goal

pub overflow_add-self : goal.overflow_add-self
overflow_add-self g c =
    let w = c.args.self.now in
    let m = g.D.SectorDevice.meaning w.device in
    let layer = window_of w.start w.wanted in
    let s = c.args.sector in
    let buffer = c.args.buffer.now in
    let ok = c.in_ok-admit.ensures in
    let below = (allows (length (layer m).sectors) m.size s (length buffer) ok).below in
    let sh = shows w.start w.wanted m s below in
    omega (arith, sh.below, (g.D.SectorDevice.sound w.device).countable)

pub returns : goal.returns
returns g c =
    let w = c.args.self.now in
    let m = g.D.SectorDevice.meaning w.device in
    let layer = window_of w.start w.wanted in
    let s = c.args.sector in
    let buffer = c.args.buffer.now in
    let ok = c.in_ok-admit.ensures in
    let below = (allows (length (layer m).sectors) m.size s (length buffer) ok).below in
    let sh = shows w.start w.wanted m s below in
    record {
      call_is_answered = c.pass_up.ensures ∙ ap passed_up c.read.ensures.call_is_answered ∙ answer_passed (layer m) m s (w.start + s) sh (length buffer) ok;
      device_stays = ap layer c.read.ensures.device_stays;
      buffer_is_filled = c.read.ensures.buffer_is_filled ∙ read_passed (layer m) m s (w.start + s) sh buffer ok;
      place_stays = (refl, refl);
      device_below_stays = c.read.ensures.device_stays;
    }
