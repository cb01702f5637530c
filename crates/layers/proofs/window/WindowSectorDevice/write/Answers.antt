use Rattle.std.proofs.Common.{◌+◌, length, refl, ap, ◌∙◌, arith}
use Rattle.devices.specs.Faults.{passed_up}
use Rattle.devices.proofs.Answers.{allows}
use Rattle.devices.proofs.Passes.{answer_passed, write_passed, below_written}
use Rattle.layers.specs.Window.{window_of}
use Rattle.layers.proofs.Windows.{shows, writes}
use Rattle.layers.proofs.window.WindowSectorDevice.write.Goals as goal

pub overflow_add-self : goal.overflow_add-self
overflow_add-self g c =
    let w = c.args.self.now in
    let m = g.D.SectorDevice.meaning w.device in
    let layer = window_of w.start w.wanted in
    let s = c.args.sector in
    let buffer = c.args.buffer.now in
    let ok = c.in_ok-admit.ensures in
    let below = (allows (length (layer m).sectors) m.size s (length buffer) ok).below in
    let sh = shows w.start w.wanted m s below in
    omega (arith, sh.below, (g.D.SectorDevice.sound w.device).countable)

pub returns : goal.returns
returns g c =
    let w = c.args.self.now in
    let m = g.D.SectorDevice.meaning w.device in
    let layer = window_of w.start w.wanted in
    let s = c.args.sector in
    let buffer = c.args.buffer.now in
    let ok = c.in_ok-admit.ensures in
    let below = (allows (length (layer m).sectors) m.size s (length buffer) ok).below in
    let sh = shows w.start w.wanted m s below in
    record {
      call_is_answered = c.pass_up.ensures ∙ ap passed_up c.write.ensures.call_is_answered ∙ answer_passed (layer m) m s (w.start + s) sh (length buffer) ok;
      sector_is_written = ap layer c.write.ensures.sector_is_written ∙ write_passed layer m s (w.start + s) sh buffer ok (writes w.start w.wanted m s below buffer);
      place_stays = (refl, refl);
      device_below_is_written = c.write.ensures.sector_is_written ∙ below_written (layer m) m s (w.start + s) sh buffer ok;
    }
