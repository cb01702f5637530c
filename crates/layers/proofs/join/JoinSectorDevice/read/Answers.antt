use Rattle.std.proofs.Common.{◌≡◌, ◌-◌, ◌<◌, ◌≤◌, length, refl, ap, ◌∙◌, arith}
use Rattle.devices.specs.Faults.{passed_up}
use Rattle.devices.specs.Device.{DeviceMeaning, answer, after_read}
use Rattle.devices.proofs.Answers.{allows}
use Rattle.devices.proofs.Passes.{answer_passed, read_passed}
use Rattle.layers.specs.Join.{join_of}
use Rattle.layers.proofs.Joins.{shows_first, shows_second}
use Rattle.layers.proofs.join.JoinSectorDevice.read.Goals as goal

pub returns-in-None : goal.returns-in-None
returns-in-None g c =
    let a = g.D.SectorDevice.meaning c.args.self.now.first in
    let b = g.E.SectorDevice.meaning c.args.self.now.second in
    let s = c.args.sector in
    let buffer = c.args.buffer.now in
    let ok = c.in_ok-admit.ensures in
    let below = (allows (length (join_of a b).sectors) a.size s (length buffer) ok).below in
    let p : s < length a.sectors = omega (arith, c.count.ensures, c.in-None.ensures) in
    let sh = shows_first a b s below p in
    record {
      call_is_answered = c.pass_up.ensures ∙ ap passed_up c.read.ensures.call_is_answered ∙ answer_passed (join_of a b) a s s sh (length buffer) ok;
      device_stays = ap (λ (d : DeviceMeaning). join_of d b) c.read.ensures.device_stays;
      buffer_is_filled = c.read.ensures.buffer_is_filled ∙ read_passed (join_of a b) a s s sh buffer ok;
      devices_below_stay = (c.read.ensures.device_stays, refl);
    }

pub returns-in-Some : goal.returns-in-Some
returns-in-Some g c =
    let a = g.D.SectorDevice.meaning c.args.self.now.first in
    let b = g.E.SectorDevice.meaning c.args.self.now.second in
    let s = c.args.sector in
    let buffer = c.args.buffer.now in
    let ok = c.in_ok-admit.ensures in
    let below = (allows (length (join_of a b).sectors) a.size s (length buffer) ok).below in
    let j = s - length a.sectors in
    let p : length a.sectors ≤ s = omega (arith, c.count.ensures, c.in-Some.ensures) in
    let is : c.in-Some.past ≡ j = omega (arith, c.count.ensures, c.in-Some.ensures) in
    let sh = shows_second a b s below p in
    record {
      call_is_answered =
          c.pass_up-in-Some.ensures
          ∙ ap passed_up (c.read-in-Some.ensures.call_is_answered ∙ ap (λ k. answer b k (length buffer)) is)
          ∙ answer_passed (join_of a b) b s j sh (length buffer) ok;
      device_stays = ap (join_of a) c.read-in-Some.ensures.device_stays;
      buffer_is_filled =
          c.read-in-Some.ensures.buffer_is_filled ∙ ap (λ k. after_read b k buffer) is ∙ read_passed (join_of a b) b s j sh buffer ok;
      devices_below_stay = (refl, c.read-in-Some.ensures.device_stays);
    }
