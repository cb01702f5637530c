use Rattle.std.proofs.Common.{◌≡◌, ◌-◌, ◌<◌, ◌≤◌, length, refl, ap, ◌∙◌, arith}
use Rattle.std.proofs.lemmas.Bool.{cond_below, cond_above}
use Rattle.devices.specs.Faults.{passed_up}
use Rattle.devices.specs.Device.{DeviceMeaning, answer, written_if, after_write}
use Rattle.devices.proofs.Answers.{allows}
use Rattle.devices.proofs.Passes.{answer_passed, write_passed, below_written}
use Rattle.layers.specs.Join.{join_of}
use Rattle.layers.proofs.Joins.{shows_first, shows_second, writes_first, writes_second}
use Rattle.layers.proofs.join.JoinSectorDevice.write.Goals as goal

pub returns-in-None : goal.returns-in-None
returns-in-None g c =
    let a = g.D.SectorDevice.meaning c.args.self.now.first in
    let b = g.E.SectorDevice.meaning c.args.self.now.second in
    let s = c.args.sector in
    let buffer = c.args.buffer.now in
    let ok = c.in_ok-admit.ensures in
    let below = (allows (length (join_of a b).sectors) a.size s (length buffer) ok).below in
    let p : s < length a.sectors = omega (arith, c.count.ensures, c.in-None.ensures) in
    let sh = shows_first a b s below p in
    record {
      call_is_answered = c.pass_up.ensures ∙ ap passed_up c.write.ensures.call_is_answered ∙ answer_passed (join_of a b) a s s sh (length buffer) ok;
      sector_is_written =
          ap (λ (d : DeviceMeaning). join_of d b) c.write.ensures.sector_is_written
          ∙ write_passed (λ (d : DeviceMeaning). join_of d b) a s s sh buffer ok (writes_first a b s below p buffer);
      first_is_written =
          c.write.ensures.sector_is_written
          ∙ below_written (join_of a b) a s s sh buffer ok
          ∙ cond_below s (length a.sectors) (written_if (answer (join_of a b) s (length buffer)) a s buffer) a p;
      second_is_written = cond_below s (length a.sectors) b _ p;
    }

pub returns-in-Some : goal.returns-in-Some
returns-in-Some g c =
    let a = g.D.SectorDevice.meaning c.args.self.now.first in
    let b = g.E.SectorDevice.meaning c.args.self.now.second in
    let s = c.args.sector in
    let buffer = c.args.buffer.now in
    let ok = c.in_ok-admit.ensures in
    let below = (allows (length (join_of a b).sectors) a.size s (length buffer) ok).below in
    let j = s - length a.sectors in
    let p : length a.sectors ≤ s = omega (arith, c.count.ensures, c.in-Some.ensures) in
    let is : c.in-Some.past ≡ j = omega (arith, c.count.ensures, c.in-Some.ensures) in
    let sh = shows_second a b s below p in
    record {
      call_is_answered =
          c.pass_up-in-Some.ensures
          ∙ ap passed_up (c.write-in-Some.ensures.call_is_answered ∙ ap (λ k. answer b k (length buffer)) is)
          ∙ answer_passed (join_of a b) b s j sh (length buffer) ok;
      sector_is_written =
          ap (join_of a) (c.write-in-Some.ensures.sector_is_written ∙ ap (λ k. after_write b k buffer) is)
          ∙ write_passed (join_of a) b s j sh buffer ok (writes_second a b s below p buffer);
      first_is_written = cond_above s (length a.sectors) _ a a p refl;
      second_is_written =
          cond_above s (length a.sectors) b _ _ p
          (c.write-in-Some.ensures.sector_is_written ∙ ap (λ k. after_write b k buffer) is ∙ below_written (join_of a b) b s j sh buffer ok);
    }
