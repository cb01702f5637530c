use Rattle.std.proofs.Common.{length, Err, refl, ap, ◌∙◌}
use Rattle.std.proofs.lemmas.Result.{err_from_is_err_and}
use Rattle.devices.specs.Faults.{Answer, passed_up}
use Rattle.devices.specs.Device.{written_if}
use Rattle.devices.proofs.Answers.{write_refused}
use Rattle.devices.proofs.Passes.{answer_passed, write_passed, below_written}
use Rattle.fault_lists.specs.Held.{held_by}
use Rattle.fault_lists.specs.FaultList.{fault_list_of}
use Rattle.fault_lists.proofs.FaultLists.{refuses, shows, writes}
use Rattle.fault_lists.proofs.list.FaultListSectorDevice.write.Goals as goal

pub returns-in_err-check : goal.returns-in_err-check
returns-in_err-check g c =
    let l = c.args.self.now in
    let m = g.D.SectorDevice.meaning l.device in
    let held = held_by l.table in
    let s = c.args.sector in
    let buffer = c.args.buffer.now in
    let ok = c.in_ok-admit.ensures in
    let f = c.in_err-check.field-0.0 in
    let refusal = refuses held m s (length buffer) ok f c.in_err-check.ensures in
    let p = err_from_is_err_and c.from_residual-in_err-check.result c.from_residual-in_err-check.ensures.1 in
    record {
      call_is_answered = p.1 ∙ ap Err p.2 ∙ refusal;
      sector_is_written = write_refused (fault_list_of held m) s buffer f refusal;
      numbers_stay = refl;
      device_below_is_written = ap (λ (a : Answer). written_if a m s buffer) refusal;
    }

pub returns : goal.returns
returns g c =
    let l = c.args.self.now in
    let m = g.D.SectorDevice.meaning l.device in
    let held = held_by l.table in
    let s = c.args.sector in
    let buffer = c.args.buffer.now in
    let ok = c.in_ok-admit.ensures in
    let free = c.in_ok-check.ensures in
    let sh = shows held m s (length buffer) ok free in
    record {
      call_is_answered = c.pass_up.ensures ∙ ap passed_up c.write.ensures.call_is_answered ∙ answer_passed (fault_list_of held m) m s s sh (length buffer) ok;
      sector_is_written =
          ap (fault_list_of held) c.write.ensures.sector_is_written
          ∙ write_passed (fault_list_of held) m s s sh buffer ok (writes held m s (length buffer) ok free buffer);
      numbers_stay = refl;
      device_below_is_written = c.write.ensures.sector_is_written ∙ below_written (fault_list_of held m) m s s sh buffer ok;
    }
