use Rattle.std.proofs.Common.{length, Err, refl, ap, ◌∙◌}
use Rattle.std.proofs.lemmas.Result.{err_from_is_err_and}
use Rattle.devices.specs.Faults.{passed_up}
use Rattle.devices.proofs.Answers.{read_refused}
use Rattle.devices.proofs.Passes.{answer_passed, read_passed}
use Rattle.fault_lists.specs.Held.{held_by}
use Rattle.fault_lists.specs.FaultList.{fault_list_of}
use Rattle.fault_lists.proofs.FaultLists.{refuses, shows}
use Rattle.fault_lists.proofs.list.FaultListSectorDevice.read.Goals as goal

pub returns-in_err-check-clause-call_is_answered : goal.returns-in_err-check-clause-call_is_answered
returns-in_err-check-clause-call_is_answered g c =
    let l = c.args.self.now in
    let m = g.D.SectorDevice.meaning l.device in
    let refusal = refuses (held_by l.table) m c.args.sector (length c.args.buffer.now) c.in_ok-admit.ensures c.in_err-check.field-0.0 c.in_err-check.ensures in
    let p = err_from_is_err_and c.from_residual-in_err-check.result c.from_residual-in_err-check.ensures.1 in
    p.1 ∙ ap Err p.2 ∙ refusal

pub returns-in_err-check-clause-buffer_is_filled : goal.returns-in_err-check-clause-buffer_is_filled
returns-in_err-check-clause-buffer_is_filled g c =
    let l = c.args.self.now in
    let m = g.D.SectorDevice.meaning l.device in
    let buffer = c.args.buffer.now in
    let f = c.in_err-check.field-0.0 in
    read_refused (fault_list_of (held_by l.table) m) c.args.sector buffer f (refuses (held_by l.table) m c.args.sector (length buffer) c.in_ok-admit.ensures f c.in_err-check.ensures)

pub returns : goal.returns
returns g c =
    let l = c.args.self.now in
    let m = g.D.SectorDevice.meaning l.device in
    let held = held_by l.table in
    let s = c.args.sector in
    let buffer = c.args.buffer.now in
    let ok = c.in_ok-admit.ensures in
    let sh = shows held m s (length buffer) ok c.in_ok-check.ensures in
    record {
      call_is_answered = c.pass_up.ensures ∙ ap passed_up c.read.ensures.call_is_answered ∙ answer_passed (fault_list_of held m) m s s sh (length buffer) ok;
      device_stays = ap (fault_list_of held) c.read.ensures.device_stays;
      buffer_is_filled = c.read.ensures.buffer_is_filled ∙ read_passed (fault_list_of held m) m s s sh buffer ok;
      numbers_stay = refl;
      device_below_stays = c.read.ensures.device_stays;
    }
