use Rattle.std.proofs.Common.{◌≡◌, suc, ◌+◌, ◌-◌, Err, sym, ap, ◌∙◌, arith, rules}
use Rattle.volumes.specs.Volume.{view}
use Rattle.replies.specs.Steps.{steps_answer, after_steps}
use Rattle.replies.proofs.Stepping.{none, more, refused}
use Rattle.replies.proofs.calls.steps.Goals as goal

pub returns-in_err-step : goal.returns-in_err-step
returns-in_err-step g c =
    let k = g.M.WideMode.kind in
    let v = view g.D.SectorDevice.meaning g.M.WideMode.state c.loop.volume in
    let n = c.args.count - (c.loop.counter + 1) in
    let one : c.args.count - c.loop.counter ≡ suc n = omega arith in
    let now = refused k v n _ (sym c.in_err-step.ensures.call_is_answered) in
    let handed : c.from_residual.result ≡ Err c.in_err-step.field-0.0 = search rules in
    record {
      steps_are_answered = handed ∙ sym (c.loop.invariant.0 ∙ ap (steps_answer k v) one ∙ now.0);
      steps_are_made = c.step.ensures.sector_is_rekeyed ∙ now.2 ∙ sym (c.loop.invariant.1 ∙ ap (after_steps k v) one ∙ now.1);
    }

pub loop-preserved : goal.loop-preserved
loop-preserved g c =
    let k = g.M.WideMode.kind in
    let v = view g.D.SectorDevice.meaning g.M.WideMode.state c.loop.volume in
    let n = c.args.count - (c.loop.counter + 1) in
    let one : c.args.count - c.loop.counter ≡ suc n = omega arith in
    let now = more k v n (sym c.in_ok-step.ensures.call_is_answered) in
    let next = sym c.step.ensures.sector_is_rekeyed in (
      c.loop.invariant.0 ∙ ap (steps_answer k v) one ∙ now.0 ∙ ap (λ w. steps_answer k w n) next,
      c.loop.invariant.1 ∙ ap (after_steps k v) one ∙ now.1 ∙ ap (λ w. after_steps k w n) next,
    )

pub returns : goal.returns
returns g c =
    let k = g.M.WideMode.kind in
    let v = view g.D.SectorDevice.meaning g.M.WideMode.state c.loop.volume in
    let end : c.args.count - c.loop.counter ≡ 0 = omega arith in
    record {
      steps_are_answered = sym (c.loop.invariant.0 ∙ ap (steps_answer k v) end ∙ (none k v).0);
      steps_are_made = sym (c.loop.invariant.1 ∙ ap (after_steps k v) end ∙ (none k v).1);
    }
