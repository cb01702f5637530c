use Rattle.std.proofs.Common.{◌≡◌, ◌-◌}
use Rattle.volumes.specs.Volume.{view}
use Rattle.replies.specs.Steps.{steps_answer, after_steps}
use Rattle.replies.proofs.calls.steps.Given as goal

abbrev pub invariant-loop : goal.invariant-loop
invariant-loop g l =
    let k = g.M.WideMode.kind in
    let seen = view g.D.SectorDevice.meaning g.M.WideMode.state in
    (steps_answer k (seen l.initial.volume) l.count ≡ steps_answer k (seen l.volume) (l.count - l.counter))
    × (after_steps k (seen l.initial.volume) l.count ≡ after_steps k (seen l.volume) (l.count - l.counter))
