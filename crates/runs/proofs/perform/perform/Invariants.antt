use Rattle.volumes.specs.Volume.{view}
use Rattle.runs.proofs.Scripts.{Done}
use Rattle.runs.proofs.perform.perform.Given as goal

abbrev pub invariant-loop-entry : goal.invariant-loop-entry
invariant-loop-entry g l =
    Done g.M.WideMode.kind
    (view g.D.SectorDevice.meaning g.M.WideMode.state l.initial.volume)
    (view g.D.SectorDevice.meaning g.M.WideMode.state l.volume)
    l.initial.script l.script l.entry-index
