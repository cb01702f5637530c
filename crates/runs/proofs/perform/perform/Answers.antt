use Rattle.std.proofs.Common.{◌<◌, ◌≤◌, length, arith}
use Rattle.volumes.specs.Volume.{view}
use Rattle.runs.specs.Script.{calls, recorded}
use Rattle.runs.proofs.Upheld.{upheld_on}
use Rattle.runs.proofs.Scripts.{none, more, all_recorded, all_answered, all_after}
use Rattle.runs.proofs.perform.perform.Goals as goal

pub loop-entry-init : goal.loop-entry-init
loop-entry-init g c = none g.M.WideMode.kind (view g.D.SectorDevice.meaning g.M.WideMode.state c.args.volume.now) c.args.script.now

pub loop-entry-preserved : goal.loop-entry-preserved
loop-entry-preserved g c =
    let look = view g.D.SectorDevice.meaning g.M.WideMode.state in
    let i = c.loop-entry.entry-index in
    let below : i < length c.loop-entry.script = omega arith in
    more g.M.WideMode.kind (look c.args.volume.now) c.args.script.now
    (look c.loop-entry.volume) (look c.make.new.volume) c.loop-entry.script i c.entry-item.result c.make.new.entry
    below c.make.ensures.call_is_answered c.make.ensures.call_is_noted c.make.ensures.call_is_made c.loop-entry.invariant

pub returns : goal.returns
returns g c =
    let k = g.M.WideMode.kind in
    let look = view g.D.SectorDevice.meaning g.M.WideMode.state in
    let v = look c.args.volume.now in
    let start = c.args.script.now in
    let es = c.loop-entry.script in
    let i = c.loop-entry.entry-index in
    let whole : length es ≤ i = omega arith in
    let noted = all_recorded k v start (look c.loop-entry.volume) es i whole c.loop-entry.invariant in
    let ran = all_after k v start (look c.loop-entry.volume) es i whole c.loop-entry.invariant in
    record {
      law_is_upheld = upheld_on k v (look c.loop-entry.volume) (calls start) (recorded es) noted ran;
      answers_are_recorded = noted;
      entries_are_answered = all_answered k v start (look c.loop-entry.volume) es i whole c.loop-entry.invariant;
      calls_are_made = ran;
    }
