use Rattle.std.proofs.Common.{is_ok, sym, ap, ◌∙◌, rules}
use Rattle.devices.specs.Device.{live}
use Rattle.volumes.proofs.Rekeys.{passed, unready, read_is}
use Rattle.volumes.proofs.rekey.rekey.Goals.{else-is_ok-via-then-is_ok+else-is_ok-2, else-is_ok-via-else-is_ok}
use Rattle.volumes.proofs.rekey.rekey.Goals as goal

pub returns-else-is_ok : goal.returns-else-is_ok
returns-else-is_ok g c =
    let k = g.M.WideMode.kind in
    let s = g.M.WideMode.state c.args.current.now in
    let t = g.M.WideMode.state c.args.next.now in
    let m = g.D.SectorDevice.meaning c.args.device.now in
    let i = c.args.sector in
    record {
      sector_is_rekeyed =
          elim c.else-is_ok.branch [
            | else-is_ok-via-then-is_ok+else-is_ok-2 w ↦
                c.read.ensures.device_stays
                ∙ unready k s t m i c.read.new.buffer
                (read_is k s t m i _ (ap is_ok (sym c.read.ensures.call_is_answered) ∙ sym c.is_ok.ensures.value ∙ w.if-is_ok.true) ∙ ap live (sym c.read.ensures.buffer_is_filled))
                (ap is_ok (sym w.recipher.ensures.call_is_answered) ∙ sym w.is_ok-then-is_ok.ensures.value ∙ w.if-is_ok-2.false)
            | else-is_ok-via-else-is_ok w ↦
                c.read.ensures.device_stays
                ∙ passed k s t m i _ (search rules) (ap is_ok (sym c.read.ensures.call_is_answered) ∙ sym c.is_ok.ensures.value ∙ w.if-is_ok.false)
          ];
    }
