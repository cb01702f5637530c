use Rattle.std.proofs.Common.{length}
use Rattle.devices.proofs.Answers.{write_refused}
use Rattle.piles.specs.Broken.{broken_of}
use Rattle.piles.proofs.Refuses.{refuses}
use Rattle.piles.proofs.broken.BrokenSectorDevice.write.Goals as goal

pub returns : goal.returns
returns c =
    let b = c.args.self.now in
    let m = broken_of b.count b.fault in
    let s = c.args.sector in
    let buffer = c.args.buffer.now in
    let refusal = refuses b.count b.fault s (length buffer) c.in_ok-admit.ensures in
    record {
      call_is_answered = refusal;
      sector_is_written = write_refused m s buffer b.fault refusal;
    }
