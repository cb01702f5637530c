use Rattle.std.proofs.Common.{◌≤◌, length, sym, ◌∙◌, arith, take_all}
use Rattle.rings.specs.Blocks.{bytes_of}
use Rattle.rings.proofs.Bytes.{bytes_more, length_bytes_of}
use Rattle.rings.proofs.BlockRing.to_bytes.Goals as goal

pub loop-i-preserved : goal.loop-i-preserved
loop-i-preserved g c =
    let a = g.Self.BlockRing.value c.args.self in
    bytes_more c.loop-i.bytes (length c.args.bytes.now) a c.loop-i.i c.byte.result c.loop-i.auto.bytes c.loop-i-test.true c.loop-i.invariant c.byte.ensures

pub returns : goal.returns
returns g c =
    let w = length c.args.bytes.now in
    let a = g.Self.BlockRing.value c.args.self in
    let all : length (bytes_of w a) ≤ c.loop-i.i = rw (length_bytes_of w a) (omega arith) in
    sym (take_all c.loop-i.i c.loop-i.bytes (omega arith)) ∙ c.loop-i.invariant ∙ take_all c.loop-i.i (bytes_of w a) all
