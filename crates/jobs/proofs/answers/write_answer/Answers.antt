use Rattle.std.proofs.Common.{◌≡◌, ◌/◌, ◌%◌, ◌≤◌, length, arith}
use Rattle.jobs.proofs.Places.{written_after}
use Rattle.jobs.proofs.answers.write_answer.Goals as goal

pub returns-in-Ok-clause-place : goal.returns-in-Ok-clause-place
returns-in-Ok-clause-place c =
    let bs = c.args.sector.now.items in
    let n = length bs in
    let room : 3 ≤ length c.args.place.now = omega arith in
    let high : n / 256 % 256 ≡ n / 256 = omega arith in
    let done = written_after (n / 256) (n % 256) bs c.args.place.now room in
    rw (c.in-Ok.is, c.copy_from_slice-in-Ok.ensures.after, c.deref.ensures.0, c.copy_from_slice.ensures.after, c.to_be_bytes.ensures, c.len-size.ensures.value, high, done)
