use Rattle.std.proofs.Common.{arith, length}
use Rattle.std.proofs.lemmas.Bool.{le-leb}
use Rattle.jobs.specs.Answers.{answer_of}
use Rattle.jobs.specs.Outcome.{put_in}
use Rattle.jobs.proofs.Places.{written_front}
use Rattle.jobs.proofs.work.Goals as goal

pub returns-clause-bytes_are_counted : goal.returns-clause-bytes_are_counted
returns-clause-bytes_are_counted c =
    let room = le-leb 4099 (length c.args.place.now) c.in-Some.ensures.cases.enough in
    rw (c.write_answer.ensures.count, c.outcome-found.ensures, room)

pub returns-clause-answer_is_written : goal.returns-clause-answer_is_written
returns-clause-answer_is_written c =
    let place = c.args.place.now in
    let room = le-leb 4099 (length place) c.in-Some.ensures.cases.enough in
    let done = written_front (answer_of (put_in c.outcome-found.new.sector c.outcome-found.result)) c.in-Some.front.now place (omega arith) c.in-Some.ensures.cases in
    rw (c.write_answer.ensures.place, done, c.outcome-found.ensures, room)
