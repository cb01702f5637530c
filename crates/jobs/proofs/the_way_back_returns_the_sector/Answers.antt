use Rattle.jobs.proofs.Returning.{returning}
use Rattle.jobs.proofs.the_way_back_returns_the_sector.Goals as goal

pub returns : goal.returns
returns c = record { returning = returning }
