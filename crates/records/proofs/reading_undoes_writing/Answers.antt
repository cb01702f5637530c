use Rattle.records.proofs.Written.{reading}
use Rattle.records.proofs.reading_undoes_writing.Goals as goal

pub returns : goal.returns
returns c = record { reading = reading }
