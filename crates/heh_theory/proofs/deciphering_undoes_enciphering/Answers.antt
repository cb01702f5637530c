use Rattle.heh_theory.proofs.Undoing.{undoing}
use Rattle.heh_theory.proofs.deciphering_undoes_enciphering.Goals as goal

pub returns : goal.returns
returns c = record { undoing = undoing }
