use Rattle.tet_theory.proofs.Undoing.{encipher_row, decipher_row, undone, redone}
use Rattle.tet_theory.proofs.deciphering_undoes_enciphering.Goals as goal

pub returns : goal.returns
returns c = record { undoing = record { encipher_row = encipher_row; decipher_row = decipher_row; undone = undone; redone = redone } }
