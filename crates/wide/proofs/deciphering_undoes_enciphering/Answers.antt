use Rattle.heh_theory.proofs.Undoing as heh
use Rattle.tet_theory.proofs.Undoing as tet
use Rattle.wide.proofs.deciphering_undoes_enciphering.Goals as goal

pub returns : goal.returns
returns c =
    record {
      undoing =
          record {
            of_tet = record { encipher_row = tet.encipher_row; decipher_row = tet.decipher_row; undone = tet.undone; redone = tet.redone };
            of_heh = heh.undoing;
          };
    }
