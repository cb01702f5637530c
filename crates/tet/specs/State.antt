-- What the struct holds.
use Rattle.std.specs.Prelude.{ℕ, List, Option}
use Rattle.ciphers.specs.Cipher.{CipherKind}
use Rattle.modes.specs.Mode.{Keyed}
use Rattle.tet_theory.specs.State.{state_of}
use Rattle.tet.specs.declared.Tet.{Tet}

abbrev pub tet_state : {C : Type 0} → CipherKind → (C → List ℕ) → Tet C → Option Keyed
tet_state k held t = state_of k (held t.first) (held t.second) t.size
