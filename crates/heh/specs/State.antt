-- What the struct holds.
use Rattle.std.specs.Prelude.{ℕ, List, Option}
use Rattle.ciphers.specs.Cipher.{CipherKind}
use Rattle.modes.specs.Mode.{Keyed}
use Rattle.heh_theory.specs.State.{keyed_with}
use Rattle.heh.specs.declared.Heh.{Heh}

abbrev pub state_of : {C : Type 0} → CipherKind → (C → List ℕ) → Heh C → Option Keyed
state_of k held h = keyed_with k.ring (held h.cipher) h.size
