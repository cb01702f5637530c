-- A hash key of the code, in the words of the definition.
use Rattle.std.specs.Prelude.{ℕ, Some, None, Option}
use Rattle.tet_theory.specs.Tet.{HashKey}
use Rattle.tet.specs.declared.hash.Hash.{Hash}

abbrev pub key_of : {R : Type 0} → (R → ℕ) → Hash R → HashKey
key_of value h = record { τ = value h.tau; σ = value h.sigma; «1/σ» = value h.inverse }

abbrev pub keys_of : {R : Type 0} → (R → ℕ) → Option (Hash R) → Option HashKey
keys_of value None = None
keys_of value (Some h) = Some (key_of value h)
