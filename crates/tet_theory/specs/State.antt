-- What a TET holds, and why it refuses a call.
use Rattle.std.specs.Prelude.{ℕ, cond, List, ◌++◌, length, Some, None, Option, ◌==◌, nat_le}
use Rattle.ciphers.specs.Cipher.{CipherKind}
use Rattle.ciphers.specs.declared.KeyFault.TheVariants.{WrongLength as WrongKeyLength}
use Rattle.modes.specs.Mode.{Keyed}
use Rattle.modes.specs.declared.ModeFault.{ModeFault}
use Rattle.modes.specs.declared.ModeFault.TheVariants.{WrongLength, Key, WrongSize, NoInverse, WrongTweak}
use Rattle.tet_theory.specs.Tet.{HashKey, size_fits, hash_key, first_key, key_fits}

abbrev pub keyed_with : Option HashKey → List ℕ → ℕ → Option Keyed
keyed_with None key ℓ = None
keyed_with (Some h) key ℓ = Some (record { key = key; size = ℓ })

-- two cipher keys and a size are held where their hash key exists
abbrev pub state_of : CipherKind → List ℕ → List ℕ → ℕ → Option Keyed
state_of k K1 K2 ℓ = keyed_with (hash_key k.ring (k.encipher K1) ℓ) (K1 ++ K2) ℓ

abbrev pub without_hash : Option HashKey → Option ModeFault
without_hash None = Some NoInverse
without_hash (Some h) = None

-- why a key and a size are not taken: 5, then 6, then 7
abbrev pub refusal : CipherKind → List ℕ → ℕ → Option ModeFault
refusal k key ℓ =
    cond (key_fits k key)
    (cond (size_fits k.ring ℓ) (without_hash (hash_key k.ring (k.encipher (first_key key)) ℓ)) (Some WrongSize))
    (Some (Key WrongKeyLength))

-- why a buffer is not ciphered under a tweak: 2, then 12
abbrev pub obstacle : Option Keyed → List ℕ → List ℕ → Option ModeFault
obstacle None tweak bs = Some WrongLength
obstacle (Some s) tweak bs = cond (length bs == s.size) (cond (nat_le (length tweak) 4096) None (Some WrongTweak)) (Some WrongLength)
