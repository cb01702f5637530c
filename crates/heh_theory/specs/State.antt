-- What a mode holds, and why it refuses a call.
use Rattle.std.specs.Prelude.{ℕ, cond, List, length, Some, None, Option, ◌==◌}
use Rattle.rings.specs.Ring.{RingKind}
use Rattle.ciphers.specs.Cipher.{CipherKind, fits}
use Rattle.ciphers.specs.declared.KeyFault.TheVariants.{WrongLength as WrongKeyLength}
use Rattle.modes.specs.Mode.{Keyed, obstacle}
use Rattle.modes.specs.declared.ModeFault.{ModeFault}
use Rattle.modes.specs.declared.ModeFault.TheVariants.{Key, WrongSize, WrongTweak}
use Rattle.heh_theory.specs.Heh.{size_fits}

-- a key and a size count where the size fits; elsewhere the mode is blank
abbrev pub keyed_with : RingKind → List ℕ → ℕ → Option Keyed
keyed_with r key ℓ = cond (size_fits r ℓ) (Some (record { key = key; size = ℓ })) None

-- why a key and a size are refused, or none
abbrev pub refusal : CipherKind → List ℕ → ℕ → Option ModeFault
refusal k key ℓ = cond (fits k key) (cond (size_fits k.ring ℓ) None (Some WrongSize)) (Some (Key WrongKeyLength))

-- another obstacle, or that of a tweak of another length than a block
abbrev pub or_tweak : RingKind → List ℕ → Option ModeFault → Option ModeFault
or_tweak r tweak None = cond (length tweak == r.width) None (Some WrongTweak)
or_tweak r tweak (Some fault) = Some fault

-- why a call with a tweak is refused, or none
abbrev pub obstacle_with : CipherKind → Option Keyed → List ℕ → List ℕ → Option ModeFault
obstacle_with k state tweak bs = or_tweak k.ring tweak (obstacle state bs)
