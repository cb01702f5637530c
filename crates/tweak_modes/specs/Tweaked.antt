-- Wide modes with a tweak in bytes.
use Rattle.std.specs.Prelude.{◌≡◌, ℕ, ◌≤◌, Bool, true, cond, List, length, Some, None, Option, ◌==◌}
use Rattle.rings.specs.Rows.{row}
use Rattle.modes.specs.Mode.{Keyed}
use Rattle.modes.specs.declared.ModeFault.{ModeFault}
use Rattle.modes.specs.declared.ModeFault.TheVariants.{WrongLength, WrongTweak}

-- what a kind names, and what it shows
pub record TweakKind : Type 0 where
  -- why a key and a size do not fit, or none
  pub refusal : List ℕ → ℕ → Option ModeFault
  -- does a tweak fit?
  pub tweak_fits : List ℕ → Bool
  -- for a key, a size and a tweak, two maps on sectors
  pub encipher : List ℕ → ℕ → List ℕ → List ℕ → List ℕ
  pub decipher : List ℕ → ℕ → List ℕ → List ℕ → List ℕ
  -- laws: a size that fits is at most 4,096; the maps keep sectors of their size and undo each other
  pub bounded : (key : List ℕ) (size : ℕ) → refusal key size ≡ None → size ≤ 4096
  pub encipher_row : (key : List ℕ) (size : ℕ) (tweak bs : List ℕ) → row size bs ≡ true → row size (encipher key size tweak bs) ≡ true
  pub decipher_row : (key : List ℕ) (size : ℕ) (tweak bs : List ℕ) → row size bs ≡ true → row size (decipher key size tweak bs) ≡ true
  pub undone : (key : List ℕ) (size : ℕ) (tweak bs : List ℕ) → row size bs ≡ true → decipher key size tweak (encipher key size tweak bs) ≡ bs
  pub redone : (key : List ℕ) (size : ℕ) (tweak bs : List ℕ) → row size bs ≡ true → encipher key size tweak (decipher key size tweak bs) ≡ bs

-- why a buffer is not ciphered under a tweak: 2, then 12
abbrev pub obstacle_of : TweakKind → Option Keyed → List ℕ → List ℕ → Option ModeFault
obstacle_of k None tweak bs = Some WrongLength
obstacle_of k (Some s) tweak bs = cond (length bs == s.size) (cond (k.tweak_fits tweak) None (Some WrongTweak)) (Some WrongLength)
