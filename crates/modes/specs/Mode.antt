-- Kinds of wide mode, and what a call of a mode does.
use Rattle.std.specs.Prelude.{◌≡◌, ℕ, ◌^◌, ◌<◌, true, cond, List, length, Some, None, Option, ◌==◌}
use Rattle.rings.specs.Rows.{row}
use Rattle.modes.specs.declared.ModeFault.{ModeFault}
use Rattle.modes.specs.declared.ModeFault.TheVariants.{WrongLength}

-- a key for one sector size
pub record Keyed : Type 0 where
  pub key : List ℕ
  pub size : ℕ

-- what a kind names, and what it shows
pub record ModeKind : Type 0 where
  -- why a key and a size do not fit, or none
  pub refusal : List ℕ → ℕ → Option ModeFault
  -- for a key, a size and a sector number, two maps on sectors
  pub encipher : List ℕ → ℕ → ℕ → List ℕ → List ℕ
  pub decipher : List ℕ → ℕ → ℕ → List ℕ → List ℕ
  -- laws, of pairs that fit, numbers of 32 bits and sectors of that size: the maps keep the length and undo each other
  pub encipher_row : (key : List ℕ) (size n : ℕ) (bs : List ℕ) → refusal key size ≡ None → n < 2 ^ 32 → row size bs ≡ true → row size (encipher key size n bs) ≡ true
  pub decipher_row : (key : List ℕ) (size n : ℕ) (bs : List ℕ) → refusal key size ≡ None → n < 2 ^ 32 → row size bs ≡ true → row size (decipher key size n bs) ≡ true
  pub undone : (key : List ℕ) (size n : ℕ) (bs : List ℕ) → refusal key size ≡ None → n < 2 ^ 32 → row size bs ≡ true → decipher key size n (encipher key size n bs) ≡ bs
  pub redone : (key : List ℕ) (size n : ℕ) (bs : List ℕ) → refusal key size ≡ None → n < 2 ^ 32 → row size bs ≡ true → encipher key size n (decipher key size n bs) ≡ bs

-- a pair that is held fits
abbrev pub Fitting : ModeKind → Option Keyed → Type 0
Fitting k None = Unit {0}
Fitting k (Some s) = k.refusal s.key s.size ≡ None

-- the state after keying: the pair handed in, or as it was
abbrev pub keyed_after : Option ModeFault → List ℕ → ℕ → Option Keyed → Option Keyed
keyed_after None key size state = Some (record { key = key; size = size })
keyed_after (Some fault) key size state = state

-- why a buffer is not ciphered, or none: the mode is blank, or the length is not its size
abbrev pub obstacle : Option Keyed → List ℕ → Option ModeFault
obstacle None bs = Some WrongLength
obstacle (Some s) bs = cond (length bs == s.size) None (Some WrongLength)

-- the buffer after a call: what the map makes of it, or as it was
abbrev pub ciphered : (List ℕ → ℕ → List ℕ → List ℕ) → Option Keyed → Option ModeFault → List ℕ → List ℕ
ciphered f None fault bs = bs
ciphered f (Some s) None bs = f s.key s.size bs
ciphered f (Some s) (Some fault) bs = bs
