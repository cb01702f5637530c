-- A mode's calls as maps of a sector's bytes.
use Rattle.std.proofs.Common.{◌≡◌, ℕ, Bool, true, false, cond, eqb, List, length, Some, None, Ok, Err, Option, refl}
use Rattle.rings.specs.Rows.{row}
use Rattle.devices.specs.declared.fault.Reason.TheVariants.{WrongLength as NotItsSize}
use Rattle.devices.specs.Faults.{Answer, own}
use Rattle.modes.specs.declared.ModeFault.TheVariants.{WrongLength}
use Rattle.modes.specs.Faults.{answered}
use Rattle.modes.specs.Mode.{ModeKind, Keyed, obstacle, ciphered}
use Rattle.modes.proofs.Total.{call_is}
use Rattle.volumes.specs.Volume.{mode_answer, mode_check, enciphered_by, deciphered_by}

by_test : (b : Bool) (i : ℕ) → mode_answer (answered (cond b None (Some WrongLength))) i ≡ cond {A = Answer} b (Ok tt) (Err (own NotItsSize i))
by_test true i = refl
by_test false i = refl

pub answer_is : (s : Option Keyed) (bytes : List ℕ) (i : ℕ) → mode_answer (answered (obstacle s bytes)) i ≡ mode_check s (length bytes) i
answer_is None bytes i = refl
answer_is (Some s) bytes i = by_test (eqb (length bytes) s.size) i

module _ (k : ModeKind) (i : ℕ) (bytes : List ℕ) (good : row (length bytes) bytes ≡ true) where
  pub enciphered_is : (s : Option Keyed) → ciphered (λ key size. k.encipher key size i) s (obstacle s bytes) bytes ≡ enciphered_by k s i bytes
  enciphered_is None = refl
  enciphered_is (Some s) = call_is (λ key size. k.encipher key size i) s bytes good

  pub deciphered_is : (s : Option Keyed) → ciphered (λ key size. k.decipher key size i) s (obstacle s bytes) bytes ≡ deciphered_by k s i bytes
  deciphered_is None = refl
  deciphered_is (Some s) = call_is (λ key size. k.decipher key size i) s bytes good
