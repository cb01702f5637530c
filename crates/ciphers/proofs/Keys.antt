-- What the answer to a key says of it.
use Rattle.std.proofs.Common.{◌≡◌, ℕ, Bool, true, false, cond, Ok, Err, Result, refl, arith}
use Rattle.ciphers.specs.declared.KeyFault.{KeyFault}
use Rattle.ciphers.specs.declared.KeyFault.TheVariants.{WrongLength}

-- a key that was accepted fits
pub taken : (b : Bool) → ◌≡◌ {A = Result (Unit {0}) KeyFault} (Ok tt) (cond b (Ok tt) (Err WrongLength)) → b ≡ true
taken true e = refl
taken false e = let z : ◌≡◌ {A = ℕ} 0 1 = cc in absurd (omega arith)

-- and one that was refused does not
pub turned : (b : Bool) (x : KeyFault) → ◌≡◌ {A = Result (Unit {0}) KeyFault} (Err x) (cond b (Ok tt) (Err WrongLength)) → b ≡ false
turned true x e = let z : ◌≡◌ {A = ℕ} 0 1 = cc in absurd (omega arith)
turned false x e = refl
