-- What setting a key answers.
use Rattle.std.specs.Prelude.{ℕ, cond, List, Ok, Err, Result}
use Rattle.ciphers.specs.Cipher.{CipherKind, fits}
use Rattle.ciphers.specs.declared.KeyFault.{KeyFault}
use Rattle.ciphers.specs.declared.KeyFault.TheVariants.{WrongLength}

-- the number of a refusal
abbrev pub key_fault_number : KeyFault → ℕ
key_fault_number WrongLength = 5

-- accepted exactly where the key fits
abbrev pub key_answer : CipherKind → List ℕ → Result (Unit {0}) KeyFault
key_answer k key = cond (fits k key) (Ok tt) (Err WrongLength)
