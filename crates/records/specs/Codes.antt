-- What the codes of a record name.
use Rattle.std.specs.Prelude.{ℕ, cond, Some, None, Option, ◌==◌, List, ◌++◌, codes, decimal}
use Rattle.records.specs.declared.RecordFault.{RecordFault}
use Rattle.records.specs.declared.UnknownCode.{UnknownCode}
use Rattle.records.specs.declared.RecordFault.TheVariants.{Malformed}
use Rattle.records.specs.declared.Mode.{Mode}
use Rattle.records.specs.declared.Mode.TheVariants.{Tet, Heh}
use Rattle.records.specs.declared.Cipher.{Cipher}
use Rattle.records.specs.declared.Cipher.TheVariants.{Aes128, Xtea, Mask1, Mask8, Mask16}
use Rattle.records.specs.declared.Direction.{Direction}
use Rattle.records.specs.declared.Direction.TheVariants.{Encipher, Decipher}

-- the number of a refusal
abbrev pub record_fault_number : RecordFault → ℕ
record_fault_number Malformed = 13

-- 1 TET, 2 HEH
abbrev pub mode_named : ℕ → Option Mode
mode_named c = cond (c == 1) (Some Tet) (cond (c == 2) (Some Heh) None)

-- 1 AES-128, 2 XTEA, and the mask: 3 with w = 1, 4 with w = 8, 5 with w = 16
abbrev pub cipher_named : ℕ → Option Cipher
cipher_named c =
    cond (c == 1) (Some Aes128)
    (cond (c == 2) (Some Xtea) (cond (c == 3) (Some Mask1) (cond (c == 4) (Some Mask8) (cond (c == 5) (Some Mask16) None))))

-- 0 encipher, 1 decipher
abbrev pub direction_named : ℕ → Option Direction
direction_named c = cond (c == 0) (Some Encipher) (cond (c == 1) (Some Decipher) None)

-- the text of an unknown code
abbrev pub unknown_code_text : UnknownCode → List ℕ
unknown_code_text e = codes "unknown code " ++ decimal e.0
