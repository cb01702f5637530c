-- Records as they are written, with all six fields.
use Rattle.std.specs.Prelude.{◌≡◌, ℕ, ◌/◌, ◌%◌, ◌≤◌, List, [], ◌∷◌, ◌++◌, length, Some}
use Rattle.records.specs.declared.Mode.{Mode}
use Rattle.records.specs.declared.Mode.TheVariants.{Tet, Heh}
use Rattle.records.specs.declared.Cipher.{Cipher}
use Rattle.records.specs.declared.Cipher.TheVariants.{Aes128, Xtea, Mask1, Mask8, Mask16}
use Rattle.records.specs.declared.Direction.{Direction}
use Rattle.records.specs.declared.Direction.TheVariants.{Encipher, Decipher}
use Rattle.records.specs.Record.{Task, read}

-- the codes
abbrev pub mode_code : Mode → ℕ
mode_code Tet = 1
mode_code Heh = 2

abbrev pub cipher_code : Cipher → ℕ
cipher_code Aes128 = 1
cipher_code Xtea = 2
cipher_code Mask1 = 3
cipher_code Mask8 = 4
cipher_code Mask16 = 5

abbrev pub direction_code : Direction → ℕ
direction_code Encipher = 0
direction_code Decipher = 1

-- a row of bytes behind its length, and what comes after it
abbrev pub behind_length : List ℕ → List ℕ → List ℕ
behind_length bs rest = length bs / 256 ∷ length bs % 256 ∷ (bs ++ rest)

-- the record of a task: all six bits stand
abbrev pub record_of : Task → List ℕ
record_of t =
    63 ∷ mode_code t.mode ∷ cipher_code t.cipher ∷ direction_code t.direction
    ∷ behind_length t.key (behind_length t.tweak (behind_length t.sector []))

-- whatever the task: its record, if it is not too long, reads as that task
abbrev pub Reading : Type 0
Reading = (t : Task) → length (record_of t) ≤ 16384 → read (record_of t) ≡ Some t
