-- The record of a task reads as that task.
use Rattle.std.proofs.Common.{◌≡◌, ℕ, ◌+◌, ◌*◌, ◌/◌, ◌%◌, List, [], ◌++◌, length, Some, refl, arith, length-append}
use Rattle.std.proofs.lemmas.List.{take_at, drop_at}
use Rattle.std.proofs.lemmas.Bool.{le-leb}
use Rattle.records.specs.declared.Mode.{Mode}
use Rattle.records.specs.declared.Mode.TheVariants.{Tet, Heh}
use Rattle.records.specs.declared.Cipher.{Cipher}
use Rattle.records.specs.declared.Cipher.TheVariants.{Aes128, Xtea, Mask1, Mask8, Mask16}
use Rattle.records.specs.declared.Direction.{Direction}
use Rattle.records.specs.declared.Direction.TheVariants.{Encipher, Decipher}
use Rattle.records.specs.Codes.{mode_named, cipher_named, direction_named}
use Rattle.records.specs.Record.{split}
use Rattle.records.specs.Writing.{mode_code, cipher_code, direction_code, behind_length, Reading}

mode_is_named : (m : Mode) → mode_named (mode_code m) ≡ Some m
mode_is_named Tet = refl
mode_is_named Heh = refl

cipher_is_named : (c : Cipher) → cipher_named (cipher_code c) ≡ Some c
cipher_is_named Aes128 = refl
cipher_is_named Xtea = refl
cipher_is_named Mask1 = refl
cipher_is_named Mask8 = refl
cipher_is_named Mask16 = refl

direction_is_named : (d : Direction) → direction_named (direction_code d) ≡ Some d
direction_is_named Encipher = refl
direction_is_named Decipher = refl

-- a row of bytes off the front, by its length in two bytes
behind : (bs rest : List ℕ) → Some (record { value = bs; rest = rest }) ≡ split (length bs / 256 * 256 + length bs % 256) (bs ++ rest)
behind bs rest =
    let n = length bs in
    let whole : n / 256 * 256 + n % 256 ≡ n = omega arith in
    let fits = le-leb n (length (bs ++ rest)) (omega (arith, length-append bs rest)) in
    rw (whole, fits, take_at bs rest n refl, drop_at bs rest n refl)

pub reading : Reading
reading t short =
    let sector = behind_length t.sector [] in
    let tweak = behind_length t.tweak sector in
    let key = behind_length t.key tweak in
    rw (le-leb _ _ short, ← behind t.key tweak, ← behind t.tweak sector, ← behind t.sector [], mode_is_named t.mode, cipher_is_named t.cipher, direction_is_named t.direction)
