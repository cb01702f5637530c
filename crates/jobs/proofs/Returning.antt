-- The way back gives the sector again.
use Rattle.std.proofs.Common.{◌≡◌, ℕ, ◌+◌, ◌≤◌, Bool, true, false, cond, eqb, leb, List, [], length, Some, None, Ok, Err, Option, Result, sym, refl, ap, ◌∙◌, arith, length-append}
use Rattle.std.proofs.lemmas.Bool.{and_from, and_parts, eq-eqb, eqb-true, leb-true}
use Rattle.rings.specs.Rows.{all_bytes, row}
use Rattle.modes.specs.declared.ModeFault.{ModeFault}
use Rattle.modes.specs.declared.ModeFault.TheVariants.{WrongTweak}
use Rattle.records.specs.declared.Direction.{Direction}
use Rattle.records.specs.declared.Direction.TheVariants.{Encipher, Decipher}
use Rattle.records.specs.Record.{Task, mapped, read}
use Rattle.records.specs.Writing.{behind_length, record_of}
use Rattle.records.proofs.Written.{reading}
use Rattle.jobs.specs.Names.{cipher_of, mode_over}
use Rattle.jobs.specs.Laws.{turned, back, Returning}
use Rattle.jobs.specs.Outcome.{map_of, refused_or, given, carried, of_task, outcome}
use Rattle.tweak_modes.specs.Tweaked.{TweakKind}

-- what a sector that is given says of the parts
pub record Gives (refusal : Option ModeFault) (fit : Bool) (made sector : List ℕ) : Type 0 where
  pub free : refusal ≡ None
  pub fits : fit ≡ true
  pub is : made ≡ sector

gives : (o : Option ModeFault) (fit : Bool) (made sector : List ℕ) → refused_or o (cond fit (Ok made) (Err WrongTweak)) ≡ Ok sector → Gives o fit made sector
gives None true made sector e = record { free = refl; fits = refl; is = cc }
gives None false made sector e = record { free = refl; fits = cc; is = cc }
gives (Some fault) fit made sector e = record { free = cc; fits = cc; is = cc }

module _ (k : TweakKind) (d : Direction) (key : List ℕ) (n : ℕ) (tweak bs : List ℕ) (good : row n bs ≡ true) where
  map_row : row n (map_of k d key n tweak bs) ≡ true
  map_row = elim d as (λ d. row n (map_of k d key n tweak bs) ≡ true) [ Encipher ↦ k.encipher_row key n tweak bs good | Decipher ↦ k.decipher_row key n tweak bs good ]

  map_back : map_of k (turned d) key n tweak (map_of k d key n tweak bs) ≡ bs
  map_back =
      elim d as (λ d. map_of k (turned d) key n tweak (map_of k d key n tweak bs) ≡ bs) [ Encipher ↦ k.undone key n tweak bs good | Decipher ↦ k.redone key n tweak bs good ]

-- what a task gives where nothing refuses it
given_of : (k : TweakKind) (t : Task) (n : ℕ) (out : List ℕ) → length t.sector ≡ n → k.refusal t.key n ≡ None → k.tweak_fits t.tweak ≡ true →
    map_of k t.direction t.key n t.tweak t.sector ≡ out → given k t ≡ Ok out
given_of k t n out long free fits is = rw (long, free, fits, is)

module _ (k : TweakKind) (t : Task) (sector : List ℕ) (bytes : all_bytes t.sector ≡ true) (e : given k t ≡ Ok sector) where
  parts : Gives (k.refusal t.key (length t.sector)) (k.tweak_fits t.tweak) (map_of k t.direction t.key (length t.sector) t.tweak t.sector) sector
  parts = gives _ _ _ _ e

  good : row (length t.sector) t.sector ≡ true
  good = and_from _ _ (eq-eqb (length t.sector) (length t.sector) refl) bytes

  same_length : length sector ≡ length t.sector
  same_length =
      let made = map_of k t.direction t.key (length t.sector) t.tweak t.sector in
      let whole = map_row k t.direction t.key (length t.sector) t.tweak t.sector good in
      ap length (sym parts.is) ∙ eqb-true (length made) (length t.sector) (and_parts (eqb (length made) (length t.sector)) (all_bytes made) whole).0

  given_back : given k (back t sector) ≡ Ok t.sector
  given_back =
      given_of k (back t sector) (length t.sector) t.sector same_length parts.free parts.fits
      (ap (λ (s : List ℕ). map_of k (turned t.direction) t.key (length t.sector) t.tweak s) (sym parts.is)
      ∙ map_back k t.direction t.key (length t.sector) t.tweak t.sector good)

-- a record that gives a sector is not too long
not_long : (bs sector : List ℕ) (short : Bool) → leb (length bs) 16384 ≡ short → of_task (cond short (mapped bs) None) ≡ Ok sector → length bs ≤ 16384
not_long bs sector true is e = leb-true (length bs) 16384 is
not_long bs sector false is e = absurd (let z : ◌≡◌ {A = ℕ} 0 1 = cc in omega arith)

uncarried : (o : Result (List ℕ) ModeFault) (sector : List ℕ) → carried o ≡ Ok sector → o ≡ Ok sector
uncarried (Ok s) sector e = cc
uncarried (Err fault) sector e = cc

-- how long a record is
long : (t : Task) → length (record_of t) ≡ length t.key + length t.tweak + length t.sector + 10
long t =
    let sector = behind_length t.sector [] in
    let tweak = behind_length t.tweak sector in
    omega (arith, length-append t.key tweak, length-append t.tweak sector, length-append t.sector [])

long_as : (t : Task) (sector : List ℕ) → length sector ≡ length t.sector → length (record_of (back t sector)) ≡ length (record_of t)
long_as t sector same = omega (arith, long t, long (back t sector))

-- what the mode of a task gives, from what its record gives
first_given : (bytes : List ℕ) (t : Task) (sector : List ℕ) → read bytes ≡ Some t → outcome bytes ≡ Ok sector → given (mode_over t.mode (cipher_of t.cipher)) t ≡ Ok sector
first_given bytes t sector is e = uncarried (given (mode_over t.mode (cipher_of t.cipher)) t) sector (ap of_task (sym is) ∙ e)

of_two_records :
    (first second : List ℕ) (t : Task) (sector : List ℕ) → all_bytes t.sector ≡ true → read first ≡ Some t → outcome first ≡ Ok sector →
    read second ≡ Some (back t sector) → outcome second ≡ Ok t.sector
of_two_records first second t sector bytes is e is' =
    ap of_task is' ∙ ap carried (given_back (mode_over t.mode (cipher_of t.cipher)) t sector bytes (first_given first t sector is e))

of_two_tasks : (t : Task) (sector : List ℕ) → all_bytes t.sector ≡ true → outcome (record_of t) ≡ Ok sector → outcome (record_of (back t sector)) ≡ Ok t.sector
of_two_tasks t sector bytes e =
    let k = mode_over t.mode (cipher_of t.cipher) in
    let short = not_long (record_of t) sector (leb (length (record_of t)) 16384) refl e in
    let is = reading t short in
    let same = same_length k t sector bytes (first_given (record_of t) t sector is e) in
    let again : length (record_of (back t sector)) ≤ 16384 = omega (arith, short, long_as t sector same) in
    of_two_records (record_of t) (record_of (back t sector)) t sector bytes is e (reading (back t sector) again)

pub returning : Returning
returning = record { of_records = of_two_records; of_tasks = of_two_tasks }
