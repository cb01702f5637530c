-- What a call answers and leaves, once its two checks are made.
use Rattle.std.proofs.Common.{◌≡◌, ℕ, ◌<◌, Bool, true, false, cond, eqb, ltb, List, length, Ok, Err, sym, refl, ap, ◌∙◌, arith}
use Rattle.std.proofs.lemmas.Bool.{ltb-true, eqb-true, lt-ltb, eq-eqb, cond-true}
use Rattle.devices.specs.declared.fault.Fault.{Fault}
use Rattle.devices.specs.declared.fault.Reason.TheVariants.{NoSuchSector, WrongLength}
use Rattle.devices.specs.Faults.{Answer, own, checked, and_then, by_answer}
use Rattle.devices.specs.Device.{DeviceMeaning, sector_at, standing, bytes_of, answer, written, after_read, after_write}

-- what the two checks show where they pass
pub record Allows (count size sector len : ℕ) : Type 0 where
  pub below : sector < count
  pub fits : len ≡ size

allows_by : (count size sector len : ℕ) (p q : Bool) → ltb sector count ≡ p → eqb len size ≡ q → ◌≡◌ {A = Answer} (Ok tt) (cond p (cond q (Ok tt) (Err (own WrongLength sector))) (Err (own NoSuchSector sector))) → Allows count size sector len
allows_by count size sector len true true p q h = record { below = ltb-true sector count p; fits = eqb-true len size q }
allows_by count size sector len true false p q h = let z : ◌≡◌ {A = ℕ} 0 1 = cc in absurd (omega arith)
allows_by count size sector len false q₁ p q h = let z : ◌≡◌ {A = ℕ} 0 1 = cc in absurd (omega arith)

pub allows : (count size sector len : ℕ) → Ok tt ≡ checked count size sector len → Allows count size sector len
allows count size sector len h = allows_by count size sector len (ltb sector count) (eqb len size) refl refl h

pub allowed : (count size sector len : ℕ) → sector < count → len ≡ size → Ok tt ≡ checked count size sector len
allowed count size sector len b f =
    sym (cond-true (ltb sector count) _ _ (lt-ltb sector count b) ∙ cond-true (eqb len size) _ _ (eq-eqb len size f))

module _ (m : DeviceMeaning) (s : ℕ) where
  -- the checks passed, as the device's own count and size were found

  -- a failed check is the answer
  pub refused : (len : ℕ) (f : Fault) → Err f ≡ checked (length m.sectors) m.size s len → Err f ≡ answer m s len
  refused len f e = ap (λ (a : Answer). and_then a (standing (sector_at m s))) e

  -- after the checks the sector answers
  pub stands : (len : ℕ) → Ok tt ≡ checked (length m.sectors) m.size s len → standing (sector_at m s) ≡ answer m s len
  stands len e = ap (λ (a : Answer). and_then a (standing (sector_at m s))) e

  -- a refused read leaves the buffer, and a refused write the device
  pub read_refused : (buffer : List ℕ) (f : Fault) → Err f ≡ answer m s (length buffer) → buffer ≡ after_read m s buffer
  read_refused buffer f e = ap (λ (a : Answer). by_answer a (bytes_of (sector_at m s)) buffer) e

  pub write_refused : (buffer : List ℕ) (f : Fault) → Err f ≡ answer m s (length buffer) → m ≡ after_write m s buffer
  write_refused buffer f e = ap (λ (a : Answer). by_answer a (written m s buffer) m) e

  -- an accepted read fills the buffer, and an accepted write changes the sector
  pub read_accepted : (buffer : List ℕ) → Ok tt ≡ answer m s (length buffer) → bytes_of (sector_at m s) ≡ after_read m s buffer
  read_accepted buffer e = ap (λ (a : Answer). by_answer a (bytes_of (sector_at m s)) buffer) e

  pub write_accepted : (buffer : List ℕ) → Ok tt ≡ answer m s (length buffer) → written m s buffer ≡ after_write m s buffer
  write_accepted buffer e = ap (λ (a : Answer). by_answer a (written m s buffer) m) e
