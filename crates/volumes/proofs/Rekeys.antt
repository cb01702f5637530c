-- One sector re-enciphered below.
use Rattle.std.proofs.Common.{◌≡◌, ℕ, ◌<◌, ◌≤◌, Bool, true, false, cond, ◌&&◌, List, [], length, set, is_ok, Ok, Err, Option, sym, refl, ap, ◌∙◌, ⊎_elim}
use Rattle.std.proofs.lemmas.List.{set-get_or, set_past}
use Rattle.std.proofs.lemmas.Bool.{cases_lt, true≢false}
use Rattle.devices.specs.Faults.{Answer, own, and_then}
use Rattle.devices.specs.declared.fault.Reason.TheVariants.{WrongLength}
use Rattle.devices.specs.Device.{DeviceMeaning, Sector, live, faulty, sector_at, standing, answer, written, after_read, after_write}
use Rattle.devices.proofs.Answers.{allowed, stands, read_accepted, write_accepted}
use Rattle.modes.specs.Mode.{ModeKind, Keyed}
use Rattle.volumes.specs.Volume.{takes, both_check, reciphered_if, reciphered, rekeyed, rekeyed_at}
use Rattle.volumes.proofs.Accepted.{accepted}

pub ok : (a : Answer) → is_ok a ≡ true → Ok tt ≡ a
ok (Ok u) h = refl
ok (Err f) h = absurd (true≢false (sym h))

both_tests : (a b : Bool) (i : ℕ) → is_ok (and_then (cond a (Ok tt) (Err (own WrongLength i))) (cond b (Ok tt) (Err (own WrongLength i)))) ≡ (a && b)
both_tests true true i = refl
both_tests true false i = refl
both_tests false b i = refl

module _ (k : ModeKind) (s t : Option Keyed) (m : DeviceMeaning) (i : ℕ) where
  pub ready_is : (size : ℕ) → is_ok (both_check s t size i) ≡ (takes s size && takes t size)
  ready_is size = both_tests (takes s size) (takes t size) i

  same : (x : Sector) → x ≡ sector_at m i → m ≡ record { size = m.size; sectors = set m.sectors i x }
  same x e = ap (λ (xs : List Sector). record { size = m.size; sectors = xs }) (sym (ap (set m.sectors i) e ∙ set-get_or m.sectors i (live [])))

  faulty_stays : (x : Sector) → is_ok (standing x) ≡ false → rekeyed k s t i x ≡ x
  faulty_stays (live bytes) h = absurd (true≢false h)
  faulty_stays (faulty f) h = refl

  -- a sector that cannot be read stays
  pub passed : (len : ℕ) → len ≡ m.size → is_ok (answer m i len) ≡ false → m ≡ rekeyed_at k s t i m
  passed len e h =
      ⊎_elim
      (λ (b : i < length m.sectors). same _ (faulty_stays (sector_at m i) (ap is_ok (stands m i len (allowed (length m.sectors) m.size i len b e)) ∙ h)))
      (λ (b : length m.sectors ≤ i). ap (λ (xs : List Sector). record { size = m.size; sectors = xs }) (sym (set_past m.sectors i _ b)))
      (cases_lt i (length m.sectors))

  pub read_is : (buffer : List ℕ) → is_ok (answer m i (length buffer)) ≡ true → sector_at m i ≡ live (after_read m i buffer)
  read_is buffer h =
      let a = ok (answer m i (length buffer)) h in
      (accepted m i (length buffer) a).1 ∙ ap live (read_accepted m i buffer a)

  -- where a mode does not take it, it stays
  unready_by : (b : Bool) (bytes : List ℕ) → b ≡ false → reciphered_if b k s t i bytes ≡ bytes
  unready_by true bytes h = absurd (true≢false h)
  unready_by false bytes h = refl

  pub unready : (bytes : List ℕ) → sector_at m i ≡ live bytes → is_ok (both_check s t (length bytes) i) ≡ false → m ≡ rekeyed_at k s t i m
  unready bytes e h =
      same _ (ap (rekeyed k s t i) e ∙ ap live (unready_by (takes s (length bytes) && takes t (length bytes)) bytes (sym (ready_is (length bytes)) ∙ h)) ∙ sym e)

  first_too : (a b : Bool) (bytes : List ℕ) → (a && b) ≡ true → reciphered_if a k s t i bytes ≡ reciphered_if (a && b) k s t i bytes
  first_too true b bytes h = ap (λ c. reciphered_if c k s t i bytes) (sym h)
  first_too false b bytes h = absurd (true≢false (sym h))

  -- otherwise it is written
  pub rewritten : (bytes out : List ℕ) → sector_at m i ≡ live bytes → is_ok (both_check s t (length bytes) i) ≡ true → out ≡ reciphered k s t i bytes → Ok tt ≡ answer m i (length out) → after_write m i out ≡ rekeyed_at k s t i m
  rewritten bytes out e h o a =
      sym (write_accepted m i out a)
      ∙ ap (λ (x : List ℕ). written m i x) (o ∙ first_too (takes s (length bytes)) (takes t (length bytes)) bytes (sym (ready_is (length bytes)) ∙ h))
      ∙ ap (λ (x : Sector). record { size = m.size; sectors = set m.sectors i (rekeyed k s t i x) }) (sym e)
