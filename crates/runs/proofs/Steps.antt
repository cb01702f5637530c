-- Each call keeps the facts, and answers what the law says.
use Rattle.std.proofs.Common.{◌≡◌, ℕ, ◌+◌, ◌^◌, ◌<◌, Bool, true, false, cond, eqb, ltb, List, [], ◌∷◌, length, is_some, Some, None, Ok, Err, Option, sym, refl, ap, ◌∙◌, ⊎_elim, arith}
use Rattle.std.proofs.lemmas.Bool.{cond-true, cases_eq, lt-ltb, ltb-true, ltb-false, eqb-false, true≢false}
use Rattle.devices.specs.declared.fault.Fault.{Fault}
use Rattle.devices.specs.declared.fault.Reason.TheVariants.{WrongLength, Closed as IsClosed}
use Rattle.devices.specs.Faults.{Answer, own, passed_up, and_then, by_answer}
use Rattle.devices.specs.Device.{DeviceMeaning, Sector, live, faulty, sector_at, standing, bytes_of, answer, written}
use Rattle.modes.specs.declared.ModeFault.{ModeFault}
use Rattle.modes.specs.Mode.{ModeKind, Keyed}
use Rattle.volumes.specs.declared.fault.CallName.TheVariants.{Open as OpenCall, Begin as BeginCall}
use Rattle.volumes.specs.declared.fault.Refusal.TheVariants.{NoSectors}
use Rattle.volumes.specs.declared.phase.Phase.{Phase}
use Rattle.volumes.specs.declared.phase.Phase.TheVariants.{Closed, Open, Sweeping}
use Rattle.volumes.specs.Faults.{named, key_answer, by_call}
use Rattle.volumes.specs.Volume.{VolumeModel, takes, enciphered_by, deciphered_by, after_open, after_begin, after_step, rekeyed_at, is_closed, serving, opened, volume_of, with_device}
use Rattle.volumes.proofs.Accepted as device
use Rattle.volumes.proofs.Shown.{below, sector_is, answer_is}
use Rattle.runs.specs.History.{opens, writes, begins, History, Sweep, deeds, open_key, sweeps, one_more, or_else, under_way, phase_by, phase_after, last_written, pair, plain, bytes_in}
use Rattle.runs.specs.Runs.{Call, opening, reading, writing, beginning, stepping, reporting, after, event}
use Rattle.runs.proofs.Keys.{key_in}
use Rattle.runs.proofs.Sectors.{Holds, Kept, read_sector}
use Rattle.runs.proofs.Keeps as keeps
use Rattle.runs.proofs.Keeps.{Facts, InPhase, volume}

-- what an accepted read or write shows of a volume
pub record Accepted (k : ModeKind) (v : VolumeModel) (i : ℕ) : Type 0 where
  pub inside : i < length v.device.sectors
  pub open? : is_closed v.phase ≡ false
  pub living : sector_at v.device i ≡ live (bytes_of (sector_at v.device i))
  pub shows : sector_at (volume_of k v) i ≡ live (deciphered_by k (serving v i) i (bytes_of (sector_at v.device i)))

accepted_by : (k : ModeKind) (s : Option Keyed) (i : ℕ) (x : Sector) (shut ready : Bool) (f g : Fault) → Ok tt ≡ and_then (cond shut (Err f) (Ok tt)) (and_then (cond ready (Ok tt) (Err g)) (passed_up (standing x)))
    → (shut ≡ false) × (x ≡ live (bytes_of x)) × (cond shut (faulty f) (cond ready (opened k s i x) (faulty g)) ≡ live (deciphered_by k s i (bytes_of x)))
accepted_by k s i x true ready f g h = let z : ◌≡◌ {A = ℕ} 0 1 = cc in absurd (omega arith)
accepted_by k s i (live bytes) false true f g h = (refl, refl, refl)
accepted_by k s i (faulty e) false true f g h = let z : ◌≡◌ {A = ℕ} 0 1 = cc in absurd (omega arith)
accepted_by k s i x false false f g h = let z : ◌≡◌ {A = ℕ} 0 1 = cc in absurd (omega arith)

pub accepted : (k : ModeKind) (v : VolumeModel) (i len : ℕ) → Ok tt ≡ answer (volume_of k v) i len → Accepted k v i
accepted k v i len h =
    let ok = (device.accepted (volume_of k v) i len h).0 in
    let p = accepted_by k (serving v i) i (sector_at v.device i) (is_closed v.phase) (takes (serving v i) v.device.size) (own IsClosed i) (own WrongLength i) (h ∙ answer_is k v i len ok) in
    record { inside = below k v i len ok; open? = p.0; living = p.1; shows = sector_is k v i len ok ∙ p.2 }

module _ (k : ModeKind) (o : DeviceMeaning) (countable : length o.sectors < 2 ^ 32) where
  -- the facts after a history
  abbrev pub After : History → VolumeModel → Type 0
  After h v = Facts k o (open_key (deeds h)) (sweeps (deeds h)) (λ i. last_written (deeds h) i) v

  module _ (h : History) where
    open_closed : (key : List ℕ) (d : DeviceMeaning) (a b : Option Keyed) (none : Bool) (u : Option ModeFault) → eqb (length d.sectors) 0 ≡ none → k.refusal key d.size ≡ u → After h (volume d a b Closed)
        → After (opens key (named OpenCall (cond none (Err NoSectors) (key_answer u))) ∷ h) (by_call (cond none (Err NoSectors) (key_answer u)) (volume d (Some (pair d.size key)) b Open) (volume d a b Closed))
    open_closed key d a b true u en eu f = f
    open_closed key d a b false (Some r) en eu f = f
    open_closed key d a b false None en eu f =
        keeps.opened k o countable key (open_key (deeds h)) (sweeps (deeds h)) (λ i. last_written (deeds h) i) d a b f
        (let ne = eqb-false (length d.sectors) 0 en in ⊎_elim (λ (e : length d.sectors ≡ 0). absurd (ne e)) (λ (n : length d.sectors ≡ 0 → ⊥). omega arith) (cases_eq (length d.sectors) 0))
        eu

    one_open : (key : List ℕ) (d : DeviceMeaning) (a b : Option Keyed) (p : Phase) → After h (volume d a b p) → After (event k (volume d a b p) (opening key) ∷ h) (after_open k (volume d a b p) key)
    one_open key d a b Closed f = open_closed key d a b (eqb (length d.sectors) 0) (k.refusal key d.size) refl refl f
    one_open key d a b Open f = f
    one_open key d a b (Sweeping m) f = f

    begin_open : (key : List ℕ) (d : DeviceMeaning) (a b : Option Keyed) (u : Option ModeFault) → k.refusal key d.size ≡ u → After h (volume d a b Open)
        → After (begins key (named BeginCall (key_answer u)) ∷ h) (by_call (key_answer u) (volume d a (Some (pair d.size key)) (Sweeping 0)) (volume d a b Open))
    begin_open key d a b (Some r) eu f = f
    begin_open key d a b None eu f = keeps.begun k o key (open_key (deeds h)) (sweeps (deeds h)) (λ i. last_written (deeds h) i) d a b f eu

    one_begin : (key : List ℕ) (d : DeviceMeaning) (a b : Option Keyed) (p : Phase) → After h (volume d a b p) → After (event k (volume d a b p) (beginning key) ∷ h) (after_begin k (volume d a b p) key)
    one_begin key d a b Closed f = f
    one_begin key d a b Open f = begin_open key d a b (k.refusal key d.size) refl f
    one_begin key d a b (Sweeping m) f = f

    step_by : (first : Option (List ℕ)) (ws : List Sweep) (wr : ℕ → Option (List ℕ)) (d : DeviceMeaning) (a b : Option Keyed) (m : ℕ) (more : Bool) → ltb (m + 1) (length d.sectors) ≡ more → Facts k o first ws wr (volume d a b (Sweeping m))
        → Facts k o first (one_more ws) wr (cond more (volume (rekeyed_at k a b m d) a b (Sweeping (m + 1))) (volume (rekeyed_at k a b m d) b a Open))
    step_by first [] wr d a b m more e f = absurd f.phase
    step_by first (w ∷ ws) wr d a b m true e f = keeps.stepped_on k o countable first w ws m wr d a b f (ltb-true (m + 1) (length d.sectors) e)
    step_by first (w ∷ ws) wr d a b m false e f = keeps.stepped_off k o countable first w ws m wr d a b f (ltb-false (m + 1) (length d.sectors) e)

    one_step : (d : DeviceMeaning) (a b : Option Keyed) (p : Phase) → After h (volume d a b p) → After (event k (volume d a b p) stepping ∷ h) (after_step k (volume d a b p))
    one_step d a b Closed f = f
    one_step d a b Open f = f
    one_step d a b (Sweeping m) f = step_by (open_key (deeds h)) (sweeps (deeds h)) (λ i. last_written (deeds h) i) d a b m (ltb (m + 1) (length d.sectors)) refl f

    one_write : (v : VolumeModel) (i : ℕ) (bytes : List ℕ) (r : Answer) → answer (volume_of k v) i (length bytes) ≡ r → After h v
        → After (writes i bytes r ∷ h) (by_answer r (with_device v (written v.device i (enciphered_by k (serving v i) i bytes))) v)
    one_write v i bytes (Err x) e f = f
    one_write v i bytes (Ok u) e f =
        let acc = accepted k v i (length bytes) (sym e) in
        keeps.wrote k o countable (open_key (deeds h)) (sweeps (deeds h)) (λ j. last_written (deeds h) j) v i bytes _ f acc.open? acc.inside acc.living

    pub one : (x : Call) (v : VolumeModel) → After h v → After (event k v x ∷ h) (after k v x)
    one (opening key) v f = one_open key v.device v.current v.next v.phase f
    one (reading i len) v f = f
    one (writing i bytes) v f = one_write v i bytes (answer (volume_of k v) i (length bytes)) refl f
    one (beginning key) v f = one_begin key v.device v.current v.next v.phase f
    one stepping v f = one_step v.device v.current v.next v.phase f
    one reporting v f = f

    -- ---- what a read and a report answer

    told : (first : Option (List ℕ)) (ws : List Sweep) (wr : Option (List ℕ)) (size n i : ℕ) → i < 2 ^ 32 → (under : List ℕ) (a : Option Keyed) (old x : Sector) → is_some first ≡ true → Holds k size a (key_in n first ws i) → x ≡ live under
        → Kept k n size first ws wr i old x → Some (deciphered_by k a i under) ≡ or_else wr (plain k size i first old)
    told None ws wr size n i low under a old x e ha l st = absurd (true≢false (sym e))
    told (Some key) ws wr size n i low under a old x e ha l st = read_sector k size i low (key_in n (Some key) ws i) _ under a old x ha l st

    pub read_right : (v : VolumeModel) (i len : ℕ) → After h v → Ok tt ≡ answer (volume_of k v) i len → Some (bytes_of (sector_at (volume_of k v) i)) ≡ bytes_in k o (deeds h) i
    read_right v i len f e =
        let acc = accepted k v i len e in
        let n = length o.sectors in
        let inside : i < n = omega (arith, f.count, acc.inside) in
        let ws = sweeps (deeds h) in
        let first = open_key (deeds h) in
        ap (λ (y : Sector). Some (bytes_of y)) acc.shows
        ∙ told first ws (last_written (deeds h) i) o.size n i (omega arith) (bytes_of (sector_at v.device i)) (serving v i) (sector_at o i) (sector_at v.device i)
        (keeps.is_open k n o.size v.current v.next v.phase first ws acc.open? f.phase)
        (keeps.serve k n o.size i v.current v.next v.phase first ws acc.open? f.phase)
        acc.living (f.stored i inside)

    phase_is : (n size : ℕ) (a b : Option Keyed) (p : Phase) (first : Option (List ℕ)) (ws : List Sweep) → InPhase k n size a b p first ws → p ≡ phase_by first (under_way n ws)
    phase_is n size a b Closed None ws q = refl
    phase_is n size a b Closed (Some key) ws q = let z : ◌≡◌ {A = ℕ} 0 1 = cc q.0 in absurd (omega arith)
    phase_is n size a b Open None ws q = absurd (true≢false (sym q.0))
    phase_is n size a b Open (Some key) ws q = ap (phase_by (Some key)) (sym q.2)
    phase_is n size a b (Sweeping m) first [] q = absurd q
    phase_is n size a b (Sweeping m) None (w ∷ ws) q = absurd (true≢false (sym q.0))
    phase_is n size a b (Sweeping m) (Some key) (w ∷ ws) q =
        ap Sweeping q.2 ∙ ap (phase_by (Some key)) (sym (cond-true (ltb w.mark n) (Some w) None (lt-ltb w.mark n (omega arith))))

    pub report_right : (v : VolumeModel) → After h v → v.phase ≡ phase_after (length o.sectors) (deeds h)
    report_right v f = phase_is (length o.sectors) o.size v.current v.next v.phase (open_key (deeds h)) (sweeps (deeds h)) f.phase
