-- The law, over every list of calls.
use Rattle.std.proofs.Common.{◌≡◌, ℕ, ◌^◌, ◌<◌, true, List, [], ◌∷◌, ◌++◌, length, is_some, Some, None, Ok, Err, Option, sym, refl, ap, ◌∙◌, subst}
use Rattle.std.proofs.lemmas.Bool.{true≢false}
use Rattle.devices.specs.Faults.{Answer}
use Rattle.devices.specs.Device.{DeviceMeaning, Sector, sector_at, answer, bytes_of}
use Rattle.modes.specs.Mode.{ModeKind}
use Rattle.volumes.specs.Volume.{VolumeModel, fresh, volume_of}
use Rattle.runs.specs.History.{Event, opens, reads, writes, begins, steps, reports, History, Sweep, deeds, open_key, sweeps, or_else, phase_after, last_written, plain, bytes_in}
use Rattle.runs.specs.Runs.{Call, opening, reading, writing, beginning, stepping, reporting, after, event, with_bytes, run, history}
use Rattle.runs.specs.Law.{StoredAs, Upheld, VolumeLaw, UpheldOn}
use Rattle.runs.proofs.Keys.{key_in}
use Rattle.runs.proofs.Sectors.{Kept}
use Rattle.runs.proofs.Keeps.{made}
use Rattle.runs.proofs.Steps.{After, one, read_right, report_right}

module _ (k : ModeKind) (o : DeviceMeaning) where
  -- an event is right by the calls before it
  abbrev pub Right : Event → History → Type 0
  Right (opens key r) h = Unit {0}
  Right (reads i len (Ok bytes)) h = Some bytes ≡ bytes_in k o (deeds h) i
  Right (reads i len (Err f)) h = Unit {0}
  Right (writes i bytes r) h = Unit {0}
  Right (begins key r) h = Unit {0}
  Right (steps r) h = Unit {0}
  Right (reports p) h = p ≡ phase_after (length o.sectors) (deeds h)

  abbrev pub AllRight : History → Type 0
  AllRight [] = Unit {0}
  AllRight (e ∷ h) = Right e h × AllRight h

  right_within : (later before : History) (e : Event) → AllRight (later ++ (e ∷ before)) → Right e before
  right_within [] before e h = h.0
  right_within (x ∷ later) before e h = right_within later before e h.1

  module _ (countable : length o.sectors < 2 ^ 32) where
    read_by : (h : History) (v : VolumeModel) (i len : ℕ) (r : Answer) → answer (volume_of k v) i len ≡ r → After k o countable h v → Right (reads i len (with_bytes r (bytes_of (sector_at (volume_of k v) i)))) h
    read_by h v i len (Err x) e f = tt
    read_by h v i len (Ok u) e f = read_right k o countable h v i len f (sym e)

    right : (h : History) (x : Call) (v : VolumeModel) → After k o countable h v → Right (event k v x) h
    right h (opening key) v f = tt
    right h (reading i len) v f = read_by h v i len (answer (volume_of k v) i len) refl f
    right h (writing i bytes) v f = tt
    right h (beginning key) v f = tt
    right h stepping v f = tt
    right h reporting v f = report_right k o countable h v f

    all : (xs : List Call) (h : History) (v : VolumeModel) → After k o countable h v → AllRight h → After k o countable (history k v xs h) (run k v xs) × AllRight (history k v xs h)
    all [] h v f r = (f, r)
    all (x ∷ xs) h v f r = all xs (event k v x ∷ h) (after k v x) (one k o countable h x v f) (right h x v f, r)

  stored_as : (n size i : ℕ) (first : Option (List ℕ)) (ws : List Sweep) (wr : Option (List ℕ)) (old x : Sector) → is_some first ≡ true → Kept k n size first ws wr i old x → StoredAs k size i (key_in n first ws i) (or_else wr (plain k size i first old)) old x
  stored_as n size i None ws wr old x e st = absurd (true≢false (sym e))
  stored_as n size i (Some key) ws wr old x e st = st

pub volume_law : (k : ModeKind) → VolumeLaw k
volume_law k o sound a b xs =
    let h = history k (fresh o a b) xs [] in
    let v = run k (fresh o a b) xs in
    let q = all k o sound.countable xs [] (fresh o a b) (made k o a b) tt in
    record {
      size = q.0.size;
      count = q.0.count;
      stored = λ some i inside.
          stored_as k o (length o.sectors) o.size i (open_key (deeds h)) (sweeps (deeds h)) (last_written (deeds h) i) (sector_at o i) (sector_at v.device i) some (q.0.stored i inside);
      read = λ later before i len bytes e. right_within k o later before (reads i len (Ok bytes)) (subst (AllRight k o) e q.1);
      report = λ later before p e. right_within k o later before (reports p) (subst (AllRight k o) e q.1);
    }

-- ---- calls after other calls

run_more : (k : ModeKind) (v : VolumeModel) (xs ys : List Call) → run k v (xs ++ ys) ≡ run k (run k v xs) ys
run_more k v [] ys = refl
run_more k v (x ∷ xs) ys = run_more k (after k v x) xs ys

history_more : (k : ModeKind) (v : VolumeModel) (xs ys : List Call) (h : History) → history k v (xs ++ ys) h ≡ history k (run k v xs) ys (history k v xs h)
history_more k v [] ys h = refl
history_more k v (x ∷ xs) ys h = history_more k (after k v x) xs ys (event k v x ∷ h)

pub upheld_on : (k : ModeKind) (v v' : VolumeModel) (xs : List Call) (since : History → History) → ((h : History) → since h ≡ history k v xs h) → v' ≡ run k v xs → UpheldOn k v since v'.device
upheld_on k v v' xs since eh ev o sound a b earlier was =
    let f = fresh o a b in
    let hs = history k f earlier [] in
    let ends : run k f (earlier ++ xs) ≡ v' = run_more k f earlier xs ∙ sym (ev ∙ ap (λ (u : VolumeModel). run k u xs) was) in
    let notes : history k f (earlier ++ xs) [] ≡ since hs = history_more k f earlier xs [] ∙ sym (eh hs ∙ ap (λ (u : VolumeModel). history k u xs hs) was) in
    subst (λ (u : VolumeModel). Upheld k o (since hs) u.device) ends (subst (λ (x : History). Upheld k o x (run k f (earlier ++ xs)).device) notes (volume_law k o sound a b (earlier ++ xs)))
