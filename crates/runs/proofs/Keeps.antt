-- What holds between the accepted calls and a volume, and that each transition keeps it.
use Rattle.std.proofs.Common.{◌≡◌, ℕ, ◌+◌, ◌^◌, ◌<◌, ◌≤◌, Bool, true, false, cond, eqb, ltb, List, [], ◌∷◌, length, get_or, set, is_some, Some, None, Option, sym, refl, ap, ◌∙◌, subst, ⊎_elim, arith}
use Rattle.std.proofs.lemmas.List.{length-set, get_or-set_same, get_or-set_other}
use Rattle.std.proofs.lemmas.Bool.{cond-true, cond-false, cases_eq, cases_lt, lt-ltb, le-ltb, eq-eqb, ne_eqb, true≢false}
use Rattle.devices.specs.Device.{DeviceMeaning, Sector, live, sector_at, written}
use Rattle.modes.specs.Mode.{ModeKind, Keyed}
use Rattle.volumes.specs.declared.phase.Phase.{Phase}
use Rattle.volumes.specs.declared.phase.Phase.TheVariants.{Closed, Open, Sweeping}
use Rattle.volumes.specs.Volume.{VolumeModel, enciphered_by, rekeyed, rekeyed_at, is_closed, serving_in, serving, with_device}
use Rattle.runs.specs.History.{Sweep, or_else, under_way, last_over, key_by, pair, plain}
use Rattle.runs.specs.Law.{StoredAs}
use Rattle.runs.proofs.Keys.{sweep_of, key_in, key_sweeping, key_stepped, key_begun}
use Rattle.runs.proofs.Sectors.{Holds, Kept, opened_sector, stepped_sector, written_sector}

abbrev pub volume : DeviceMeaning → Option Keyed → Option Keyed → Phase → VolumeModel
volume d a b p = record { device = d; current = a; next = b; phase = p }

-- the phase and what the modes hold, by the key of the open and the sweeps
abbrev pub InPhase : ModeKind → ℕ → ℕ → Option Keyed → Option Keyed → Phase → Option (List ℕ) → List Sweep → Type 0
InPhase k n size a b Closed first ws = (first ≡ None) × (ws ≡ [])
InPhase k n size a b Open first ws = (is_some first ≡ true) × (0 < n) × (under_way n ws ≡ None) × Holds k size a (or_else (last_over n ws) first)
InPhase k n size a b (Sweeping m) first [] = ⊥
InPhase k n size a b (Sweeping m) first (w ∷ ws) = (is_some first ≡ true) × (m < n) × (m ≡ w.mark) × Holds k size b (Some w.new_key) × Holds k size a (or_else (last_over n ws) first)

pub record Facts (k : ModeKind) (o : DeviceMeaning) (first : Option (List ℕ)) (ws : List Sweep) (wr : ℕ → Option (List ℕ)) (v : VolumeModel) : Type 0 where
  pub size : v.device.size ≡ o.size
  pub count : length v.device.sectors ≡ length o.sectors
  pub phase : InPhase k (length o.sectors) o.size v.current v.next v.phase first ws
  pub stored : (i : ℕ) → i < length o.sectors → Kept k (length o.sectors) o.size first ws (wr i) i (sector_at o i) (sector_at v.device i)

-- the mode that serves a sector holds that sector's key
pub serve : (k : ModeKind) (n size i : ℕ) (a b : Option Keyed) (p : Phase) (first : Option (List ℕ)) (ws : List Sweep) → is_closed p ≡ false → InPhase k n size a b p first ws → Holds k size (serving_in p a b i) (key_in n first ws i)
serve k n size i a b Closed first ws s q = absurd (true≢false s)
serve k n size i a b Open first ws s q = subst (λ (u : Option Sweep). Holds k size a (key_by u (or_else (last_over n ws) first) i)) (sym q.2) q.3
serve k n size i a b (Sweeping m) first [] s q = absurd q
serve k n size i a b (Sweeping m) first (w ∷ ws) s q =
    subst (λ (u : Option (List ℕ)). Holds k size (cond (ltb i m) b a) u)
    (sym (key_sweeping n first ws w.new_key i w.mark (omega arith)))
    (subst (λ (u : ℕ). Holds k size (cond (ltb i u) b a) (cond (ltb i w.mark) (Some w.new_key) (or_else (last_over n ws) first))) (sym q.2) (pick (ltb i w.mark)))
  where
    pick : (e : Bool) → Holds k size (cond e b a) (cond e (Some w.new_key) (or_else (last_over n ws) first))
    pick true = q.3
    pick false = q.4

pub is_open : (k : ModeKind) (n size : ℕ) (a b : Option Keyed) (p : Phase) (first : Option (List ℕ)) (ws : List Sweep) → is_closed p ≡ false → InPhase k n size a b p first ws → is_some first ≡ true
is_open k n size a b Closed first ws s q = absurd (true≢false s)
is_open k n size a b Open first ws s q = q.0
is_open k n size a b (Sweeping m) first [] s q = absurd q
is_open k n size a b (Sweeping m) first (w ∷ ws) s q = q.0

module _ (k : ModeKind) (o : DeviceMeaning) where
  pub made : (a b : Option Keyed) → Facts k o None [] (λ i. None) (volume o a b Closed)
  made a b = record { size = refl; count = refl; phase = (refl, refl); stored = λ i h. (refl, refl) }

  holding : (d : DeviceMeaning) (key : List ℕ) → d.size ≡ o.size → k.refusal key d.size ≡ None → Holds k o.size (Some (pair d.size key)) (Some key)
  holding d key e fit = (ap (λ (n : ℕ). Some (pair n key)) e, subst (λ (n : ℕ). k.refusal key n ≡ None) e fit)

  -- ---- begin

  other_key : (n size i : ℕ) (first : Option (List ℕ)) (ws us : List Sweep) (wr : Option (List ℕ)) (old x : Sector) → is_some first ≡ true → key_in n first us i ≡ key_in n first ws i → Kept k n size first ws wr i old x → Kept k n size first us wr i old x
  other_key n size i None ws us wr old x e q h = absurd (true≢false (sym e))
  other_key n size i (Some key) ws us wr old x e q h = subst (λ (u : Option (List ℕ)). StoredAs k size i u (or_else wr (plain k size i (Some key) old)) old x) (sym q) h

  pub begun : (key : List ℕ) (first : Option (List ℕ)) (ws : List Sweep) (wr : ℕ → Option (List ℕ)) (d : DeviceMeaning) (a b : Option Keyed) → Facts k o first ws wr (volume d a b Open) → k.refusal key d.size ≡ None
      → Facts k o first (sweep_of key 0 ∷ ws) wr (volume d a (Some (pair d.size key)) (Sweeping 0))
  begun key first ws wr d a b f fit =
      let q = f.phase in
      record {
        size = f.size;
        count = f.count;
        phase = (q.0, q.1, refl, holding d key f.size fit, q.3);
        stored = λ i h. other_key (length o.sectors) o.size i first ws (sweep_of key 0 ∷ ws) (wr i) _ _ q.0 (key_begun (length o.sectors) first ws key i q.1 q.2) (f.stored i h);
      }

  module _ (countable : length o.sectors < 2 ^ 32) where
    -- ---- open

    pub opened : (key : List ℕ) (first : Option (List ℕ)) (ws : List Sweep) (wr : ℕ → Option (List ℕ)) (d : DeviceMeaning) (a b : Option Keyed) → Facts k o first ws wr (volume d a b Closed) → 0 < length d.sectors → k.refusal key d.size ≡ None
        → Facts k o (Some key) ws wr (volume d (Some (pair d.size key)) b Open)
    opened key None [] wr d a b f some fit =
        let hold = holding d key f.size fit in
        record {
          size = f.size;
          count = f.count;
          phase = (refl, omega (arith, f.count), refl, hold);
          stored = λ i h. opened_sector k o.size i (omega arith) (length o.sectors) key (wr i) _ _ hold.1 (f.stored i h).0 (f.stored i h).1;
        }
    opened key None (w ∷ ws) wr d a b f some fit = let z : ◌≡◌ {A = ℕ} 0 1 = cc f.phase.1 in absurd (omega arith)
    opened key (Some was) ws wr d a b f some fit = let z : ◌≡◌ {A = ℕ} 0 1 = cc f.phase.0 in absurd (omega arith)

    -- ---- step

    module _ (size : ℕ) (ws : List Sweep) (key : List ℕ) (m : ℕ) (d : DeviceMeaning) (a b : Option Keyed) (below : m < length o.sectors) (hb : Holds k size b (Some key)) where
      stepped_at : (current bs : Option (List ℕ)) (i : ℕ) (old : Sector) → Holds k size a current → i < length o.sectors → i < length d.sectors
          → StoredAs k size i (cond (ltb i m) (Some key) current) bs old (sector_at d i) → StoredAs k size i (cond (ltb i (m + 1)) (Some key) current) bs old (sector_at (rekeyed_at k a b m d) i)
      stepped_at current bs i old ha h hd st =
          ⊎_elim
          (λ (e : i ≡ m).
          let now : sector_at (rekeyed_at k a b m d) i ≡ rekeyed k a b i (sector_at d i) =
          ap (λ (j : ℕ). get_or (set d.sectors j (rekeyed k a b j (sector_at d j))) i (live [])) (sym e) ∙ get_or-set_same d.sectors i (rekeyed k a b i (sector_at d i)) (live []) hd in
          let was : StoredAs k size i current bs old (sector_at d i) = subst (λ (u : Option (List ℕ)). StoredAs k size i u bs old (sector_at d i)) (cond-false (ltb i m) (Some key) current (le-ltb i m (omega arith))) st in
          subst (λ (u : Option (List ℕ)). StoredAs k size i u bs old (sector_at (rekeyed_at k a b m d) i)) (sym (cond-true (ltb i (m + 1)) (Some key) current (lt-ltb i (m + 1) (omega arith))))
          (subst (λ (x : Sector). StoredAs k size i (Some key) bs old x) (sym now) (stepped_sector k size i (omega arith) key current bs a b old (sector_at d i) ha hb was)))
          (λ (ne : i ≡ m → ⊥).
          let same : cond (ltb i m) (Some key) current ≡ cond (ltb i (m + 1)) (Some key) current =
          ⊎_elim
          (λ (lt : i < m). cond-true (ltb i m) (Some key) current (lt-ltb i m lt) ∙ sym (cond-true (ltb i (m + 1)) (Some key) current (lt-ltb i (m + 1) (omega arith))))
          (λ (ge : m ≤ i).
          let gt : m + 1 ≤ i = ⊎_elim (λ (x : i < m + 1). absurd (ne (omega arith))) (λ (x : m + 1 ≤ i). x) (cases_lt i (m + 1)) in
          cond-false (ltb i m) (Some key) current (le-ltb i m ge) ∙ sym (cond-false (ltb i (m + 1)) (Some key) current (le-ltb i (m + 1) gt)))
          (cases_lt i m) in
          let now : sector_at (rekeyed_at k a b m d) i ≡ sector_at d i = get_or-set_other d.sectors m i (rekeyed k a b m (sector_at d m)) (live []) ne in
          subst (λ (u : Option (List ℕ)). StoredAs k size i u bs old (sector_at (rekeyed_at k a b m d) i)) same
          (subst (λ (x : Sector). StoredAs k size i (cond (ltb i m) (Some key) current) bs old x) (sym now) st))
          (cases_eq i m)

      stepped_kept : (first : Option (List ℕ)) (i : ℕ) (wr : Option (List ℕ)) (old : Sector) → is_some first ≡ true → Holds k size a (or_else (last_over (length o.sectors) ws) first) → i < length o.sectors → i < length d.sectors
          → Kept k (length o.sectors) size first (sweep_of key m ∷ ws) wr i old (sector_at d i) → Kept k (length o.sectors) size first (sweep_of key (m + 1) ∷ ws) wr i old (sector_at (rekeyed_at k a b m d) i)
      stepped_kept None i wr old e ha h hd st = absurd (true≢false (sym e))
      stepped_kept (Some f) i wr old e ha h hd st =
          let n = length o.sectors in
          let bs = or_else wr (plain k size i (Some f) old) in
          subst (λ (u : Option (List ℕ)). StoredAs k size i u bs old (sector_at (rekeyed_at k a b m d) i)) (sym (key_stepped n (Some f) ws key i (m + 1) h))
          (stepped_at (or_else (last_over n ws) (Some f)) bs i old ha h hd (subst (λ (u : Option (List ℕ)). StoredAs k size i u bs old (sector_at d i)) (key_sweeping n (Some f) ws key i m below) st))

    module _ (first : Option (List ℕ)) (w : Sweep) (ws : List Sweep) (m : ℕ) (wr : ℕ → Option (List ℕ)) (d : DeviceMeaning) (a b : Option Keyed) (f : Facts k o first (w ∷ ws) wr (volume d a b (Sweeping m))) where
      all_kept : (i : ℕ) → i < length o.sectors → Kept k (length o.sectors) o.size first (sweep_of w.new_key (w.mark + 1) ∷ ws) (wr i) i (sector_at o i) (sector_at (rekeyed_at k a b m d) i)
      all_kept i h =
          let q = f.phase in
          let n = length o.sectors in
          subst (λ (j : ℕ). Kept k n o.size first (sweep_of w.new_key (j + 1) ∷ ws) (wr i) i (sector_at o i) (sector_at (rekeyed_at k a b m d) i)) q.2
          (stepped_kept o.size ws w.new_key m d a b q.1 q.3 first i (wr i) (sector_at o i) q.0 q.4 h (omega (arith, f.count))
          (subst (λ (j : ℕ). Kept k n o.size first (sweep_of w.new_key j ∷ ws) (wr i) i (sector_at o i) (sector_at d i)) (sym q.2) (f.stored i h)))

      pub stepped_on : m + 1 < length d.sectors → Facts k o first (sweep_of w.new_key (w.mark + 1) ∷ ws) wr (volume (rekeyed_at k a b m d) a b (Sweeping (m + 1)))
      stepped_on more =
          let q = f.phase in
          record {
            size = f.size;
            count = length-set d.sectors m (rekeyed k a b m (sector_at d m)) ∙ f.count;
            phase = (q.0, omega (arith, f.count), ap (λ (x : ℕ). x + 1) q.2, q.3, q.4);
            stored = all_kept;
          }

      pub stepped_off : length d.sectors ≤ m + 1 → Facts k o first (sweep_of w.new_key (w.mark + 1) ∷ ws) wr (volume (rekeyed_at k a b m d) b a Open)
      stepped_off done =
          let q = f.phase in
          let n = length o.sectors in
          let over : ltb (w.mark + 1) n ≡ false = le-ltb (w.mark + 1) n (omega (arith, f.count, q.2)) in
          record {
            size = f.size;
            count = length-set d.sectors m (rekeyed k a b m (sector_at d m)) ∙ f.count;
            phase = (
              q.0,
              omega (arith, q.1),
              cond-false (ltb (w.mark + 1) n) (Some (sweep_of w.new_key (w.mark + 1))) None over,
              subst (λ (u : Option (List ℕ)). Holds k o.size b (or_else u first)) (sym (cond-false (ltb (w.mark + 1) n) (last_over n ws) (Some w.new_key) over)) q.3,
            );
            stored = all_kept;
          }

    -- ---- write

    written_kept : (n size i : ℕ) → i < 2 ^ 32 → (first : Option (List ℕ)) (ws : List Sweep) (wr : Option (List ℕ)) (bytes under : List ℕ) (a : Option Keyed) (old x : Sector) → is_some first ≡ true → Holds k size a (key_in n first ws i) → x ≡ live under
        → Kept k n size first ws wr i old x → Kept k n size first ws (Some bytes) i old (live (enciphered_by k a i bytes))
    written_kept n size i low None ws wr bytes under a old x e ha l h = absurd (true≢false (sym e))
    written_kept n size i low (Some key) ws wr bytes under a old x e ha l h = written_sector k size i low (key_in n (Some key) ws i) _ bytes under a old x ha l h

    pub wrote : (first : Option (List ℕ)) (ws : List Sweep) (wr : ℕ → Option (List ℕ)) (v : VolumeModel) (s : ℕ) (bytes under : List ℕ) → Facts k o first ws wr v → is_closed v.phase ≡ false → s < length v.device.sectors → sector_at v.device s ≡ live under
        → Facts k o first ws (λ i. cond (eqb s i) (Some bytes) (wr i)) (with_device v (written v.device s (enciphered_by k (serving v s) s bytes)))
    wrote first ws wr v s bytes under f shut sn lv =
        let n = length o.sectors in
        let z = o.size in
        let so : s < n = omega (arith, f.count) in
        let a = serving v s in
        let x : Sector = live (enciphered_by k a s bytes) in
        let d : DeviceMeaning = written v.device s (enciphered_by k a s bytes) in
        let hold : Holds k z a (key_in n first ws s) = serve k n z s v.current v.next v.phase first ws shut f.phase in
        let here : sector_at d s ≡ x = get_or-set_same v.device.sectors s x (live []) sn in
        let new : Kept k n z first ws (Some bytes) s (sector_at o s) x =
        written_kept n z s (omega arith) first ws (wr s) bytes under a (sector_at o s) (sector_at v.device s) (is_open k n z v.current v.next v.phase first ws shut f.phase) hold lv (f.stored s so) in
        record {
          size = f.size;
          count = length-set v.device.sectors s x ∙ f.count;
          phase = f.phase;
          stored = λ i h.
              ⊎_elim
              (λ (e : s ≡ i).
              subst (λ (j : ℕ). Kept k n z first ws (cond (eqb s j) (Some bytes) (wr j)) j (sector_at o j) (sector_at d j)) e
              (subst (λ (u : Option (List ℕ)). Kept k n z first ws u s (sector_at o s) (sector_at d s)) (sym (cond-true (eqb s s) (Some bytes) (wr s) (eq-eqb s s refl)))
              (subst (λ (y : Sector). Kept k n z first ws (Some bytes) s (sector_at o s) y) (sym here) new)))
              (λ (ne : s ≡ i → ⊥).
              let there : sector_at d i ≡ sector_at v.device i = get_or-set_other v.device.sectors s i x (live []) (λ e. ne (sym e)) in
              subst (λ (u : Option (List ℕ)). Kept k n z first ws u i (sector_at o i) (sector_at d i)) (sym (cond-false (eqb s i) (Some bytes) (wr i) (ne_eqb s i ne)))
              (subst (λ (y : Sector). Kept k n z first ws (wr i) i (sector_at o i) y) (sym there) (f.stored i h)))
              (cases_eq s i);
        }
