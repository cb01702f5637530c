-- Windows and joins of sound devices are sound.
use Rattle.std.specs.Prelude.{◌≡◌, ℕ, ◌+◌, ◌-◌, ◌<◌, ◌≤◌, min, Bool, true, false, cond, length, ◌==◌, refl}
use Rattle.std.proofs.Common.{sym, subst, ⊎_elim, arith}
use Rattle.std.proofs.lemmas.Bool.{cases_lt, cond-true, cond-false, lt-ltb, le-ltb, eqb-true}
use Rattle.devices.specs.Device.{DeviceMeaning, sector_at, shown, SectorFits, Sound}
use Rattle.devices.proofs.Sectors.{fits_shown, sound_of}
use Rattle.layers.specs.Window.{window_count, window_sector, window_of}
use Rattle.layers.specs.Join.{join_count, join_sector, join_of}

pub window_sounds : (start wanted : ℕ) (m : DeviceMeaning) → Sound m → Sound (window_of start wanted m)
window_sounds start wanted m s =
    sound_of m.size (window_count start wanted m) (window_sector start m) s.some s.most (omega (arith, s.countable))
    (λ i h. fits_shown m.size (sector_at m (start + i)) (s.whole (start + i) (omega arith)))

-- a sector of a join past the first device is one of a second of the same size
pub record Second (a b : DeviceMeaning) (i : ℕ) : Type 0 where
  pub same : a.size ≡ b.size
  pub below : i - length a.sectors < length b.sectors

module _ (a b : DeviceMeaning) (i : ℕ) where
  pub at_first : i < length a.sectors → join_sector a b i ≡ shown (sector_at a i)
  at_first h = cond-true _ _ _ (lt-ltb i (length a.sectors) h)

  pub at_second : length a.sectors ≤ i → join_sector a b i ≡ shown (sector_at b (i - length a.sectors))
  at_second h = cond-false _ _ _ (le-ltb i (length a.sectors) h)

  second_by : (t : Bool) → (a.size == b.size) ≡ t → i < min (length a.sectors + cond t (length b.sectors) 0) 4294967295 → length a.sectors ≤ i → Second a b i
  second_by true e h p = record { same = eqb-true _ _ e; below = omega arith }
  second_by false e h p = absurd (omega arith)

  pub in_second : i < join_count a b → length a.sectors ≤ i → Second a b i
  in_second h p = second_by (a.size == b.size) refl h p

pub join_sounds : (a b : DeviceMeaning) → Sound a → Sound b → Sound (join_of a b)
join_sounds a b s t =
    sound_of a.size (join_count a b) (join_sector a b) s.some s.most (omega arith)
    (λ i h.
    ⊎_elim
    (λ (p : i < length a.sectors). subst (SectorFits a.size) (sym (at_first a b i p)) (fits_shown a.size (sector_at a i) (s.whole i p)))
    (λ (p : length a.sectors ≤ i).
    let q = in_second a b i h p in
    let w : SectorFits a.size (sector_at b (i - length a.sectors)) = subst (λ n. SectorFits n (sector_at b (i - length a.sectors))) (sym q.same) (t.whole (i - length a.sectors) q.below) in
    subst (SectorFits a.size) (sym (at_second a b i p)) (fits_shown a.size (sector_at b (i - length a.sectors)) w))
    (cases_lt i (length a.sectors)))
