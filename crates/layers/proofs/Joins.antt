-- What a join passes on to the devices below it.
use Rattle.std.proofs.Common.{◌≡◌, ℕ, ◌+◌, ◌-◌, ◌<◌, ◌≤◌, min, cond, eqb, ltb, List, [], length, sym, refl, ap, ◌∙◌, ⊎_elim, arith}
use Rattle.std.proofs.lemmas.List.{length-set, get_or-set_same, get_or-set_other}
use Rattle.std.proofs.lemmas.Bool.{cases_lt, cond-true, cond-false, lt-ltb, eq-eqb, ne_eqb}
use Rattle.devices.specs.Device.{DeviceMeaning, Sector, live, sector_at, shown, written, device_of}
use Rattle.devices.proofs.Sectors.{sectors_counted, sector_of, written_of}
use Rattle.devices.proofs.Passes.{Shows}
use Rattle.layers.specs.Join.{added, join_count, join_sector, join_of}
use Rattle.layers.specs.Sounds.{at_first, at_second, in_second}

module _ (a b : DeviceMeaning) where
  pub count_is : length (join_of a b).sectors ≡ join_count a b
  count_is = sectors_counted a.size (join_count a b) (join_sector a b)

  pub count_same : a.size ≡ b.size → min 4294967295 (length a.sectors + length b.sectors) ≡ length (join_of a b).sectors
  count_same e = let q : added a b ≡ length b.sectors = cond-true _ _ _ (eq-eqb a.size b.size e) in omega (arith, count_is)

  pub count_apart : (a.size ≡ b.size → ⊥) → length a.sectors < 4294967296 → length a.sectors ≡ length (join_of a b).sectors
  count_apart ne most = let q : added a b ≡ 0 = cond-false _ _ _ (ne_eqb a.size b.size ne) in omega (arith, count_is)

  module _ (i : ℕ) (h : i < length (join_of a b).sectors) where
    inside : i < join_count a b
    inside = omega (arith, count_is)

    sector_is : sector_at (join_of a b) i ≡ join_sector a b i
    sector_is = sector_of a.size (join_count a b) (join_sector a b) i inside

    module _ (p : i < length a.sectors) where
      pub shows_first : Shows (join_of a b) a i i
      shows_first = record { size = refl; below = p; sector = sector_is ∙ at_first a b i p }

      pub writes_first : (buffer : List ℕ) → join_of (written a i buffer) b ≡ written (join_of a b) i buffer
      writes_first buffer =
          let n = length a.sectors in
          let new = written a i buffer in
          ap (λ k. device_of a.size (min (k + added a b) 4294967295) (λ j. cond (ltb j k) (shown (sector_at new j)) (shown (sector_at b (j - k))))) (length-set a.sectors i (live buffer))
          ∙ written_of a.size (join_count a b) (join_sector a b) (λ j. cond (ltb j n) (shown (sector_at new j)) (shown (sector_at b (j - n)))) i buffer inside
          (cond-true _ _ _ (lt-ltb i n p) ∙ ap shown (get_or-set_same a.sectors i (live buffer) (live []) p))
          (λ j ne. ap (λ (x : Sector). cond (ltb j n) x (shown (sector_at b (j - n)))) (ap shown (get_or-set_other a.sectors i j (live buffer) (live []) ne)))

    module _ (p : length a.sectors ≤ i) where
      pub shows_second : Shows (join_of a b) b i (i - length a.sectors)
      shows_second =
          let s = in_second a b i inside p in
          record { size = s.same; below = s.below; sector = sector_is ∙ at_second a b i p }

      pub writes_second : (buffer : List ℕ) → join_of a (written b (i - length a.sectors) buffer) ≡ written (join_of a b) i buffer
      writes_second buffer =
          let n = length a.sectors in
          let new = written b (i - length a.sectors) buffer in
          ap (λ k. device_of a.size (min (n + cond (eqb a.size b.size) k 0) 4294967295) (join_sector a new)) (length-set b.sectors (i - n) (live buffer))
          ∙ written_of a.size (join_count a b) (join_sector a b) (join_sector a new) i buffer inside
          (at_second a new i p ∙ ap shown (get_or-set_same b.sectors (i - n) (live buffer) (live []) (in_second a b i inside p).below))
          (λ j ne.
          ⊎_elim
          (λ (q : j < n). at_first a new j q ∙ sym (at_first a b j q))
          (λ (q : n ≤ j). at_second a new j q ∙ ap shown (get_or-set_other b.sectors (i - n) (j - n) (live buffer) (live []) (λ e. ne (omega arith))) ∙ sym (at_second a b j q))
          (cases_lt j n))
