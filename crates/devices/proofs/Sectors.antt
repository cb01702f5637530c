-- Devices whose sectors are made by a function of their number.
use Rattle.std.proofs.Common.{◌≡◌, ℕ, ◌^◌, ◌<◌, ◌≤◌, List, [], map, length, get_or, set, sym, ap, ◌∙◌, subst, ⊎_elim, arith}
use Rattle.std.specs.List.{range_with_len}
use Rattle.std.proofs.lemmas.List.{length-set, get_or-set_same, get_or-set_other, ext_get_or}
use Rattle.std.proofs.lemmas.List.FromFn.{length-map-range_with_len, get_or-map-range_with_len}
use Rattle.std.proofs.lemmas.Bool.{cases_eq}
use Rattle.devices.specs.Device.{Sector, live, faulty, sector_at, shown, SectorFits, Sound, written, device_of}

-- a sector shown by a layer is as whole as it was
pub fits_shown : (size : ℕ) (x : Sector) → SectorFits size x → SectorFits size (shown x)
fits_shown size (live bytes) h = h
fits_shown size (faulty f) h = tt

module _ (size count : ℕ) (f : ℕ → Sector) where
  pub sectors_counted : length (device_of size count f).sectors ≡ count
  sectors_counted = length-map-range_with_len f 0 count

  pub sector_of : (i : ℕ) → i < count → sector_at (device_of size count f) i ≡ f i
  sector_of i h = get_or-map-range_with_len f 0 count i i (live []) h (omega arith)

  pub sound_of : 1 ≤ size → size ≤ 4096 → count < 2 ^ 32 → ((i : ℕ) → i < count → SectorFits size (f i)) → Sound (device_of size count f)
  sound_of a b c w = record {
    some = a;
    most = b;
    countable = omega (arith, sectors_counted);
    whole = λ i h.
        let j : i < count = omega (arith, sectors_counted) in
        subst (SectorFits size) (sym (sector_of i j)) (w i j);
  }

  -- a write to one sector is another function of the number
  pub written_of : (h : ℕ → Sector) (i : ℕ) (bytes : List ℕ) → i < count → h i ≡ live bytes → ((j : ℕ) → (j ≡ i → ⊥) → h j ≡ f j) → device_of size count h ≡ written (device_of size count f) i bytes
  written_of h i bytes below here there =
      ap (λ (xs : List Sector). record { size = size; sectors = xs })
      (ext_get_or (live []) (map h (range_with_len 0 count)) (set (map f (range_with_len 0 count)) i (live bytes))
      (length-map-range_with_len h 0 count ∙ sym (length-set (map f (range_with_len 0 count)) i (live bytes) ∙ sectors_counted))
      (λ j b.
      let jn : j < count = omega (arith, length-map-range_with_len h 0 count) in
      get_or-map-range_with_len h 0 count j j (live []) jn (omega arith)
      ∙ ⊎_elim
      (λ (e : j ≡ i).
      let inside : i < length (map f (range_with_len 0 count)) = omega (arith, sectors_counted) in
      ap h e ∙ here ∙ sym (ap (λ k. get_or (set (map f (range_with_len 0 count)) i (live bytes)) k (live [])) e ∙ get_or-set_same (map f (range_with_len 0 count)) i (live bytes) (live []) inside))
      (λ (ne : j ≡ i → ⊥). there j ne ∙ sym (get_or-set_other (map f (range_with_len 0 count)) i j (live bytes) (live []) ne ∙ sector_of j jn))
      (cases_eq j i)))
