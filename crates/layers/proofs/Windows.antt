-- What a window passes on to the device below it.
use Rattle.std.proofs.Common.{◌≡◌, ℕ, ◌+◌, ◌-◌, ◌<◌, min, List, [], length, refl, ap, ◌∙◌, arith}
use Rattle.std.proofs.lemmas.List.{length-set, get_or-set_same, get_or-set_other}
use Rattle.devices.specs.Device.{DeviceMeaning, live, shown, written, device_of}
use Rattle.devices.proofs.Sectors.{sectors_counted, sector_of, written_of}
use Rattle.devices.proofs.Passes.{Shows}
use Rattle.layers.specs.Window.{window_count, window_sector, window_of}

module _ (start wanted : ℕ) (m : DeviceMeaning) where
  pub count_is : length (window_of start wanted m).sectors ≡ window_count start wanted m
  count_is = sectors_counted m.size (window_count start wanted m) (window_sector start m)

  module _ (i : ℕ) (h : i < length (window_of start wanted m).sectors) where
    pub shows : Shows (window_of start wanted m) m i (start + i)
    shows = record {
      size = refl;
      below = omega (arith, count_is);
      sector = sector_of m.size (window_count start wanted m) (window_sector start m) i (omega (arith, count_is));
    }

    pub writes : (buffer : List ℕ) → window_of start wanted (written m (start + i) buffer) ≡ written (window_of start wanted m) i buffer
    writes buffer =
        ap (λ n. device_of m.size (min wanted (n - start)) (window_sector start (written m (start + i) buffer))) (length-set m.sectors (start + i) (live buffer))
        ∙ written_of m.size (window_count start wanted m) (window_sector start m) (window_sector start (written m (start + i) buffer)) i buffer (omega (arith, count_is))
        (ap shown (get_or-set_same m.sectors (start + i) (live buffer) (live []) shows.below))
        (λ j ne. ap shown (get_or-set_other m.sectors (start + i) (start + j) (live buffer) (live []) (λ e. ne (omega arith))))
