-- A fault list over a sound device is sound.
use Rattle.std.specs.Prelude.{ℕ, List, length}
use Rattle.std.proofs.lemmas.Bool.{cond_both}
use Rattle.devices.specs.Device.{DeviceMeaning, sector_at, SectorFits, Sound}
use Rattle.devices.proofs.Sectors.{fits_shown, sound_of}
use Rattle.fault_lists.specs.Held.{is_held}
use Rattle.fault_lists.specs.FaultList.{list_sector, fault_list_of}

pub sounds : (held : List ℕ) (m : DeviceMeaning) → Sound m → Sound (fault_list_of held m)
sounds held m s =
    sound_of m.size (length m.sectors) (list_sector held m) s.some s.most s.countable
    (λ i h. cond_both (is_held held i) _ _ (SectorFits m.size) (λ _. tt) (λ _. fits_shown m.size (sector_at m i) (s.whole i h)))
