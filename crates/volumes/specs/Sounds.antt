-- A volume on a sound device is sound.
use Rattle.std.specs.Prelude.{◌≡◌, ℕ, ◌^◌, ◌<◌, Bool, true, false, cond, List, length, Some, None, Option, nat_lt, refl}
use Rattle.std.proofs.Common.{◌∙◌, arith}
use Rattle.devices.specs.declared.fault.Fault.{Fault}
use Rattle.devices.specs.declared.fault.Reason.TheVariants.{WrongLength, Closed as IsClosed}
use Rattle.devices.specs.Faults.{own}
use Rattle.devices.specs.Device.{Sector, live, faulty, sector_at, SectorFits, Sound}
use Rattle.devices.proofs.Sectors.{sound_of}
use Rattle.modes.specs.Mode.{ModeKind, Keyed, Fitting}
use Rattle.modes.proofs.Total.{length_deciphering}
use Rattle.volumes.specs.declared.phase.Phase.{Phase}
use Rattle.volumes.specs.declared.phase.Phase.TheVariants.{Closed, Open, Sweeping}
use Rattle.volumes.specs.Volume.{VolumeModel, takes, deciphered_by, is_closed, serving_in, serving, opened, volume_sector, volume_of}

module _ (k : ModeKind) (v : VolumeModel) (current : Fitting k v.current) (next : Fitting k v.next) where
  by_test : (b : Bool) → Fitting k (cond b v.next v.current)
  by_test true = next
  by_test false = current

  by_phase : (p : Phase) (i : ℕ) → Fitting k (serving_in p v.current v.next i)
  by_phase Closed i = current
  by_phase Open i = current
  by_phase (Sweeping mark) i = by_test (nat_lt i mark)

  -- what the mode that serves a sector holds fits
  pub serving_fits : (i : ℕ) → Fitting k (serving v i)
  serving_fits i = by_phase v.phase i

length_deciphered : (k : ModeKind) (s : Option Keyed) → Fitting k s → (i : ℕ) → i < 2 ^ 32 → (bytes : List ℕ) → length (deciphered_by k s i bytes) ≡ length bytes
length_deciphered k None fit i low bytes = refl
length_deciphered k (Some s) fit i low bytes = length_deciphering k s fit i low bytes

fits_opened : (k : ModeKind) (s : Option Keyed) → Fitting k s → (i : ℕ) → i < 2 ^ 32 → (size : ℕ) (x : Sector) → SectorFits size x → SectorFits size (opened k s i x)
fits_opened k s fit i low size (live bytes) h = length_deciphered k s fit i low bytes ∙ h
fits_opened k s fit i low size (faulty f) h = tt

fits_shown : (shut ready : Bool) (f g : Fault) (size : ℕ) (x : Sector) → SectorFits size x → SectorFits size (cond shut (faulty f) (cond ready x (faulty g)))
fits_shown true ready f g size x h = tt
fits_shown false true f g size x h = h
fits_shown false false f g size x h = tt

pub volume_sounds : (k : ModeKind) (v : VolumeModel) → Fitting k v.current → Fitting k v.next → Sound v.device → Sound (volume_of k v)
volume_sounds k v current next s =
    sound_of v.device.size (length v.device.sectors) (volume_sector k v) s.some s.most s.countable
    (λ i h.
    fits_shown (is_closed v.phase) (takes (serving v i) v.device.size) (own IsClosed i) (own WrongLength i) v.device.size (opened k (serving v i) i (sector_at v.device i))
    (fits_opened k (serving v i) (serving_fits k v current next i) i (omega (arith, s.countable)) v.device.size (sector_at v.device i) (s.whole i h)))
