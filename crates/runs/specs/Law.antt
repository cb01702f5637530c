-- The law of volumes: what is stored, what reads answer and what reports answer, by the calls and their answers alone.
use Rattle.std.specs.Prelude.{◌≡◌, ℕ, ◌<◌, true, List, [], ◌∷◌, ◌++◌, length, is_some, Some, None, Ok, Option}
use Rattle.devices.specs.Device.{DeviceMeaning, Sector, live, faulty, sector_at, Sound}
use Rattle.modes.specs.Mode.{ModeKind, Keyed}
use Rattle.modes.specs.Total.{enciphering}
use Rattle.volumes.specs.declared.phase.Phase.{Phase}
use Rattle.volumes.specs.Volume.{VolumeModel, fresh}
use Rattle.runs.specs.History.{reads, reports, History, deeds, open_key, key_for, phase_after, pair, bytes_in}
use Rattle.runs.specs.Runs.{Call, run, history}

-- sector i is the encipherment of these bytes under this key; there must be both
abbrev pub Enciphers : ModeKind → ℕ → ℕ → Option (List ℕ) → Option (List ℕ) → Sector → Type 0
Enciphers k size i (Some key) (Some bytes) x = x ≡ live (enciphering k (pair size key) i bytes)
Enciphers k size i (Some key) None x = ⊥
Enciphers k size i None bytes x = ⊥

-- sector i, once `old`, is now x: a live one is an encipherment, and one with a standing fault is as it was
abbrev pub StoredAs : ModeKind → ℕ → ℕ → Option (List ℕ) → Option (List ℕ) → Sector → Sector → Type 0
StoredAs k size i key bytes (live old) x = Enciphers k size i key bytes x
StoredAs k size i key bytes (faulty f) x = x ≡ faulty f

-- the law of a volume that was made round `made`, has had the calls of h since, and has the device `now` below it
pub record Upheld (k : ModeKind) (made : DeviceMeaning) (h : History) (now : DeviceMeaning) : Type 0 where
  -- the device keeps its size and its count
  pub size : now.size ≡ made.size
  pub count : length now.sectors ≡ length made.sectors
  -- once an open was accepted, each sector is stored as its bytes enciphered for its own number and under its own key
  pub stored : is_some (open_key (deeds h)) ≡ true → (i : ℕ) → i < length made.sectors
      → StoredAs k made.size i (key_for (length made.sectors) (deeds h) i) (bytes_in k made (deeds h) i) (sector_at made i) (sector_at now i)
  -- an accepted read answered its sector's bytes, as the calls before it have them
  pub read : (later before : History) (i len : ℕ) (bytes : List ℕ) → h ≡ later ++ (reads i len (Ok bytes) ∷ before) → Some bytes ≡ bytes_in k made (deeds before) i
  -- a report answered the phase that the calls before it have: during a sweep how many of its steps were accepted
  pub report : (later before : History) (p : Phase) → h ≡ later ++ (reports p ∷ before) → p ≡ phase_after (length made.sectors) (deeds before)

-- for every device, whatever the modes held when the volume was made, and every list of calls
abbrev pub VolumeLaw : ModeKind → Type 0
VolumeLaw k = (made : DeviceMeaning) → Sound made → (a b : Option Keyed) (calls : List Call) → Upheld k made (history k (fresh made a b) calls []) (run k (fresh made a b) calls).device

-- for a volume v that calls on a new one led to, whichever they were: the law goes on, with the events since then put before
-- theirs
abbrev pub UpheldOn : ModeKind → VolumeModel → (History → History) → DeviceMeaning → Type 0
UpheldOn k v since now =
    (made : DeviceMeaning) → Sound made → (a b : Option Keyed) (earlier : List Call) → v ≡ run k (fresh made a b) earlier → Upheld k made (since (history k (fresh made a b) earlier [])) now
