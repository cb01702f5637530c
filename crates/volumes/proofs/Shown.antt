-- What an open volume shows of the device below it.
use Rattle.std.proofs.Common.{◌≡◌, ℕ, ◌^◌, ◌<◌, Bool, true, false, cond, List, [], length, Some, None, Ok, Err, Option, sym, refl, ap, ◌∙◌, arith}
use Rattle.std.proofs.lemmas.List.{length-set, get_or-set_same, get_or-set_other}
use Rattle.devices.specs.declared.fault.Fault.{Fault}
use Rattle.devices.specs.declared.fault.Reason.TheVariants.{WrongLength, Closed as IsClosed}
use Rattle.devices.specs.Faults.{Answer, own, checked, passed_up, and_then, by_answer}
use Rattle.devices.specs.Device.{Sector, live, faulty, sector_at, standing, bytes_of, answer, written, after_read, after_write, device_of}
use Rattle.devices.proofs.Answers.{allows, allowed, stands}
use Rattle.devices.proofs.Sectors.{sectors_counted, sector_of, written_of}
use Rattle.modes.specs.Mode.{ModeKind, Keyed, Fitting}
use Rattle.modes.proofs.Total.{undone}
use Rattle.volumes.specs.Volume.{VolumeModel, takes, mode_check, enciphered_by, deciphered_by, is_closed, serving, open_check, opened, volume_sector, volume_of, with_device, after_write_to}

standing_by : (k : ModeKind) (s : Option Keyed) (i : ℕ) (x : Sector) (shut ready : Bool) (f g : Fault)
    → standing (cond shut (faulty f) (cond ready (opened k s i x) (faulty g))) ≡ and_then (cond shut (Err f) (Ok tt)) (and_then (cond ready (Ok tt) (Err g)) (passed_up (standing x)))
standing_by k s i x true ready f g = refl
standing_by k s i (live bytes) false true f g = refl
standing_by k s i (faulty e) false true f g = refl
standing_by k s i x false false f g = refl

bytes_by : (k : ModeKind) (s : Option Keyed) (i : ℕ) (x : Sector) (shut ready : Bool) (f g : Fault) (buffer : List ℕ)
    → by_answer (and_then (cond shut (Err f) (Ok tt)) (and_then (cond ready (Ok tt) (Err g)) (passed_up (standing x)))) (bytes_of (cond shut (faulty f) (cond ready (opened k s i x) (faulty g)))) buffer
    ≡ by_answer (and_then (cond shut (Err f) (Ok tt)) (and_then (cond ready (Ok tt) (Err g)) (passed_up (standing x)))) (deciphered_by k s i (bytes_of x)) buffer
bytes_by k s i x true ready f g buffer = refl
bytes_by k s i (live bytes) false true f g buffer = refl
bytes_by k s i (faulty e) false true f g buffer = refl
bytes_by k s i x false false f g buffer = refl

module _ (k : ModeKind) (v : VolumeModel) (i : ℕ) where
  pub count_is : length (volume_of k v).sectors ≡ length v.device.sectors
  count_is = sectors_counted v.device.size (length v.device.sectors) (volume_sector k v)

  -- the answers of the volume's own checks and of the sector below, one after the other
  abbrev pub in_turn : Answer
  in_turn = and_then (open_check v.phase i) (and_then (mode_check (serving v i) v.device.size i) (passed_up (standing (sector_at v.device i))))

  module _ (len : ℕ) (ok : Ok tt ≡ checked (length (volume_of k v).sectors) v.device.size i len) where
    pub below : i < length v.device.sectors
    below = omega (arith, count_is, (allows (length (volume_of k v).sectors) v.device.size i len ok).below)

    pub fits : len ≡ v.device.size
    fits = (allows (length (volume_of k v).sectors) v.device.size i len ok).fits

    pub sector_is : sector_at (volume_of k v) i ≡ volume_sector k v i
    sector_is = sector_of v.device.size (length v.device.sectors) (volume_sector k v) i below

    pub answer_is : answer (volume_of k v) i len ≡ in_turn
    answer_is =
        sym (stands (volume_of k v) i len ok) ∙ ap standing sector_is
        ∙ standing_by k (serving v i) i (sector_at v.device i) (is_closed v.phase) (takes (serving v i) v.device.size) (own IsClosed i) (own WrongLength i)

    -- the sector below answers by itself
    pub below_answers : standing (sector_at v.device i) ≡ answer v.device i len
    below_answers = stands v.device i len (allowed (length v.device.sectors) v.device.size i len below fits)

  pub read_is : (buffer : List ℕ) → Ok tt ≡ checked (length (volume_of k v).sectors) v.device.size i (length buffer) → after_read (volume_of k v) i buffer ≡ by_answer in_turn (deciphered_by k (serving v i) i (bytes_of (sector_at v.device i))) buffer
  read_is buffer ok =
      ap (λ (a : Answer). by_answer a (bytes_of (sector_at (volume_of k v) i)) buffer) (answer_is (length buffer) ok)
      ∙ ap (λ (x : Sector). by_answer in_turn (bytes_of x) buffer) (sector_is (length buffer) ok)
      ∙ bytes_by k (serving v i) i (sector_at v.device i) (is_closed v.phase) (takes (serving v i) v.device.size) (own IsClosed i) (own WrongLength i) buffer

  pub write_is : (buffer : List ℕ) → Ok tt ≡ checked (length (volume_of k v).sectors) v.device.size i (length buffer) → after_write_to k v i buffer ≡ by_answer in_turn (with_device v (written v.device i (enciphered_by k (serving v i) i buffer))) v
  write_is buffer ok = ap (λ (a : Answer). by_answer a (with_device v (written v.device i (enciphered_by k (serving v i) i buffer))) v) (answer_is (length buffer) ok)

  -- ---- which of the checks refuses

  pub refused_closed : (f : Fault) → Err f ≡ open_check v.phase i → Err f ≡ in_turn
  refused_closed f e = ap (λ (a : Answer). and_then a (and_then (mode_check (serving v i) v.device.size i) (passed_up (standing (sector_at v.device i))))) e

  module _ (open? : Ok tt ≡ open_check v.phase i) where
    turn : and_then (mode_check (serving v i) v.device.size i) (passed_up (standing (sector_at v.device i))) ≡ in_turn
    turn = ap (λ (a : Answer). and_then a (and_then (mode_check (serving v i) v.device.size i) (passed_up (standing (sector_at v.device i))))) open?

    pub refused_unready : (f : Fault) → Err f ≡ mode_check (serving v i) v.device.size i → Err f ≡ in_turn
    refused_unready f e = ap (λ (a : Answer). and_then a (passed_up (standing (sector_at v.device i)))) e ∙ turn

    pub told_below : Ok tt ≡ mode_check (serving v i) v.device.size i → passed_up (standing (sector_at v.device i)) ≡ in_turn
    told_below e = ap (λ (a : Answer). and_then a (passed_up (standing (sector_at v.device i)))) e ∙ turn

-- ---- the volume's sectors after a write

undone_at : (k : ModeKind) (s : Option Keyed) → Fitting k s → (i : ℕ) → i < 2 ^ 32 → (bytes : List ℕ) → deciphered_by k s i (enciphered_by k s i bytes) ≡ bytes
undone_at k None fit i low bytes = refl
undone_at k (Some s) fit i low bytes = undone k s fit i low bytes

shown_by : (k : ModeKind) (s : Option Keyed) (i : ℕ) (x y : Sector) (bytes : List ℕ) (shut ready : Bool) (f g : Fault) → opened k s i y ≡ live bytes
    → Ok tt ≡ and_then (cond shut (Err f) (Ok tt)) (and_then (cond ready (Ok tt) (Err g)) (passed_up (standing x))) → cond shut (faulty f) (cond ready (opened k s i y) (faulty g)) ≡ live bytes
shown_by k s i x y bytes true ready f g e h = let z : ◌≡◌ {A = ℕ} 0 1 = cc in absurd (omega arith)
shown_by k s i x y bytes false true f g e h = e
shown_by k s i x y bytes false false f g e h = let z : ◌≡◌ {A = ℕ} 0 1 = cc in absurd (omega arith)

module _ (k : ModeKind) (v : VolumeModel) (i : ℕ) (buffer : List ℕ) (fit : Fitting k (serving v i)) (low : i < 2 ^ 32) (ok : Ok tt ≡ checked (length (volume_of k v).sectors) v.device.size i (length buffer)) where
  rewritten : Ok tt ≡ in_turn k v i → volume_of k (with_device v (written v.device i (enciphered_by k (serving v i) i buffer))) ≡ written (volume_of k v) i buffer
  rewritten h =
      let n = length v.device.sectors in
      let x : Sector = live (enciphered_by k (serving v i) i buffer) in
      let v' : VolumeModel = with_device v (written v.device i (enciphered_by k (serving v i) i buffer)) in
      let here : opened k (serving v i) i (sector_at v'.device i) ≡ live buffer =
      ap (opened k (serving v i) i) (get_or-set_same v.device.sectors i x (live []) (below k v i (length buffer) ok)) ∙ ap live (undone_at k (serving v i) fit i low buffer) in
      ap (λ (c : ℕ). device_of v.device.size c (volume_sector k v')) (length-set v.device.sectors i x)
      ∙ written_of v.device.size n (volume_sector k v) (volume_sector k v') i buffer (below k v i (length buffer) ok)
      (shown_by k (serving v i) i (sector_at v.device i) (sector_at v'.device i) buffer (is_closed v.phase) (takes (serving v i) v.device.size) (own IsClosed i) (own WrongLength i) here h)
      (λ j ne.
      ap (λ (y : Sector). cond (is_closed v.phase) (faulty (own IsClosed j)) (cond (takes (serving v j) v.device.size) (opened k (serving v j) j y) (faulty (own WrongLength j))))
      (get_or-set_other v.device.sectors i j x (live []) ne))

  meaning_by : (a : Answer) → a ≡ in_turn k v i → volume_of k (by_answer a (with_device v (written v.device i (enciphered_by k (serving v i) i buffer))) v) ≡ by_answer a (written (volume_of k v) i buffer) (volume_of k v)
  meaning_by (Ok u) h = rewritten h
  meaning_by (Err f) h = refl

  pub write_meaning : volume_of k (after_write_to k v i buffer) ≡ after_write (volume_of k v) i buffer
  write_meaning = meaning_by (answer (volume_of k v) i (length buffer)) (answer_is k v i (length buffer) ok)

-- ---- a write that is passed on

pub unpassed : (a : Answer) → Ok tt ≡ passed_up a → Ok tt ≡ a
unpassed (Ok u) h = refl
unpassed (Err f) h = let z : ◌≡◌ {A = ℕ} 0 1 = cc in absurd (omega arith)

module _ (k : ModeKind) (v : VolumeModel) (i : ℕ) (buffer mid : List ℕ) (long : length mid ≡ length buffer) (is : mid ≡ enciphered_by k (serving v i) i buffer) where
  passed_by : (x : Sector) → with_device v (by_answer (standing x) (written v.device i mid) v.device) ≡ by_answer (passed_up (standing x)) (with_device v (written v.device i (enciphered_by k (serving v i) i buffer))) v
  passed_by (live bytes) = ap (λ (y : List ℕ). with_device v (written v.device i y)) is
  passed_by (faulty f) = refl

  pub passed_on : Ok tt ≡ checked (length (volume_of k v).sectors) v.device.size i (length buffer) → Ok tt ≡ open_check v.phase i → Ok tt ≡ mode_check (serving v i) v.device.size i
      → with_device v (after_write v.device i mid) ≡ after_write_to k v i buffer
  passed_on ok open? ready =
      ap (λ (a : Answer). with_device v (by_answer a (written v.device i mid) v.device)) (ap (answer v.device i) long ∙ sym (below_answers k v i (length buffer) ok))
      ∙ passed_by (sector_at v.device i)
      ∙ ap (λ (a : Answer). by_answer a (with_device v (written v.device i (enciphered_by k (serving v i) i buffer))) v) (told_below k v i open? ready)
      ∙ sym (write_is k v i buffer ok)
