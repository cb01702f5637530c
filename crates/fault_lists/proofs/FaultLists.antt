-- What a fault list refuses itself, and what it passes on to the device below it.
use Rattle.std.proofs.Common.{◌≡◌, ℕ, ◌<◌, Bool, true, false, cond, List, [], length, Ok, Err, sym, refl, ap, ◌∙◌, arith}
use Rattle.std.proofs.lemmas.List.{length-set, get_or-set_same, get_or-set_other}
use Rattle.std.proofs.lemmas.Bool.{cond-true, cond-false}
use Rattle.devices.specs.declared.fault.Fault.{Fault}
use Rattle.devices.specs.declared.fault.Reason.TheVariants.{Listed}
use Rattle.devices.specs.Faults.{Answer, own, checked}
use Rattle.devices.specs.Device.{DeviceMeaning, Sector, live, faulty, sector_at, shown, standing, answer, written, device_of}
use Rattle.devices.proofs.Answers.{allows, stands}
use Rattle.devices.proofs.Sectors.{sectors_counted, sector_of, written_of}
use Rattle.devices.proofs.Passes.{Shows}
use Rattle.fault_lists.specs.Held.{is_held, listed_check}
use Rattle.fault_lists.specs.FaultList.{list_sector, fault_list_of}

check_fails : (held : Bool) (f g : Fault) → ◌≡◌ {A = Answer} (Err f) (cond held (Err g) (Ok tt)) → (held ≡ true) × (f ≡ g)
check_fails true f g e = (refl, cc)
check_fails false f g e = let z : ◌≡◌ {A = ℕ} 0 1 = cc in absurd (omega arith)

check_passes : (held : Bool) (g : Fault) → ◌≡◌ {A = Answer} (Ok tt) (cond held (Err g) (Ok tt)) → held ≡ false
check_passes true g e = let z : ◌≡◌ {A = ℕ} 0 1 = cc in absurd (omega arith)
check_passes false g e = refl

module _ (held : List ℕ) (m : DeviceMeaning) where
  pub count_is : length (fault_list_of held m).sectors ≡ length m.sectors
  count_is = sectors_counted m.size (length m.sectors) (list_sector held m)

  module _ (i len : ℕ) (ok : Ok tt ≡ checked (length (fault_list_of held m).sectors) m.size i len) where
    below : i < length m.sectors
    below = omega (arith, (allows _ _ i len ok).below, count_is)

    sector_is : sector_at (fault_list_of held m) i ≡ list_sector held m i
    sector_is = sector_of m.size (length m.sectors) (list_sector held m) i below

    -- the list's own fault
    pub refuses : (f : Fault) → Err f ≡ listed_check held i → Err f ≡ answer (fault_list_of held m) i len
    refuses f e =
        let p = check_fails (is_held held i) f (own Listed i) e in
        ap Err p.1 ∙ ap standing (sym (sector_is ∙ cond-true _ _ _ p.0)) ∙ stands (fault_list_of held m) i len ok

    module _ (free : Ok tt ≡ listed_check held i) where
      pub shows : Shows (fault_list_of held m) m i i
      shows = record { size = refl; below = below; sector = sector_is ∙ cond-false _ _ _ (check_passes (is_held held i) (own Listed i) free) }

      pub writes : (buffer : List ℕ) → fault_list_of held (written m i buffer) ≡ written (fault_list_of held m) i buffer
      writes buffer =
          ap (λ n. device_of m.size n (list_sector held (written m i buffer))) (length-set m.sectors i (live buffer))
          ∙ written_of m.size (length m.sectors) (list_sector held m) (list_sector held (written m i buffer)) i buffer below
          (cond-false _ _ _ (check_passes (is_held held i) (own Listed i) free) ∙ ap shown (get_or-set_same m.sectors i (live buffer) (live []) below))
          (λ j ne. ap (λ (x : Sector). cond (is_held held j) (faulty (own Listed j)) (shown x)) (get_or-set_other m.sectors i j (live buffer) (live []) ne))
