-- The rules follow from what calls are defined to do.
use Rattle.std.proofs.Common.{◌≡◌, ℕ, zero, suc, ◌+◌, ◌≤◌, min, List, [], length, Ok, Err, sym, refl, ap, ◌∙◌, ⊎_elim, arith}
use Rattle.std.proofs.lemmas.List.{length-set, get_or-set_same, get_or-set_other}
use Rattle.std.proofs.lemmas.Bool.{cases_eq, cond-true, cond-false, lt-ltb, le-ltb, ne_eqb}
use Rattle.devices.specs.declared.fault.Fault.{Fault}
use Rattle.devices.specs.Faults.{Answer, checked}
use Rattle.devices.specs.Device.{DeviceMeaning, live, faulty, sector_at, standing, bytes_of, answer, written_if, after_write}
use Rattle.devices.specs.Rules.{CallRules, passed_through, Rules}
use Rattle.devices.proofs.Answers.{allowed, refused, stands, read_refused, write_refused, read_accepted, write_accepted}

-- a write, whatever it was answered
module _ (m : DeviceMeaning) (s : ℕ) (buffer : List ℕ) where
  keeps_size : (a : Answer) → (written_if a m s buffer).size ≡ m.size
  keeps_size (Ok u) = refl
  keeps_size (Err f) = refl

  keeps_count : (a : Answer) → length (written_if a m s buffer).sectors ≡ length m.sectors
  keeps_count (Ok u) = length-set m.sectors s (live buffer)
  keeps_count (Err f) = refl

  keeps_others : (a : Answer) (i : ℕ) → (i ≡ s → ⊥) → sector_at (written_if a m s buffer) i ≡ sector_at m i
  keeps_others (Ok u) i ne = get_or-set_other m.sectors s i (live buffer) (live []) ne
  keeps_others (Err f) i ne = refl

  -- a faulty sector is not written
  faulty_stays : (f : Fault) → sector_at m s ≡ faulty f → (a : Answer) → a ≡ checked (length m.sectors) m.size s (length buffer) → m ≡ after_write m s buffer
  faulty_stays f e (Ok u) h = write_refused m s buffer f (ap standing (sym e) ∙ stands m s (length buffer) h)
  faulty_stays f e (Err g) h = write_refused m s buffer g (refused m s (length buffer) g h)

  keeps_faults : (i : ℕ) (f : Fault) → sector_at m i ≡ faulty f → sector_at (after_write m s buffer) i ≡ faulty f
  keeps_faults i f e =
      ⊎_elim
      (λ (q : i ≡ s). ap (λ (d : DeviceMeaning). sector_at d i) (sym (faulty_stays f (ap (sector_at m) (sym q) ∙ e) (checked (length m.sectors) m.size s (length buffer)) refl)) ∙ e)
      (λ (ne : i ≡ s → ⊥). keeps_others (answer m s (length buffer)) i ne ∙ e)
      (cases_eq i s)

  call_rules : CallRules m s buffer
  call_rules = record {
    past = λ h. sym (refused m s (length buffer) _ (sym (cond-false _ _ _ (le-ltb s (length m.sectors) h))));
    misfit = λ h ne. sym (refused m s (length buffer) _ (sym (cond-true _ _ _ (lt-ltb s (length m.sectors) h) ∙ cond-false _ _ _ (ne_eqb (length buffer) m.size ne))));
    stands = λ h e f x. sym (stands m s (length buffer) (allowed _ _ s (length buffer) h e)) ∙ ap standing x;
    serves = λ h e bytes x. sym (stands m s (length buffer) (allowed _ _ s (length buffer) h e)) ∙ ap standing x;
    buffer_stays = λ f e. sym (read_refused m s buffer f (sym e));
    device_stays = λ f e. sym (write_refused m s buffer f (sym e));
    reads = λ bytes x e. sym (read_accepted m s buffer (sym e)) ∙ ap bytes_of x;
    writes = λ h e. ap (λ (d : DeviceMeaning). sector_at d s) (sym (write_accepted m s buffer (sym e))) ∙ get_or-set_same m.sectors s (live buffer) (live []) h;
    others = keeps_others (answer m s (length buffer));
    faults = keeps_faults;
    size = keeps_size (answer m s (length buffer));
    count = keeps_count (answer m s (length buffer));
  }

depth_is : (layers : ℕ) (f : Fault) → f.depth ≤ 255 → (passed_through layers f).depth ≡ min 255 (f.depth + layers)
unfolding passed_through
depth_is zero f h = omega arith
depth_is (suc layers) f h = ap (λ d. min 255 (d + 1)) (depth_is layers f h) ∙ omega arith

reason_is : (layers : ℕ) (f : Fault) → (passed_through layers f).reason ≡ f.reason
unfolding passed_through
reason_is zero f = refl
reason_is (suc layers) f = reason_is layers f

sector_is : (layers : ℕ) (f : Fault) → (passed_through layers f).sector ≡ f.sector
unfolding passed_through
sector_is zero f = refl
sector_is (suc layers) f = sector_is layers f

pub rules : Rules
rules = record { calls = call_rules; depth = depth_is; reason = reason_is; sector = sector_is }
