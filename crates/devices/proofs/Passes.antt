-- A layer that passes a call on to the device below it.
use Rattle.std.proofs.Common.{◌≡◌, ℕ, ◌<◌, List, length, Ok, sym, refl, ap, ◌∙◌}
use Rattle.devices.specs.Faults.{Answer, checked, passed_up, by_answer}
use Rattle.devices.specs.Device.{DeviceMeaning, Sector, live, faulty, sector_at, shown, standing, bytes_of, answer, written, written_if, after_read, after_write}
use Rattle.devices.proofs.Answers.{allows, allowed, stands}

-- sector i of the layer l shows sector j of the device m
pub record Shows (l m : DeviceMeaning) (i j : ℕ) : Type 0 where
  pub size : l.size ≡ m.size
  pub below : j < length m.sectors
  pub sector : sector_at l i ≡ shown (sector_at m j)

standing_shown : (x : Sector) → passed_up (standing x) ≡ standing (shown x)
standing_shown (live bytes) = refl
standing_shown (faulty f) = refl

by_shown : {X : Type 0} (x : Sector) (accepted refused : X) → by_answer (standing x) accepted refused ≡ by_answer (standing (shown x)) accepted refused
by_shown (live bytes) accepted refused = refl
by_shown (faulty f) accepted refused = refl

read_shown : (x : Sector) (buffer : List ℕ) → by_answer (standing x) (bytes_of x) buffer ≡ by_answer (standing (shown x)) (bytes_of (shown x)) buffer
read_shown (live bytes) buffer = refl
read_shown (faulty f) buffer = refl

write_shown : (x : Sector) (layer : DeviceMeaning → DeviceMeaning) (m m' l' : DeviceMeaning) → layer m' ≡ l' → layer (by_answer (standing x) m' m) ≡ by_answer (standing (shown x)) l' (layer m)
write_shown (live bytes) layer m m' l' w = w
write_shown (faulty f) layer m m' l' w = refl

module _ (l m : DeviceMeaning) (i j : ℕ) (s : Shows l m i j) where
  module _ (len : ℕ) (ok : Ok tt ≡ checked (length l.sectors) l.size i len) where
    passes : standing (sector_at m j) ≡ answer m j len
    passes = stands m j len (allowed (length m.sectors) m.size j len s.below ((allows _ _ i len ok).fits ∙ s.size))

    pub answer_passed : passed_up (answer m j len) ≡ answer l i len
    answer_passed = ap passed_up (sym passes) ∙ standing_shown (sector_at m j) ∙ ap standing (sym s.sector) ∙ stands l i len ok

  pub read_passed : (buffer : List ℕ) → Ok tt ≡ checked (length l.sectors) l.size i (length buffer) → after_read m j buffer ≡ after_read l i buffer
  read_passed buffer ok =
      ap (λ (a : Answer). by_answer a (bytes_of (sector_at m j)) buffer) (sym (passes (length buffer) ok))
      ∙ read_shown (sector_at m j) buffer
      ∙ ap (λ (x : Sector). by_answer (standing x) (bytes_of x) buffer) (sym s.sector)
      ∙ ap (λ (a : Answer). by_answer a (bytes_of (sector_at l i)) buffer) (stands l i (length buffer) ok)

  -- the device below has the bytes where the layer accepts them
  pub below_written : (buffer : List ℕ) → Ok tt ≡ checked (length l.sectors) l.size i (length buffer) → after_write m j buffer ≡ written_if (answer l i (length buffer)) m j buffer
  below_written buffer ok =
      ap (λ (a : Answer). written_if a m j buffer) (sym (passes (length buffer) ok))
      ∙ by_shown (sector_at m j) (written m j buffer) m
      ∙ ap (λ (a : Answer). written_if a m j buffer) (ap standing (sym s.sector) ∙ stands l i (length buffer) ok)

-- the same, for a layer that is a function of the device below it
module _ (layer : DeviceMeaning → DeviceMeaning) (m : DeviceMeaning) (i j : ℕ) (s : Shows (layer m) m i j) where
  pub write_passed : (buffer : List ℕ) → Ok tt ≡ checked (length (layer m).sectors) (layer m).size i (length buffer) → layer (written m j buffer) ≡ written (layer m) i buffer → layer (after_write m j buffer) ≡ after_write (layer m) i buffer
  write_passed buffer ok w =
      ap (λ (a : Answer). layer (by_answer a (written m j buffer) m)) (sym (passes (layer m) m i j s (length buffer) ok))
      ∙ write_shown (sector_at m j) layer m (written m j buffer) (written (layer m) i buffer) w
      ∙ ap (λ (x : Sector). by_answer (standing x) (written (layer m) i buffer) (layer m)) (sym s.sector)
      ∙ ap (λ (a : Answer). by_answer a (written (layer m) i buffer) (layer m)) (stands (layer m) i (length buffer) ok)
