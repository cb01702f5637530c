-- What a read and a write of an image come to.
use Rattle.std.proofs.Common.{◌≡◌, ℕ, ◌+◌, ◌-◌, ◌*◌, ◌/◌, ◌<◌, ◌≤◌, min, List, ◌++◌, length, take, drop, Ok, Err, Result, sym, ap, ◌∙◌, ⊎_elim, append_assoc, mul-le-mul_right, suc-mul, arith}
use borrow.Rule.Slice.PartMut.{put_mid}
use Rattle.std.proofs.lemmas.List.{drop-take, drop-drop}
use Rattle.std.proofs.lemmas.Slice.{take-put_mid_below, drop-put_mid, between-put_mid}
use Rattle.std.proofs.lemmas.Bool.{cases_order, cases_lt}
use Rattle.std.specs.Result.{OkIff, result_unwrap_or}
use Rattle.devices.specs.Faults.{Answer, checked, by_answer}
use Rattle.devices.specs.Device.{live, sector_at, standing, bytes_of, answer, after_read, after_write, device_of}
use Rattle.devices.proofs.Answers.{allows, stands, read_accepted, write_accepted}
use Rattle.devices.proofs.Sectors.{sectors_counted, sector_of, written_of}
use Rattle.images.specs.Image.{count_of, slice, cut, placed}
use Rattle.images.specs.Sounds.{inside}

-- a number cut at the greatest of 32 bits
pub capped : {E : Type 0} (r : Result ℕ E) (n : ℕ) → OkIff r (n < 4294967296) n → result_unwrap_or r 4294967295 ≡ min n 4294967295
capped (Ok m) n h = omega (arith, h.0, h.1)
capped (Err e) n h = ⊎_elim (λ (lt : n < 4294967296). absurd (h lt)) (λ (le : 4294967296 ≤ n). omega arith) (cases_lt n 4294967296)

module _ (size : ℕ) (bytes : List ℕ) where
  pub count_is : length (cut size bytes).sectors ≡ count_of size bytes
  count_is = sectors_counted size (count_of size bytes) (λ i. live (slice size bytes i))

  module _ (i len : ℕ) (ok : Ok tt ≡ checked (length (cut size bytes).sectors) size i len) where
    pub below : i < count_of size bytes
    below = omega (arith, (allows _ _ i len ok).below, count_is)

    pub fits : len ≡ size
    fits = (allows _ _ i len ok).fits

    sector_is : sector_at (cut size bytes) i ≡ live (slice size bytes i)
    sector_is = sector_of size (count_of size bytes) (λ j. live (slice size bytes j)) i below

    pub accepted : Ok tt ≡ answer (cut size bytes) i len
    accepted = ap standing (sym sector_is) ∙ stands (cut size bytes) i len ok

  module _ (i : ℕ) (buffer : List ℕ) (ok : Ok tt ≡ checked (length (cut size bytes).sectors) size i (length buffer)) where
    pub reads : slice size bytes i ≡ after_read (cut size bytes) i buffer
    reads = ap bytes_of (sym (sector_is i (length buffer) ok)) ∙ read_accepted (cut size bytes) i buffer (accepted i (length buffer) ok)

    -- what stands at a sector after the write
    room : i * size + size ≤ length bytes
    room = inside size bytes i (below i (length buffer) ok)

    others : (j : ℕ) → (j ≡ i → ⊥) → slice size (put_mid (i * size) size bytes buffer) j ≡ slice size bytes j
    others j ne =
        let r = room in
        let f = fits i (length buffer) ok in
        ⊎_elim
        (λ (e : j ≡ i). absurd (ne e))
        (⊎_elim
        (λ (lt : j < i).
        let p : j * size + size ≤ i * size = omega (arith, suc-mul j size, mul-le-mul_right size lt) in
        sym (drop-take (j * size) size (put_mid (i * size) size bytes buffer))
        ∙ ap (drop (j * size)) (take-put_mid_below (i * size) size bytes buffer (j * size + size) p (omega arith))
        ∙ drop-take (j * size) size bytes)
        (λ (gt : i < j).
        let p : i * size + size ≤ j * size = omega (arith, suc-mul i size, mul-le-mul_right size gt) in
        ap (take size) (drop-put_mid (i * size) size bytes buffer (j * size) (omega arith) (omega arith) f)))
        (cases_order j i)

    here : slice size (put_mid (i * size) size bytes buffer) i ≡ buffer
    here =
        let r = room in
        let f = fits i (length buffer) ok in
        let d : i * size + size - i * size ≡ size = omega arith in
        ap (λ n. take n (drop (i * size) (put_mid (i * size) size bytes buffer))) (sym d)
        ∙ between-put_mid (i * size) size bytes buffer (i * size + size) (omega arith) (f ∙ sym d)

    module _ (after : List ℕ) (same : length after ≡ length bytes) (is : after ≡ put_mid (i * size) size bytes buffer) where
      pub writes : cut size after ≡ after_write (cut size bytes) i buffer
      writes =
          ap (λ n. device_of size (min (n / size) 4294967295) (λ j. live (slice size after j))) same
          ∙ ap (λ (u : List ℕ). device_of size (count_of size bytes) (λ j. live (slice size u j))) is
          ∙ written_of size (count_of size bytes) (λ j. live (slice size bytes j)) (λ j. live (slice size (put_mid (i * size) size bytes buffer) j)) i buffer (below i (length buffer) ok)
          (ap live here) (λ j ne. ap live (others j ne))
          ∙ write_accepted (cut size bytes) i buffer (accepted i (length buffer) ok)

      pub stores : after ≡ by_answer (answer (cut size bytes) i (length buffer)) (placed size bytes i buffer) bytes
      stores =
          is
          ∙ ap (λ (u : List ℕ). take (i * size) bytes ++ (buffer ++ u)) (drop-drop size (i * size) bytes)
          ∙ sym (append_assoc (take (i * size) bytes) buffer (drop (i * size + size) bytes))
          ∙ ap (λ (a : Answer). by_answer a (placed size bytes i buffer) bytes) (accepted i (length buffer) ok)
