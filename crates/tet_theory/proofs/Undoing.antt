-- The two directions undo each other.
use Rattle.std.proofs.Common.{◌≡◌, ℕ, ◌/◌, ◌%◌, ◌<◌, Bool, true, false, cond, List, Some, None, Option, refl, ap, ◌∙◌, subst, arith}
use Rattle.std.proofs.lemmas.Bool.{and_parts}
use Rattle.rings.specs.Ring.{RingKind, size, times}
use Rattle.rings.specs.Rows.{row}
use Rattle.rings.specs.Sums.{sigma}
use Rattle.rings.proofs.Blending.{sigma_below, times_inverse}
use Rattle.ciphers.specs.Cipher.{CipherKind, fits}
use Rattle.passes.specs.Passes.{whitened}
use Rattle.passes.specs.Sector.{Sector}
use Rattle.passes.proofs.Parts.{tail_short, rowwise_row, rowwise_undone}
use Rattle.passes.proofs.Stages.{Sound, whitened_sound, whitened_back}
use Rattle.tet_theory.specs.Tet.{HashKey, blended, unblended, crypted, enciphered, deciphered, hash_with, size_fits, beta, first_key, second_key, key_fits, hash_for, on_rows, encipher, decipher}
use Rattle.tet_theory.proofs.Blends.{blended_sound, unblended_sound, unblended_blended, blended_unblended}
use Rattle.tet_theory.proofs.Lasts.{crypted_sound, crypted_back}

-- ---- on sectors: f is E or D, and B what blends or unblends

module _ (r : RingKind) (m t : ℕ) (β : ℕ) (f : ℕ → ℕ) (low : (x : ℕ) → x < size r → f x < size r) (B : Sector → Sector) (sound : (s : Sector) → Sound r m t s → Sound r m t (B s)) where
  abbrev between : Sector → Sector
  between s = whitened r β (crypted r f (whitened r β s))

  between_sound : (s : Sector) → Sound r m t s → Sound r m t (between (B s))
  between_sound s ok = whitened_sound r m t β _ (crypted_sound r f low m t _ (whitened_sound r m t β _ (sound s ok)))

  direction_sound : (s : Sector) → Sound r m t s → Sound r m t (B (between (B s)))
  direction_sound s ok = sound (between (B s)) (between_sound s ok)

  -- g undoes f, and A undoes B
  direction_undone : (g : ℕ → ℕ) → ((x : ℕ) → x < size r → g (f x) ≡ x) → (A : Sector → Sector) → ((s : Sector) → Sound r m t s → A (B s) ≡ s)
      → (s : Sector) → Sound r m t s → A (whitened r β (crypted r g (whitened r β (A (B (between (B s))))))) ≡ s
  direction_undone g undo A back s ok =
      let s2 = whitened r β (B s) in
      let o2 = whitened_sound r m t β (B s) (sound s ok) in
      ap (λ x. A (whitened r β (crypted r g (whitened r β x)))) (back (between (B s)) (between_sound s ok))
      ∙ ap (λ x. A (whitened r β (crypted r g x))) (whitened_back r β (crypted r f s2))
      ∙ ap (λ x. A (whitened r β x)) (crypted_back r f low g undo s2 o2.low)
      ∙ ap A (whitened_back r β (B s))
      ∙ back s ok

-- ---- what a hash key is

pub some_parts : {A : Type 0} (b : Bool) (o : Option A) (x : A) → cond b o None ≡ Some x → (b ≡ true) × (o ≡ Some x)
some_parts true o x e = (refl, e)
some_parts false o x e = let z : ◌≡◌ {A = ℕ} 0 1 = cc in absurd (omega arith)

record Hashed (r : RingKind) (m : ℕ) (h : HashKey) : Type 0 where
  sum : h.σ ≡ sigma r h.τ m
  inverse : times r h.σ h.«1/σ» ≡ 1

with_inverse : (r : RingKind) (τ m : ℕ) (o : Option ℕ) → r.inverse (sigma r τ m) ≡ o → (h : HashKey) → hash_with r τ (sigma r τ m) o ≡ Some h → Hashed r m h
with_inverse r τ m None e h is = let z : ◌≡◌ {A = ℕ} 0 1 = cc in absurd (omega arith)
with_inverse r τ m (Some ι) e h is =
    let same : record { τ = τ; σ = sigma r τ m; «1/σ» = ι } ≡ h = cc in
    subst (Hashed r m) same (record { sum = refl; inverse = times_inverse r (sigma r τ m) ι (sigma_below r τ m) e })

module _ (k : CipherKind) (key : List ℕ) (n : ℕ) (h : HashKey) (is : hash_for k key n ≡ Some h) where
  second_fits : fits k (second_key key) ≡ true
  second_fits = (and_parts (fits k (first_key key)) (fits k (second_key key)) (some_parts (key_fits k key) _ h is).0).1

  hashed : Hashed k.ring (n / k.ring.width) h
  hashed =
      let r = k.ring in
      let E = k.encipher (first_key key) in
      let τ = E (times r 2 (E 0)) in
      with_inverse r τ (n / r.width) (r.inverse (sigma r τ (n / r.width))) refl h (some_parts (size_fits r n) _ h (some_parts (key_fits k key) _ h is).1).1

-- ---- on rows of bytes

module _ (k : CipherKind) (n : ℕ) (f : HashKey → Sector → Sector) where
  rows_kept : (o : Option HashKey)
      → ((h : HashKey) → o ≡ Some h → (s : Sector) → Sound k.ring (n / k.ring.width) (n % k.ring.width) s → Sound k.ring (n / k.ring.width) (n % k.ring.width) (f h s))
      → (bs : List ℕ) → row n bs ≡ true → row n (on_rows k f o bs) ≡ true
  rows_kept None stays bs good = good
  rows_kept (Some h) stays bs good = rowwise_row k.ring n (f h) (stays h refl) bs good

  rows_undone : (g : HashKey → Sector → Sector) (o : Option HashKey)
      → ((h : HashKey) → o ≡ Some h → (s : Sector) → Sound k.ring (n / k.ring.width) (n % k.ring.width) s → Sound k.ring (n / k.ring.width) (n % k.ring.width) (f h s))
      → ((h : HashKey) → o ≡ Some h → (s : Sector) → Sound k.ring (n / k.ring.width) (n % k.ring.width) s → g h (f h s) ≡ s)
      → (bs : List ℕ) → row n bs ≡ true → on_rows k g o (on_rows k f o bs) ≡ bs
  rows_undone g None stays undo bs good = refl
  rows_undone g (Some h) stays undo bs good = rowwise_undone k.ring n (f h) (g h) (stays h refl) (undo h refl) bs good

module _ (k : CipherKind) (key : List ℕ) (n : ℕ) (tweak : List ℕ) where
  abbrev Whole : Sector → Type 0
  Whole s = Sound k.ring (n / k.ring.width) (n % k.ring.width) s

  abbrev β : ℕ
  β = beta k.ring (k.encipher (first_key key)) n tweak

  abbrev E : ℕ → ℕ
  E = k.encipher (second_key key)

  abbrev D : ℕ → ℕ
  D = k.decipher (second_key key)

  module _ (h : HashKey) (is : hash_for k key n ≡ Some h) where
    E-low : (x : ℕ) → x < size k.ring → E x < size k.ring
    E-low x l = k.encipher_block (second_key key) x (second_fits k key n h is) l

    D-low : (x : ℕ) → x < size k.ring → D x < size k.ring
    D-low x l = k.decipher_block (second_key key) x (second_fits k key n h is) l

    blend_sound : (s : Sector) → Whole s → Whole (blended k.ring h s)
    blend_sound = blended_sound k.ring (n / k.ring.width) (n % k.ring.width) (tail_short k.ring n) h

    unblend_sound : (s : Sector) → Whole s → Whole (unblended k.ring h s)
    unblend_sound = unblended_sound k.ring (n / k.ring.width) (n % k.ring.width) (tail_short k.ring n) h

    en_kept : (s : Sector) → Whole s → Whole (enciphered k.ring E h β s)
    en_kept = direction_sound k.ring (n / k.ring.width) (n % k.ring.width) β E E-low (blended k.ring h) blend_sound

    de_kept : (s : Sector) → Whole s → Whole (deciphered k.ring D h β s)
    de_kept = direction_sound k.ring (n / k.ring.width) (n % k.ring.width) β D D-low (unblended k.ring h) unblend_sound

    en_undone : (s : Sector) → Whole s → deciphered k.ring D h β (enciphered k.ring E h β s) ≡ s
    en_undone =
        let ok = hashed k key n h is in
        direction_undone k.ring (n / k.ring.width) (n % k.ring.width) β E E-low (blended k.ring h) blend_sound
        D (λ x l. k.undone (second_key key) x (second_fits k key n h is) l)
        (unblended k.ring h) (λ s o. unblended_blended k.ring (n / k.ring.width) (n % k.ring.width) (tail_short k.ring n) h s o ok.sum ok.inverse)

    de_undone : (s : Sector) → Whole s → enciphered k.ring E h β (deciphered k.ring D h β s) ≡ s
    de_undone =
        let ok = hashed k key n h is in
        direction_undone k.ring (n / k.ring.width) (n % k.ring.width) β D D-low (unblended k.ring h) unblend_sound
        E (λ x l. k.redone (second_key key) x (second_fits k key n h is) l)
        (blended k.ring h) (λ s o. blended_unblended k.ring (n / k.ring.width) (n % k.ring.width) (tail_short k.ring n) h s o ok.sum ok.inverse)

  pub encipher_row : (bs : List ℕ) → row n bs ≡ true → row n (encipher k key n tweak bs) ≡ true
  encipher_row = rows_kept k n (λ h. enciphered k.ring E h β) (hash_for k key n) en_kept

  pub decipher_row : (bs : List ℕ) → row n bs ≡ true → row n (decipher k key n tweak bs) ≡ true
  decipher_row = rows_kept k n (λ h. deciphered k.ring D h β) (hash_for k key n) de_kept

  pub undone : (bs : List ℕ) → row n bs ≡ true → decipher k key n tweak (encipher k key n tweak bs) ≡ bs
  undone = rows_undone k n (λ h. enciphered k.ring E h β) (λ h. deciphered k.ring D h β) (hash_for k key n) en_kept en_undone

  pub redone : (bs : List ℕ) → row n bs ≡ true → encipher k key n tweak (decipher k key n tweak bs) ≡ bs
  redone = rows_undone k n (λ h. deciphered k.ring D h β) (λ h. enciphered k.ring E h β) (hash_for k key n) de_kept de_undone
