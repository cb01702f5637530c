-- The laws of a kind without the premise that a list is a sector.
use Rattle.std.proofs.Common.{◌≡◌, ℕ, ◌^◌, ◌<◌, Bool, true, false, cond, ◌&&◌, eqb, List, length, Some, None, sym, refl, ap, ◌∙◌, ⊎_elim}
use Rattle.std.proofs.lemmas.Bool.{and_parts, cases_Bool, cond-true, cond-false}
use Rattle.rings.specs.Rows.{all_bytes, row}
use Rattle.rings.proofs.Rows.{row_parts}
use Rattle.modes.specs.declared.ModeFault.TheVariants.{WrongLength}
use Rattle.modes.specs.Mode.{ModeKind, Keyed, obstacle, ciphered}
use Rattle.modes.specs.Total.{within, enciphering, deciphering}

-- two maps that keep rows and undo each other on them
module _ (n : ℕ) (f g : List ℕ → List ℕ) (keeps : (bs : List ℕ) → row n bs ≡ true → row n (f bs) ≡ true) where
  within_undone : ((bs : List ℕ) → row n bs ≡ true → g (f bs) ≡ bs) → (bs : List ℕ) → within n g (within n f bs) ≡ bs
  within_undone undo bs =
      ⊎_elim
      (λ (t : row n bs ≡ true). ap (within n g) (cond-true (row n bs) (f bs) bs t) ∙ cond-true (row n (f bs)) (g (f bs)) (f bs) (keeps bs t) ∙ undo bs t)
      (λ (t : row n bs ≡ false). ap (within n g) (cond-false (row n bs) (f bs) bs t) ∙ cond-false (row n bs) (g bs) bs t)
      (cases_Bool (row n bs))

  within_length : (bs : List ℕ) → length (within n f bs) ≡ length bs
  within_length bs =
      ⊎_elim
      (λ (t : row n bs ≡ true). ap length (cond-true (row n bs) (f bs) bs t) ∙ (row_parts n (f bs) (keeps bs t)).0 ∙ sym (row_parts n bs t).0)
      (λ (t : row n bs ≡ false). ap length (cond-false (row n bs) (f bs) bs t))
      (cases_Bool (row n bs))

module _ (k : ModeKind) (s : Keyed) (fit : k.refusal s.key s.size ≡ None) (n : ℕ) (low : n < 2 ^ 32) where
  pub undone : (bs : List ℕ) → deciphering k s n (enciphering k s n bs) ≡ bs
  undone =
      within_undone s.size (k.encipher s.key s.size n) (k.decipher s.key s.size n)
      (λ bs t. k.encipher_row s.key s.size n bs fit low t)
      (λ bs t. k.undone s.key s.size n bs fit low t)

  pub redone : (bs : List ℕ) → enciphering k s n (deciphering k s n bs) ≡ bs
  redone =
      within_undone s.size (k.decipher s.key s.size n) (k.encipher s.key s.size n)
      (λ bs t. k.decipher_row s.key s.size n bs fit low t)
      (λ bs t. k.redone s.key s.size n bs fit low t)

  pub length_deciphering : (bs : List ℕ) → length (deciphering k s n bs) ≡ length bs
  length_deciphering = within_length s.size (k.decipher s.key s.size n) (k.decipher s.key s.size n) (λ bs t. k.decipher_row s.key s.size n bs fit low t)

-- a call on bytes does what the map says at every length
module _ (f : List ℕ → ℕ → List ℕ → List ℕ) (s : Keyed) (bs : List ℕ) (bytes : row (length bs) bs ≡ true) where
  call_by : (b : Bool) → all_bytes bs ≡ true → ciphered f (Some s) (cond b None (Some WrongLength)) bs ≡ cond (b && all_bytes bs) (f s.key s.size bs) bs
  call_by true t = sym (cond-true (all_bytes bs) (f s.key s.size bs) bs t)
  call_by false t = refl

  pub call_is : ciphered f (Some s) (obstacle (Some s) bs) bs ≡ within s.size (f s.key s.size) bs
  call_is = call_by (eqb (length bs) s.size) (and_parts (eqb (length bs) (length bs)) (all_bytes bs) bytes).1
