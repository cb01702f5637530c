-- HEH undoes itself.
use Rattle.std.proofs.Common.{◌≡◌, ℕ, ◌*◌, ◌/◌, ◌%◌, ◌<◌, ◌≤◌, Bool, true, false, cond, ◌&&◌, eqb, leb, List, ap, ◌∙◌, ⊎_elim, arith}
use lib.Bits.{bit_xor, xor_lt}
use Rattle.std.specs.Int.Digits.{number_from_digits}
use Rattle.std.proofs.lemmas.Nat.{le-div}
use Rattle.std.proofs.lemmas.Bool.{and_parts, and_from, eqb-true, leb-true, cases_Bool, cond-true, cond-false}
use Rattle.rings.specs.Ring.{RingKind, size}
use Rattle.rings.specs.Rows.{row}
use Rattle.rings.proofs.Rows.{row_block}
use Rattle.rings.proofs.Total.{times_below}
use Rattle.ciphers.specs.Cipher.{CipherKind, fits}
use Rattle.passes.specs.Sector.{Sector, rowwise}
use Rattle.passes.proofs.Parts.{rowwise_row, rowwise_undone}
use Rattle.passes.proofs.Stages.{Sound}
use Rattle.heh_theory.specs.Heh.{wrapped, tau, beta1, beta2, on_blocks, size_fits, taken, encipher, decipher}
use Rattle.heh_theory.specs.Laws.{Undoing}
use Rattle.heh_theory.proofs.Inverse.{wrapped_sound, wrapped_undone, on_blocks_sound, on_blocks_undone}

-- a size that fits
pub record Size (r : RingKind) (ℓ : ℕ) : Type 0 where
  pub whole : ℓ % r.width ≡ 0
  pub least : r.width ≤ ℓ
  pub most : ℓ ≤ r.longest

module _ (r : RingKind) (ℓ : ℕ) where
  pub size_parts : size_fits r ℓ ≡ true → Size r ℓ
  size_parts h =
      let p = and_parts (eqb (ℓ % r.width) 0 && leb r.width ℓ) (leb ℓ r.longest) h in
      let q = and_parts (eqb (ℓ % r.width) 0) (leb r.width ℓ) p.0 in
      record { whole = eqb-true (ℓ % r.width) 0 q.0; least = leb-true r.width ℓ q.1; most = leb-true ℓ r.longest p.1 }

  pub blocks_some : Size r ℓ → 0 < ℓ / r.width
  blocks_some fit = let s = r.some in le-div 1 ℓ r.width (omega arith) (omega (arith, fit.least))

  -- L is a block
  pub length_block : ℓ ≤ r.longest → 8 * ℓ < size r
  length_block le = omega (arith, r.counted)

-- key, size, tweak and bytes that fit
pub record Taken (k : CipherKind) (key : List ℕ) (ℓ : ℕ) (tweak bs : List ℕ) : Type 0 where
  pub key_fit : fits k key ≡ true
  pub size_fit : size_fits k.ring ℓ ≡ true
  pub tweak_row : row k.ring.width tweak ≡ true
  pub bytes_row : row ℓ bs ≡ true

module _ (k : CipherKind) (key : List ℕ) (ℓ : ℕ) (tweak bs : List ℕ) where
  taken_parts : taken k key ℓ tweak bs ≡ true → Taken k key ℓ tweak bs
  taken_parts h =
      let p = and_parts (fits k key && size_fits k.ring ℓ && row k.ring.width tweak) (row ℓ bs) h in
      let q = and_parts (fits k key && size_fits k.ring ℓ) (row k.ring.width tweak) p.0 in
      let s = and_parts (fits k key) (size_fits k.ring ℓ) q.0 in
      record { key_fit = s.0; size_fit = s.1; tweak_row = q.1; bytes_row = p.1 }

  pub taken_from : Taken k key ℓ tweak bs → taken k key ℓ tweak bs ≡ true
  taken_from t =
      and_from (fits k key && size_fits k.ring ℓ && row k.ring.width tweak) (row ℓ bs)
      (and_from (fits k key && size_fits k.ring ℓ) (row k.ring.width tweak) (and_from (fits k key) (size_fits k.ring ℓ) t.key_fit t.size_fit) t.tweak_row)
      t.bytes_row

-- a map where a test holds
module _ (test : List ℕ → Bool) (f : List ℕ → List ℕ) where
  where_row : (ℓ : ℕ) → ((bs : List ℕ) → test bs ≡ true → row ℓ (f bs) ≡ true) → (bs : List ℕ) → row ℓ bs ≡ true → row ℓ (cond (test bs) (f bs) bs) ≡ true
  where_row ℓ stays bs good =
      ⊎_elim
      (λ (t : test bs ≡ true). ap (row ℓ) (cond-true (test bs) (f bs) bs t) ∙ stays bs t)
      (λ (t : test bs ≡ false). ap (row ℓ) (cond-false (test bs) (f bs) bs t) ∙ good)
      (cases_Bool (test bs))

  where_undone : (g : List ℕ → List ℕ) → ((bs : List ℕ) → test bs ≡ true → test (f bs) ≡ true) → ((bs : List ℕ) → test bs ≡ true → g (f bs) ≡ bs)
      → (bs : List ℕ) → cond (test (cond (test bs) (f bs) bs)) (g (cond (test bs) (f bs) bs)) (cond (test bs) (f bs) bs) ≡ bs
  where_undone g stays undo bs =
      ⊎_elim
      (λ (t : test bs ≡ true). ap (λ (l : List ℕ). cond (test l) (g l) l) (cond-true (test bs) (f bs) bs t) ∙ cond-true (test (f bs)) (g (f bs)) (f bs) (stays bs t) ∙ undo bs t)
      (λ (t : test bs ≡ false). ap (λ (l : List ℕ). cond (test l) (g l) l) (cond-false (test bs) (f bs) bs t) ∙ cond-false (test bs) (g bs) bs t)
      (cases_Bool (test bs))

module _ (k : CipherKind) (key : List ℕ) (ℓ : ℕ) (tweak : List ℕ) where
  -- either direction: f is E_K and g is D_K, or the other way round
  module _ (f g : ℕ → ℕ) (τ β β' : ℕ)
      (low : fits k key ≡ true → (x : ℕ) → x < size k.ring → f x < size k.ring)
      (undo : fits k key ≡ true → (x : ℕ) → x < size k.ring → g (f x) ≡ x)
      (blocks : (bs : List ℕ) → Taken k key ℓ tweak bs → (β < size k.ring) × (β' < size k.ring)) where
    abbrev there : List ℕ → List ℕ
    there bs = rowwise k.ring.width (on_blocks (wrapped k.ring f τ β β')) bs

    abbrev again : List ℕ → List ℕ
    again bs = rowwise k.ring.width (on_blocks (wrapped k.ring g τ β' β)) bs

    sound : (bs : List ℕ) → Taken k key ℓ tweak bs → (s : Sector) → Sound k.ring (ℓ / k.ring.width) (ℓ % k.ring.width) s
        → Sound k.ring (ℓ / k.ring.width) (ℓ % k.ring.width) (on_blocks (wrapped k.ring f τ β β') s)
    sound bs t =
        let r = k.ring in
        let m : ℕ = ℓ / k.ring.width in
        let b = blocks bs t in
        on_blocks_sound r m (ℓ % r.width) (wrapped r f τ β β')
        (wrapped_sound r m (blocks_some r ℓ (size_parts r ℓ t.size_fit)) f (low t.key_fit) τ β β' b.0 b.1)

    keeps : (bs : List ℕ) → taken k key ℓ tweak bs ≡ true → row ℓ (there bs) ≡ true
    keeps bs is =
        let t = taken_parts k key ℓ tweak bs is in
        rowwise_row k.ring ℓ (on_blocks (wrapped k.ring f τ β β')) (sound bs t) bs t.bytes_row

    stays : (bs : List ℕ) → taken k key ℓ tweak bs ≡ true → taken k key ℓ tweak (there bs) ≡ true
    stays bs is =
        let t = taken_parts k key ℓ tweak bs is in
        taken_from k key ℓ tweak (there bs) (record { key_fit = t.key_fit; size_fit = t.size_fit; tweak_row = t.tweak_row; bytes_row = keeps bs is })

    back : (bs : List ℕ) → taken k key ℓ tweak bs ≡ true → again (there bs) ≡ bs
    back bs is =
        let r = k.ring in
        let m : ℕ = ℓ / k.ring.width in
        let t = taken_parts k key ℓ tweak bs is in
        let b = blocks bs t in
        rowwise_undone r ℓ (on_blocks (wrapped r f τ β β')) (on_blocks (wrapped r g τ β' β)) (sound bs t)
        (on_blocks_undone r m (ℓ % r.width) (wrapped r f τ β β') (wrapped r g τ β' β)
        (wrapped_undone r m (blocks_some r ℓ (size_parts r ℓ t.size_fit)) f (low t.key_fit) τ β β' b.0 b.1 g (undo t.key_fit)))
        bs t.bytes_row

    undone_where : (bs : List ℕ) → cond (taken k key ℓ tweak (cond (taken k key ℓ tweak bs) (there bs) bs)) (again (cond (taken k key ℓ tweak bs) (there bs) bs)) (cond (taken k key ℓ tweak bs) (there bs) bs) ≡ bs
    undone_where = where_undone (taken k key ℓ tweak) there again stays back

    row_where : (bs : List ℕ) → row ℓ bs ≡ true → row ℓ (cond (taken k key ℓ tweak bs) (there bs) bs) ≡ true
    row_where = where_row (taken k key ℓ tweak) there ℓ keeps

  abbrev τ : ℕ
  τ = tau k.ring (k.encipher key) (number_from_digits 256 tweak)

  abbrev β1 : ℕ
  β1 = beta1 k.ring (k.encipher key) (number_from_digits 256 tweak) ℓ

  abbrev β2 : ℕ
  β2 = beta2 k.ring (k.encipher key) (number_from_digits 256 tweak) ℓ

  betas : (bs : List ℕ) → Taken k key ℓ tweak bs → (β1 < size k.ring) × (β2 < size k.ring)
  betas bs t =
      let r = k.ring in
      let τ_low = k.encipher_block key (number_from_digits 256 tweak) t.key_fit (row_block r.width tweak t.tweak_row) in
      let sum_low = xor_lt (8 * r.width) τ (8 * ℓ) τ_low (length_block r ℓ (size_parts r ℓ t.size_fit).most) in
      (k.encipher_block key (bit_xor τ (8 * ℓ)) t.key_fit sum_low, times_below r 2 β1)

  betas_back : (bs : List ℕ) → Taken k key ℓ tweak bs → (β2 < size k.ring) × (β1 < size k.ring)
  betas_back bs t = let b = betas bs t in (b.1, b.0)

  E-low : fits k key ≡ true → (x : ℕ) → x < size k.ring → k.encipher key x < size k.ring
  E-low fit x = k.encipher_block key x fit

  D-low : fits k key ≡ true → (x : ℕ) → x < size k.ring → k.decipher key x < size k.ring
  D-low fit x = k.decipher_block key x fit

  DE : fits k key ≡ true → (x : ℕ) → x < size k.ring → k.decipher key (k.encipher key x) ≡ x
  DE fit x = k.undone key x fit

  ED : fits k key ≡ true → (x : ℕ) → x < size k.ring → k.encipher key (k.decipher key x) ≡ x
  ED fit x = k.redone key x fit

  undone : (bs : List ℕ) → decipher k key ℓ tweak (encipher k key ℓ tweak bs) ≡ bs
  undone = undone_where (k.encipher key) (k.decipher key) τ β1 β2 E-low DE betas

  redone : (bs : List ℕ) → encipher k key ℓ tweak (decipher k key ℓ tweak bs) ≡ bs
  redone = undone_where (k.decipher key) (k.encipher key) τ β2 β1 D-low ED betas_back

  encipher_row : (bs : List ℕ) → row ℓ bs ≡ true → row ℓ (encipher k key ℓ tweak bs) ≡ true
  encipher_row = row_where (k.encipher key) (k.decipher key) τ β1 β2 E-low DE betas

  decipher_row : (bs : List ℕ) → row ℓ bs ≡ true → row ℓ (decipher k key ℓ tweak bs) ≡ true
  decipher_row = row_where (k.decipher key) (k.encipher key) τ β2 β1 D-low ED betas_back

pub undoing : Undoing
undoing = record { undone = undone; redone = redone; encipher_row = encipher_row; decipher_row = decipher_row }
