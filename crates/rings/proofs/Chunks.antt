-- The whole blocks of a row of bytes, as an iterator over its chunks gives them.
use Rattle.std.proofs.Common.{◌≡◌, ℕ, suc, ◌*◌, ◌/◌, ◌%◌, ◌^◌, ◌<◌, Bor, List, [], ◌∷◌, ◌++◌, length, map, take, drop, sym, ap, ◌∙◌, subst, ap₂, mod-eq_of_lt, add-one, length-append}
use native.Mathlib.Nat.{div-eq_of_lt, add-div_left}
use Rattle.std.specs.Int.Digits.{number_from_digits, AllBelowBase}
use Rattle.std.specs.Iterator.{Yields}
use Rattle.std.specs.Slice.Iter.{chunks_exact_rest, chunks_exact_size, chunks_exact_steps}
use Rattle.std.specs.declared.slice.ChunksExact.{ChunksExact}
use Rattle.std.proofs.ByRecursion.{All-drop}
use Rattle.std.proofs.Math.Seq.{take-append_seam, drop-append_seam}
use Rattle.rings.specs.Blocks.{first_blocks, blocks}
use Rattle.rings.proofs.Bytes.{first_below, blocks_none, blocks_first}

one_more : (x rest : List ℕ) → 0 < length x → blocks (length x) (x ++ rest) ≡ number_from_digits 256 x ∷ blocks (length x) rest
one_more x rest pos =
    let w = length x in
    let count : length (x ++ rest) / w ≡ suc (length rest / w) =
    ap (λ (n : ℕ). n / w) (length-append x rest) ∙ add-div_left (length rest) pos ∙ add-one (length rest / w) in
    ap (λ (m : ℕ). first_blocks w m (x ++ rest)) count ∙ blocks_first w (length rest / w) (x ++ rest)
    ∙ ap₂ (λ (l r : List ℕ). number_from_digits 256 l ∷ first_blocks w (length rest / w) r) (take-append_seam x rest) (drop-append_seam x rest)

module _ (w : ℕ) (pos : 0 < w) where
  pub chunked : (s t : ChunksExact ℕ) (xs : List (Bor (List ℕ))) → Yields chunks_exact_steps s xs t → chunks_exact_size s ≡ w → AllBelowBase 256 (chunks_exact_rest s)
      → length (chunks_exact_rest t) < chunks_exact_size t → map (λ b. number_from_digits 256 b.now % 2 ^ (8 * w)) xs ≡ blocks w (chunks_exact_rest s)
  chunked s t [] y e under short =
      let few : length (chunks_exact_rest s) < w = subst (λ n. length (chunks_exact_rest s) < n) e (subst (λ u. length (chunks_exact_rest u) < chunks_exact_size u) (sym y) short) in
      sym (ap (λ (m : ℕ). first_blocks w m (chunks_exact_rest s)) (div-eq_of_lt few) ∙ blocks_none w (chunks_exact_rest s))
  chunked s t (x ∷ xs) (u, st, y) e under short =
      let bs = chunks_exact_rest s in
      let rest = chunks_exact_rest u in
      let is : bs ≡ x.now ++ rest = st.1.0 in
      let long : length x.now ≡ w = st.1.1 ∙ e in
      let first : take w bs ≡ x.now = ap₂ take (sym long) is ∙ take-append_seam x.now rest in
      let others : drop w bs ≡ rest = ap₂ drop (sym long) is ∙ drop-append_seam x.now rest in
      let small : number_from_digits 256 x.now < 2 ^ (8 * w) = subst (λ (l : List ℕ). number_from_digits 256 l < 2 ^ (8 * w)) first (first_below w bs under) in
      let later = chunked u t xs y (st.0 ∙ e) (subst (AllBelowBase 256) others (All-drop (λ (d : ℕ). d < 256) w bs under)) short in
      ap₂ (λ (n : ℕ) (l : List ℕ). n ∷ l) (mod-eq_of_lt small) later
      ∙ sym (ap (blocks w) is ∙ subst (λ (n : ℕ). blocks n (x.now ++ rest) ≡ number_from_digits 256 x.now ∷ blocks n rest) long
      (one_more x.now rest (subst (λ (n : ℕ). 0 < n) (sym long) pos)))
