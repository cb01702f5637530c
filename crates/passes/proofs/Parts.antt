-- A row of bytes and its sector are the same thing.
use Rattle.std.proofs.Common.{◌≡◌, ℕ, zero, suc, ◌+◌, ◌*◌, ◌/◌, ◌%◌, ◌^◌, ◌<◌, ◌≤◌, true, List, [], ◌∷◌, ◌++◌, length, take, drop, sym, refl, ap, ◌∙◌, subst, ap₂, append_assoc, append-nil, lt_of_lt_of_le, suc-mul, zero-mul, arith, length-append, length-drop, length-take, take-add}
use native.Mathlib.Nat.{pow-le-pow_right}
use Rattle.std.specs.Int.Digits.{number_from_digits, AllBelowBase}
use Rattle.std.proofs.lemmas.Nat.{div-mul-add, div-add-mod', mod_below}
use Rattle.std.proofs.lemmas.Int.Digits.{number_lt}
use Rattle.std.proofs.ByRecursion.{All-append, All-take, All-drop}
use Rattle.std.proofs.lemmas.List.{take_at, drop_at, take-take, drop-take, take-append-drop}
use Rattle.rings.specs.Blocks.{bytes_of, first_blocks, blocks}
use Rattle.rings.specs.Ring.{RingKind}
use Rattle.rings.specs.Rows.{row}
use Rattle.rings.proofs.Bytes.{pow_bytes, length_bytes_of}
use Rattle.rings.proofs.Rows.{row_is, row_parts, row_bytes_of, number_bytes_of, bytes_of_number}
use Rattle.passes.specs.Sector.{Sector, bytes, parted, joined, rowwise}
use Rattle.passes.proofs.Stages.{Sound}

module _ (w : ℕ) where
  pub length_bytes : (xs : List ℕ) → length (bytes w xs) ≡ length xs * w
  unfolding bytes
  length_bytes [] = sym (zero-mul w)
  length_bytes (x ∷ xs) = length-append (bytes_of w x) (bytes w xs) ∙ ap₂ ◌+◌ (length_bytes_of w x) (length_bytes xs) ∙ omega (arith, suc-mul (length xs) w)

  -- one block more
  pub bytes_push : (xs : List ℕ) (x : ℕ) → bytes w (xs ++ (x ∷ [])) ≡ bytes w xs ++ bytes_of w x
  unfolding bytes
  bytes_push [] x = append-nil (bytes_of w x)
  bytes_push (y ∷ ys) x = ap (λ (l : List ℕ). bytes_of w y ++ l) (bytes_push ys x) ∙ sym (append_assoc (bytes_of w y) (bytes w ys) (bytes_of w x))

  under_bytes : (xs : List ℕ) → AllBelowBase 256 (bytes w xs)
  unfolding bytes
  under_bytes [] = tt
  under_bytes (x ∷ xs) = All-append (λ d. d < 256) (bytes_of w x) (bytes w xs) (row_parts w (bytes_of w x) (row_bytes_of w x)).1 (under_bytes xs)

  blocks_bytes : (xs ts : List ℕ) → AllBelowBase (256 ^ w) xs → first_blocks w (length xs) (bytes w xs ++ ts) ≡ xs
  unfolding bytes first_blocks
  blocks_bytes [] ts h = refl
  blocks_bytes (x ∷ xs) ts h =
      let e = append_assoc (bytes_of w x) (bytes w xs) ts in
      let one = ap (λ l. number_from_digits 256 (take w l)) e ∙ ap (number_from_digits 256) (take_at (bytes_of w x) (bytes w xs ++ ts) w (length_bytes_of w x)) ∙ number_bytes_of w x h.0 in
      let more = ap (λ l. first_blocks w (length xs) (drop w l)) e ∙ ap (first_blocks w (length xs)) (drop_at (bytes_of w x) (bytes w xs ++ ts) w (length_bytes_of w x)) ∙ blocks_bytes xs ts h.1 in
      λ t. one t ∷ more t

  pub length_blocks : (m : ℕ) (bs : List ℕ) → length (first_blocks w m bs) ≡ m
  unfolding first_blocks
  length_blocks zero bs = refl
  length_blocks (suc m) bs = ap suc (length_blocks m (drop w bs))

  under_blocks : (m : ℕ) (bs : List ℕ) → AllBelowBase 256 bs → AllBelowBase (256 ^ w) (first_blocks w m bs)
  unfolding first_blocks
  under_blocks zero bs h = tt
  under_blocks (suc m) bs h =
      let short : length (take w bs) ≤ w = simp length-take (omega arith) in
      (lt_of_lt_of_le (number_lt 256 (take w bs) (All-take (λ d. d < 256) w bs h)) (pow-le-pow_right (omega arith) short), under_blocks m (drop w bs) (All-drop (λ d. d < 256) w bs h))

  pub blocks_below : (m : ℕ) (bs : List ℕ) → AllBelowBase 256 bs → AllBelowBase (2 ^ (8 * w)) (first_blocks w m bs)
  blocks_below m bs h = subst (λ n. AllBelowBase n (first_blocks w m bs)) (pow_bytes w) (under_blocks m bs h)

  pub bytes_blocks : (m : ℕ) (bs : List ℕ) → AllBelowBase 256 bs → m * w ≤ length bs → bytes w (first_blocks w m bs) ≡ take (m * w) bs
  unfolding bytes first_blocks
  bytes_blocks zero bs h le = ap (λ n. take n bs) (sym (zero-mul w))
  bytes_blocks (suc m) bs h le =
      let sum = suc-mul m w in
      let part = take w bs in
      let long : length part ≡ w = simp length-take (omega arith) in
      let rest : m * w ≤ length (drop w bs) = simp length-drop (omega arith) in
      let one = ap (λ n. bytes_of n (number_from_digits 256 part)) (sym long) ∙ bytes_of_number part (All-take (λ d. d < 256) w bs h) in
      let total : w + m * w ≡ suc m * w = omega arith in
      ap₂ ◌++◌ one (bytes_blocks m (drop w bs) (All-drop (λ d. d < 256) w bs h) rest) ∙ sym (take-add w (m * w) bs) ∙ ap (λ n. take n bs) total

  -- the first m blocks stand in the first m·w bytes
  pub blocks_take : (m : ℕ) (bs : List ℕ) → first_blocks w m (take (m * w) bs) ≡ first_blocks w m bs
  unfolding first_blocks
  blocks_take zero bs = refl
  blocks_take (suc m) bs =
      let sum : suc m * w ≡ w + m * w = omega (arith, suc-mul m w) in
      ap (λ (n : ℕ). first_blocks w (suc m) (take n bs)) sum
      ∙ ap₂ (λ (l t : List ℕ). number_from_digits 256 l ∷ first_blocks w m t) (take-take w (w + m * w) bs (omega arith)) (drop-take w (m * w) bs)
      ∙ ap (λ (l : List ℕ). number_from_digits 256 (take w bs) ∷ l) (blocks_take m (drop w bs))

  -- and are all of these
  pub blocks_ahead : (m : ℕ) (bs : List ℕ) → 1 ≤ w → m * w ≤ length bs → blocks w (take (m * w) bs) ≡ first_blocks w m bs
  blocks_ahead m bs some fits =
      let long : length (take (m * w) bs) ≡ m * w + 0 = simp length-take (omega arith) in
      ap (λ (n : ℕ). first_blocks w n (take (m * w) bs)) (ap (λ (n : ℕ). n / w) long ∙ div-mul-add m w 0 some) ∙ blocks_take m bs

module _ (r : RingKind) where
  pub parted_joined : (m t : ℕ) → t < r.width → (s : Sector) → Sound r m t s → parted r.width (joined r.width s) ≡ s
  parted_joined m t short s ok =
      let w = r.width in
      let xs = s.blocks in
      let long : length (joined w s) ≡ length xs * w + length s.tail = length-append (bytes w xs) s.tail ∙ ap (λ n. n + length s.tail) (length_bytes w xs) in
      let small : length s.tail < w = rw ok.rest short in
      let many : length (joined w s) / w ≡ length xs = ap (λ n. n / w) long ∙ div-mul-add (length xs) w (length s.tail) small in
      let low : AllBelowBase (256 ^ w) xs = subst (λ n. AllBelowBase n xs) (sym (pow_bytes w)) ok.low in
      let blocks = ap (λ n. first_blocks w n (joined w s)) many ∙ blocks_bytes w xs s.tail low in
      let tails = ap (λ n. drop (n * w) (joined w s)) many ∙ drop_at (bytes w xs) s.tail (length xs * w) (length_bytes w xs) in
      λ j. record { blocks = blocks j; tail = tails j }

  module _ (bs : List ℕ) (under : AllBelowBase 256 bs) where
    whole : length bs / r.width * r.width ≤ length bs
    whole = omega (arith, div-add-mod' (length bs) r.width)

    pub joined_parted : joined r.width (parted r.width bs) ≡ bs
    joined_parted =
        let n = length bs / r.width * r.width in
        ap (λ l. l ++ drop n bs) (bytes_blocks r.width (length bs / r.width) bs under whole) ∙ take-append-drop n bs

    pub parted_sound : Sound r (length bs / r.width) (length bs % r.width) (parted r.width bs)
    parted_sound = record {
      count = length_blocks r.width (length bs / r.width) bs;
      rest = simp length-drop (omega (arith, div-add-mod' (length bs) r.width));
      low = blocks_below r.width (length bs / r.width) bs under;
      small = All-drop (λ d. d < 256) (length bs / r.width * r.width) bs under;
    }

  length_joined : (m t : ℕ) (s : Sector) → Sound r m t s → length (joined r.width s) ≡ m * r.width + t
  length_joined m t s ok =
      length-append (bytes r.width s.blocks) s.tail ∙ ap₂ ◌+◌ (length_bytes r.width s.blocks ∙ ap (λ n. n * r.width) ok.count) ok.rest

  under_joined : (m t : ℕ) (s : Sector) → Sound r m t s → AllBelowBase 256 (joined r.width s)
  under_joined m t s ok = All-append (λ d. d < 256) (bytes r.width s.blocks) s.tail (under_bytes r.width s.blocks) ok.small

  -- one map of rows after another
  pub stage : (m t : ℕ) → t < r.width → (text : List ℕ) (s : Sector) (f : Sector → Sector) → text ≡ joined r.width s → Sound r m t s
      → rowwise r.width f text ≡ joined r.width (f s)
  stage m t short text s f is ok = ap (rowwise r.width f) is ∙ ap (λ x. joined r.width (f x)) (parted_joined m t short s ok)

  -- rows of n bytes
  module _ (n : ℕ) where
    pub tail_short : n % r.width < r.width
    tail_short = mod_below n r.width r.some

    pub row_sound : (bs : List ℕ) → row n bs ≡ true → Sound r (n / r.width) (n % r.width) (parted r.width bs)
    row_sound bs is =
        let p = row_parts n bs is in
        subst (λ l. Sound r (l / r.width) (l % r.width) (parted r.width bs)) p.0 (parted_sound bs p.1)

    pub row_joined : (s : Sector) → Sound r (n / r.width) (n % r.width) s → row n (joined r.width s) ≡ true
    row_joined s ok =
        row_is n (joined r.width s) (length_joined (n / r.width) (n % r.width) s ok ∙ div-add-mod' n r.width)
        (under_joined (n / r.width) (n % r.width) s ok)

    -- what keeps sectors keeps rows
    pub rowwise_row : (f : Sector → Sector) → ((s : Sector) → Sound r (n / r.width) (n % r.width) s → Sound r (n / r.width) (n % r.width) (f s))
        → (bs : List ℕ) → row n bs ≡ true → row n (rowwise r.width f bs) ≡ true
    rowwise_row f stays bs is = row_joined (f (parted r.width bs)) (stays (parted r.width bs) (row_sound bs is))

    -- what undoes on sectors undoes on rows
    pub rowwise_undone : (f g : Sector → Sector) → ((s : Sector) → Sound r (n / r.width) (n % r.width) s → Sound r (n / r.width) (n % r.width) (f s))
        → ((s : Sector) → Sound r (n / r.width) (n % r.width) s → g (f s) ≡ s)
        → (bs : List ℕ) → row n bs ≡ true → rowwise r.width g (rowwise r.width f bs) ≡ bs
    rowwise_undone f g stays undo bs is =
        let s = parted r.width bs in
        let ok = row_sound bs is in
        stage (n / r.width) (n % r.width) tail_short (rowwise r.width f bs) (f s) g refl (stays s ok)
        ∙ ap (joined r.width) (undo s ok)
        ∙ joined_parted bs (row_parts n bs is).1
