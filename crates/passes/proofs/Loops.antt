-- What the loops over the blocks and the bytes of a row do in a turn, and what the calls of a closure give.
use Rattle.std.proofs.Common.{◌≡◌, ℕ, zero, suc, ◌+◌, ◌-◌, ◌*◌, ◌/◌, ◌%◌, ◌^◌, ◌<◌, ◌≤◌, min, List, [], ◌∷◌, ◌++◌, map, length, get_or, take, drop, set, sym, refl, ap, ◌∙◌, subst, ap₂, append_assoc, append-nil, add-zero, mod-eq_of_lt, suc-mul, zero-add, zero-mul, add-one, arith, length-append, length-drop, length-take}
use borrow.Rule.Slice.PartMut.{put_mid}
use Rattle.std.specs.List.{FoldsTo}
use Rattle.std.proofs.lemmas.Fn.{FoldsTo-push}
use Rattle.std.specs.Int.Digits.{number_from_digits, AllBelowBase}
use Rattle.std.proofs.lemmas.List.{map-append, drop-drop, take_at, drop_at, drop_more, get_or_at, set_at, take_more, take_all, drop_all, take-append-drop}
use Rattle.rings.specs.Blocks.{bytes_of, block_at, first_blocks}
use Rattle.rings.proofs.Bytes.{block_below, blocks_none, blocks_more}
use Rattle.passes.specs.Calls.{Replaces}
use Rattle.passes.specs.Passes.{placewise, placed, mapped}
use Rattle.passes.specs.Sector.{Sector, bytes, parted, joined}
use Rattle.passes.proofs.Parts.{length_bytes, bytes_push}
use Rattle.passes.proofs.Stages.{length_placewise}

-- ---- over blocks

module _ (w : ℕ) (orig : List ℕ) where
  -- a row whose first i blocks are ys by now
  abbrev pub Done : List ℕ → ℕ → List ℕ → Type 0
  Done ys i text = (length ys ≡ i) × (text ≡ bytes w ys ++ drop (i * w) orig)

  pub none_done : Done [] 0 orig
  unfolding bytes
  none_done = (refl, ap (λ (n : ℕ). drop n orig) (sym (zero-mul w)))

  module _ (text ys : List ℕ) (i : ℕ) (done : Done ys i text) where
    long : length (bytes w ys) ≡ i * w
    long = length_bytes w ys ∙ ap (λ n. n * w) done.0

    behind : drop (i * w) text ≡ drop (i * w) orig
    behind = ap (drop (i * w)) done.1 ∙ drop_at (bytes w ys) (drop (i * w) orig) (i * w) long

    piece : take (i * w + w - i * w) (drop (i * w) text) ≡ take w (drop (i * w) orig)
    piece = let k : i * w + w - i * w ≡ w = omega arith in λ t. take (k t) (behind t)

    read_here : AllBelowBase 256 orig → number_from_digits 256 (take (i * w + w - i * w) (drop (i * w) text)) % 2 ^ (8 * w) ≡ block_at w i orig
    read_here under = ap (λ l. number_from_digits 256 l % 2 ^ (8 * w)) piece ∙ mod-eq_of_lt (block_below w i orig under)

    write_here : i * w + w ≤ length orig → (part : List ℕ) (y : ℕ) → part ≡ bytes_of (length (take (i * w + w - i * w) (drop (i * w) text))) y
        → Done (ys ++ (y ∷ [])) (i + 1) (put_mid (i * w) (i * w + w - i * w) text part)
    write_here within part y new =
        let rest = drop (i * w) orig in
        let k : i * w + w - i * w ≡ w = omega arith in
        let front : take (i * w) text ≡ bytes w ys = ap (take (i * w)) done.1 ∙ take_at (bytes w ys) rest (i * w) long in
        let wide : length (take w rest) ≡ w = simp (length-take, length-drop) (omega arith) in
        let made : part ≡ bytes_of w y = new ∙ ap (λ n. bytes_of n y) (ap length piece ∙ wide) in
        let next : i * w + w ≡ (i + 1) * w = sym (ap (λ n. n * w) (add-one i) ∙ suc-mul i w) in
        let after : drop (i * w + w - i * w) (drop (i * w) text) ≡ drop ((i + 1) * w) orig =
        (λ t. drop (k t) (behind t)) ∙ drop-drop w (i * w) orig ∙ ap (λ n. drop n orig) next in (
          length-append ys (y ∷ []) ∙ ap (λ n. n + 1) done.0,
          (λ t. front t ++ (made t ++ after t)) ∙ sym (append_assoc (bytes w ys) _ _) ∙ ap (λ l. l ++ drop ((i + 1) * w) orig) (sym (bytes_push w ys y)),
        )

  -- block i read, and then another written, in a loop that holds the width as v
  pub block_read : AllBelowBase 256 orig → (v : ℕ) → v ≡ w → (text ys : List ℕ) (i : ℕ) → Done ys i text
      → number_from_digits 256 (take (i * v + v - i * v) (drop (i * v) text)) % 2 ^ (8 * w) ≡ block_at w i orig
  block_read under v e text ys i done =
      subst (λ v. number_from_digits 256 (take (i * v + v - i * v) (drop (i * v) text)) % 2 ^ (8 * w) ≡ block_at w i orig) (sym e) (read_here text ys i done under)

  pub block_written : (v : ℕ) → v ≡ w → (text ys : List ℕ) (i : ℕ) → Done ys i text → i * v + v ≤ length orig → (part : List ℕ) (y : ℕ)
      → part ≡ bytes_of (length (take (i * v + v - i * v) (drop (i * v) text))) y → Done (ys ++ (y ∷ [])) (i + 1) (put_mid (i * v) (i * v + v - i * v) text part)
  block_written v e text ys i done =
      subst
      (λ v. i * v + v ≤ length orig → (part : List ℕ) (y : ℕ) → part ≡ bytes_of (length (take (i * v + v - i * v) (drop (i * v) text))) y → Done (ys ++ (y ∷ [])) (i + 1) (put_mid (i * v) (i * v + v - i * v) text part))
      (sym e) (write_here text ys i done)

-- ---- over calls

placewise_map : (f : ℕ → ℕ) (i : ℕ) (xs : List ℕ) → placewise (λ _ x. f x) i xs ≡ map f xs
unfolding placewise
placewise_map f i [] = refl
placewise_map f i (x ∷ xs) = ap (λ l. f x ∷ l) (placewise_map f (suc i) xs)

module _ {F R : Type 0} (step : F → R → R → F → Type 0) (value : R → ℕ) where
  -- calls that take the first i blocks of orig, and leave a row that has what they gave in their places
  abbrev pub Ran : ℕ → List ℕ → F → F → ℕ → List ℕ → Type 0
  Ran w orig f last i text =
      (calls : List (R × R)) × FoldsTo (λ p c q. step p c.0 c.1 q) f calls last
      × (first_blocks w i orig ≡ map (λ c. value c.0) calls) × Done w orig (map (λ c. value c.1) calls) i text

  pub none_ran : (w : ℕ) (orig : List ℕ) (f : F) → Ran w orig f f 0 orig
  none_ran w orig f = ([], refl, blocks_none w orig, none_done w orig)

  -- one call more
  pub more_ran : (w : ℕ) (orig : List ℕ) (f p q : F) (i : ℕ) (text next : List ℕ) (x y : R) → (ran : Ran w orig f p i text)
      → step p x y q → value x ≡ block_at w i orig → Done w orig (map (λ c. value c.1) ran.0 ++ (value y ∷ [])) (i + 1) next → Ran w orig f q (i + 1) next
  more_ran w orig f p q i text next x y ran call read done = (
    ran.0 ++ ((x, y) ∷ []),
    FoldsTo-push (λ p c q. step p c.0 c.1 q) f ran.0 p (x, y) q ran.1 call,
    blocks_more w i orig ∙ (λ t. ran.2 t ++ (sym read t ∷ [])) ∙ sym (map-append (λ c. value c.0) ran.0 ((x, y) ∷ [])),
    subst (λ ys. Done w orig ys (i + 1) next) (sym (map-append (λ c. value c.1) ran.0 ((x, y) ∷ []))) done,
  )

  -- and after the last
  pub all_ran : (w : ℕ) (orig : List ℕ) (f last : F) (i n : ℕ) (text : List ℕ) → n ≤ i → i ≤ n → n ≡ length orig / w → Ran w orig f last i text
      → (after : Sector) × Replaces step value f (parted w orig) after × (text ≡ joined w after)
  all_ran w orig f last i n text ge le is ran =
      let i_is : length orig / w ≡ i = omega (arith, is) in (
        record { blocks = map (λ c. value c.1) ran.0; tail = drop (length orig / w * w) orig },
        (ran.0, last, ran.1, ap (λ n. first_blocks w n orig) i_is ∙ ran.2, refl, refl),
        ran.3.1 ∙ ap (λ n. bytes w (map (λ c. value c.1) ran.0) ++ drop (n * w) orig) (sym i_is),
      )

  -- what calls give, where call i gives g i of its block while the closure's state has S
  module _ (g : ℕ → ℕ → ℕ) (S : ℕ → F → Type 0) (turn : (i : ℕ) (p : F) (x y : R) (q : F) → S i p → step p x y q → (value y ≡ g i (value x)) × S (i + 1) q) where
    given : (i : ℕ) (f : F) (calls : List (R × R)) (last : F) → S i f → FoldsTo (λ p c q. step p c.0 c.1 q) f calls last
        → map (λ c. value c.1) calls ≡ placewise g i (map (λ c. value c.0) calls)
    unfolding placewise
    given i f [] last h ran = refl
    given i f (c ∷ cs) last h ran =
        let t = turn i f c.0 c.1 ran.0 h ran.1 in
        ap₂ ◌∷◌ t.0 (given (suc i) ran.0 cs last (subst (λ n. S n ran.0) (add-one i) t.1) ran.2)

    pub placed_by : (f : F) → S 0 f → (s s' : Sector) → Replaces step value f s s' → s' ≡ placed g s
    placed_by f h s s' calls =
        let blocks : s'.blocks ≡ placewise g 0 s.blocks = calls.4 ∙ given 0 f calls.0 calls.1 h calls.2 ∙ ap (placewise g 0) (sym calls.3) in
        λ t. record { blocks = blocks t; tail = calls.5 t }

  -- what they give, where each gives g of its block and leaves the closure as it was
  pub mapped_by : (g : ℕ → ℕ) (f : F) → ((x y : R) (q : F) → step f x y q → (value y ≡ g (value x)) × (q ≡ f)) → (s s' : Sector) → Replaces step value f s s' → s' ≡ mapped g s
  mapped_by g f same s s' calls =
      placed_by (λ _ x. g x) (λ _ p. p ≡ f) (λ i p x y q is k. same x y q (subst (λ p. step p x y q) is k)) f refl s s' calls
      ∙ (λ t. record { blocks = placewise_map g 0 s.blocks t; tail = s.tail })

-- ---- over bytes

get_d_placewise : (f : ℕ → ℕ → ℕ) (k i : ℕ) (xs : List ℕ) → i < length xs → get_or (placewise f k xs) i 0 ≡ f (k + i) (get_or xs i 0)
unfolding placewise
get_d_placewise f k i [] h = absurd (omega arith)
get_d_placewise f k zero (x ∷ xs) h = ap (λ n. f n x) (sym (add-zero k))
get_d_placewise f k (suc i) (x ∷ xs) h = get_d_placewise f (suc k) i xs (omega arith) ∙ ap (λ n. f n (get_or xs i 0)) (omega arith)

drop_placewise : (f : ℕ → ℕ → ℕ) (k i : ℕ) (xs : List ℕ) → drop i (placewise f k xs) ≡ placewise f (k + i) (drop i xs)
unfolding placewise
drop_placewise f k zero xs = ap (λ n. placewise f n xs) (sym (add-zero k))
drop_placewise f k (suc i) [] = refl
drop_placewise f k (suc i) (x ∷ xs) = drop_placewise f (suc k) i xs ∙ ap (λ n. placewise f n (drop i xs)) (omega arith)

pub placewise_same : (f : ℕ → ℕ → ℕ) (k : ℕ) (xs : List ℕ) → ((i x : ℕ) → k ≤ i → i < k + length xs → f i x ≡ x) → placewise f k xs ≡ xs
unfolding placewise
placewise_same f k [] same = refl
placewise_same f k (x ∷ xs) same = λ t. same k x (omega arith) (omega arith) t ∷ placewise_same f (suc k) xs (λ i y h l. same i y (omega arith) (omega arith)) t

take_placewise : (f : ℕ → ℕ → ℕ) (k n : ℕ) (xs : List ℕ) → take n (placewise f k xs) ≡ placewise f k (take n xs)
unfolding placewise
take_placewise f k zero xs = refl
take_placewise f k (suc n) [] = refl
take_placewise f k (suc n) (x ∷ xs) = ap (λ l. f k x ∷ l) (take_placewise f (suc k) n xs)

-- from n on nothing is left to do
pub placed_ahead : (f : ℕ → ℕ → ℕ) (n : ℕ) (xs : List ℕ) → ((k x : ℕ) → n ≤ k → k < length xs → f k x ≡ x) → placewise f 0 (take n xs) ++ drop n xs ≡ placewise f 0 xs
placed_ahead f n xs same =
    let rest = drop n xs in
    let long = length-drop n xs in
    let past : placewise f (0 + n) rest ≡ rest = placewise_same f (0 + n) rest (λ k x h l. same k x (omega arith) (omega (arith, long))) in
    (λ t. sym (take_placewise f 0 n xs) t ++ (sym past ∙ sym (drop_placewise f 0 n xs)) t) ∙ take-append-drop n (placewise f 0 xs)

module _ (f : ℕ → ℕ → ℕ) (orig : List ℕ) where
  pub place_read : (text : List ℕ) (i : ℕ) → i < length orig → text ≡ take i (placewise f 0 orig) ++ drop i orig → get_or text i 0 ≡ get_or orig i 0
  place_read text i h inv =
      let done = take i (placewise f 0 orig) in
      let long : length done ≡ i = length-take i (placewise f 0 orig) ∙ ap (min i) (length_placewise f 0 orig) ∙ omega arith in
      ap (λ l. get_or l i 0) (inv ∙ ap (λ l. done ++ l) (drop_more orig i 0 h)) ∙ get_or_at done (get_or orig i 0) (drop (i + 1) orig) 0 i long

  pub place_step : (text : List ℕ) (i b : ℕ) → i < length orig → text ≡ take i (placewise f 0 orig) ++ drop i orig → b ≡ f i (get_or orig i 0)
      → set text i b ≡ take (i + 1) (placewise f 0 orig) ++ drop (i + 1) orig
  place_step text i b h inv is =
      let all = placewise f 0 orig in
      let done = take i all in
      let long : length done ≡ i = length-take i all ∙ ap (min i) (length_placewise f 0 orig) ∙ omega arith in
      let there : i < length all = rw (length_placewise f 0 orig) h in
      let same : b ≡ get_or all i 0 = is ∙ ap (λ n. f n (get_or orig i 0)) (sym (zero-add i)) ∙ sym (get_d_placewise f 0 i orig h) in
      ap (λ l. set l i b) (inv ∙ ap (λ l. done ++ l) (drop_more orig i 0 h))
      ∙ set_at done (get_or orig i 0) (drop (i + 1) orig) b i long
      ∙ ap (λ x. done ++ (x ∷ drop (i + 1) orig)) same
      ∙ sym (append_assoc done (get_or all i 0 ∷ []) (drop (i + 1) orig))
      ∙ ap (λ l. l ++ drop (i + 1) orig) (sym (take_more all i 0 there))

  -- after the last byte
  pub place_done : (text : List ℕ) (i : ℕ) → length orig ≤ i → text ≡ take i (placewise f 0 orig) ++ drop i orig → text ≡ placewise f 0 orig
  place_done text i past inv =
      let all : length (placewise f 0 orig) ≤ i = rw (length_placewise f 0 orig) past in
      inv ∙ (λ t. take_all i (placewise f 0 orig) all t ++ drop_all i orig past t) ∙ append-nil (placewise f 0 orig)
