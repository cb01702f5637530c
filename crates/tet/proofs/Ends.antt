-- The last block and the tail, as the code writes them.
use Rattle.std.proofs.Common.{◌≡◌, ℕ, zero, suc, ◌+◌, ◌-◌, ◌*◌, ◌/◌, ◌%◌, ◌^◌, ◌<◌, ◌≤◌, List, [], ◌∷◌, ◌++◌, length, take, drop, sym, refl, ap, ◌∙◌, subst, ap₂, append_assoc, append-nil, mul-le-mul_right, mul-le-mul_left, mod-eq_of_lt, suc-mul, zero-mul, arith}
use Rattle.std.proofs.Math.Nat.{zero-div}
use native.Mathlib.Decide.{dec_lt}
use lib.Bits.{bit_xor, xor_zero_r}
use borrow.Rule.Slice.PartMut.{put_mid}
use Rattle.std.specs.Int.Digits.{number_from_digits, AllBelowBase}
use Rattle.std.proofs.lemmas.Nat.{div-add-mod'}
use Rattle.std.proofs.lemmas.List.{take_at, drop_at, take_all, drop_all}
use Rattle.rings.specs.Blocks.{bytes_of, first_blocks}
use Rattle.rings.specs.Ring.{RingKind, size}
use Rattle.rings.proofs.Bytes.{pow_bytes, length_bytes_of, bytes_of_at, blocks_none}
use Rattle.rings.proofs.Rows.{number_bytes_of}
use Rattle.passes.specs.Passes.{mixed_at, mixed}
use Rattle.passes.specs.Sector.{bytes, joined, rowwise}
use Rattle.passes.proofs.Ends.{mixed_past}
use Rattle.passes.proofs.Loops.{placewise_same}
use Rattle.passes.proofs.Parts.{length_bytes, length_blocks, blocks_below, bytes_blocks, joined_parted}
use Rattle.tet_theory.specs.Tet.{last, on_last, crypted_tail_of, crypted_tail}

front : List ℕ → List ℕ
front [] = []
front (x ∷ []) = []
front (x ∷ y ∷ ys) = x ∷ front (y ∷ ys)

bytes_last : (w : ℕ) (xs : List ℕ) → 0 < length xs → bytes w xs ≡ bytes w (front xs) ++ bytes_of w (last xs)
unfolding bytes front last
bytes_last w [] h = absurd (omega arith)
bytes_last w (x ∷ []) h = append-nil (bytes_of w x)
bytes_last w (x ∷ y ∷ ys) h = ap (λ l. bytes_of w x ++ l) (bytes_last w (y ∷ ys) (omega arith)) ∙ sym (append_assoc (bytes_of w x) (bytes w (front (y ∷ ys))) (bytes_of w (last (y ∷ ys))))

bytes_on_last : (w : ℕ) (f : ℕ → ℕ) (xs : List ℕ) → 0 < length xs → bytes w (on_last f xs) ≡ bytes w (front xs) ++ bytes_of w (f (last xs))
unfolding bytes front last on_last
bytes_on_last w f [] h = absurd (omega arith)
bytes_on_last w f (x ∷ []) h = append-nil (bytes_of w (f x))
bytes_on_last w f (x ∷ y ∷ ys) h = ap (λ l. bytes_of w x ++ l) (bytes_on_last w f (y ∷ ys) (omega arith)) ∙ sym (append_assoc (bytes_of w x) (bytes w (front (y ∷ ys))) (bytes_of w (f (last (y ∷ ys)))))

length_front : (xs : List ℕ) → 0 < length xs → suc (length (front xs)) ≡ length xs
unfolding front
length_front [] h = absurd (omega arith)
length_front (x ∷ []) h = refl
length_front (x ∷ y ∷ ys) h = ap suc (length_front (y ∷ ys) (omega arith))

last_below : (b : ℕ) (xs : List ℕ) → 0 < length xs → AllBelowBase b xs → last xs < b
unfolding last
last_below b [] some h = absurd (omega arith)
last_below b (x ∷ []) some h = h.0
last_below b (x ∷ y ∷ ys) some h = last_below b (y ∷ ys) (omega arith) h.1

some_of : (m w : ℕ) → 0 < m * w → 1 ≤ m
some_of zero w h = absurd (omega (arith, zero-mul w))
some_of (suc m) w h = omega arith

-- ---- a row of blocks, cut at a before the last

module _ (r : RingKind) (ys : List ℕ) (a n : ℕ) (some : 0 < length ys) (end : n ≡ length ys * r.width) (start : a + r.width ≡ n) (text : List ℕ) (is : text ≡ bytes r.width ys) where
  a_is : length (bytes r.width (front ys)) ≡ a
  a_is = length_bytes r.width (front ys) ∙ omega (arith, ap (λ i. i * r.width) (length_front ys some), suc-mul (length (front ys)) r.width)

  cut : text ≡ bytes r.width (front ys) ++ bytes_of r.width (last ys)
  cut = is ∙ bytes_last r.width ys some

  piece : drop a text ≡ bytes_of r.width (last ys)
  piece = ap (drop a) cut ∙ drop_at (bytes r.width (front ys)) (bytes_of r.width (last ys)) a a_is

  enough : length (drop a text) ≤ n - a
  enough = rw (piece, length_bytes_of r.width (last ys)) (omega arith)

  part : take (n - a) (drop a text) ≡ bytes_of r.width (last ys)
  part = take_all (n - a) (drop a text) enough ∙ piece

  last_read : AllBelowBase (size r) ys → number_from_digits 256 (take (n - a) (drop a text)) % size r ≡ last ys
  last_read low =
      let below = last_below (size r) ys some low in
      let wide : last ys < 256 ^ r.width = subst (λ i. last ys < i) (sym (pow_bytes r.width)) below in
      ap (λ l. number_from_digits 256 l % size r) part ∙ ap (λ i. i % size r) (number_bytes_of r.width (last ys) wide) ∙ mod-eq_of_lt below

  last_written : (f : ℕ → ℕ) (new : List ℕ) (y : ℕ) → new ≡ bytes_of (length (take (n - a) (drop a text))) y → y ≡ f (last ys) → put_mid a (n - a) text new ≡ bytes r.width (on_last f ys)
  last_written f new y made image =
      let w = r.width in
      let long = ap length part ∙ length_bytes_of w (last ys) in
      let ahead : take a text ≡ bytes w (front ys) = ap (take a) cut ∙ take_at (bytes w (front ys)) (bytes_of w (last ys)) a a_is in
      let new_is : new ≡ bytes_of w (f (last ys)) = made ∙ (λ t. bytes_of (long t) (image t)) in
      let behind : drop (n - a) (drop a text) ≡ [] = drop_all (n - a) (drop a text) enough in
      (λ t. ahead t ++ (new_is t ++ behind t)) ∙ ap (λ l. bytes w (front ys) ++ l) (append-nil (bytes_of w (f (last ys)))) ∙ sym (bytes_on_last w f ys some)

-- ---- a sector

tail_some : (r : RingKind) (f : ℕ → ℕ) (us ts : List ℕ) → 0 < length ts → crypted_tail_of r f us ts ≡ record { blocks = on_last f us; tail = mixed r (last us) ts }
tail_some r f us [] h = absurd (omega arith)
tail_some r f us (t ∷ ts) h = refl

mixed_zero : (r : RingKind) (ts : List ℕ) → mixed r 0 ts ≡ ts
mixed_zero r ts =
    placewise_same (mixed_at r 0) 0 ts
    (λ i b _ _. elim (dec_lt i r.width) [
      | yes l ↦ ap (bit_xor b) (bytes_of_at r.width 0 i l ∙ ap (λ (x : ℕ). x % 256) (zero-div (256 ^ (r.width - 1 - i)))) ∙ xor_zero_r b
      | no m ↦ mixed_past r 0 i b (omega arith)
    ])

no_blocks : (r : RingKind) (f : ℕ → ℕ) (ts : List ℕ) → crypted_tail_of r f [] ts ≡ record { blocks = []; tail = ts }
unfolding last on_last
no_blocks r f [] = refl
no_blocks r f (t ∷ ts) = λ j. record { blocks = []; tail = mixed_zero r (t ∷ ts) j }

module _ (r : RingKind) (f : ℕ → ℕ) (bs : List ℕ) (under : AllBelowBase 256 bs) where
  -- without a tail
  pub tail_stays : (v : ℕ) → v ≡ r.width → length bs ≤ length bs / v * v → bs ≡ rowwise r.width (crypted_tail r f) bs
  tail_stays v e le =
      let w = r.width in
      let n = length bs / w * w in
      let none = drop_all n bs (omega (arith, ap (λ w. length bs / w * w) e)) in
      let xs = first_blocks w (length bs / w) bs in
      sym (joined_parted r bs under)
      ∙ ap (λ ts. joined w (record { blocks = xs; tail = ts })) none
      ∙ sym (ap (λ ts. joined w (crypted_tail_of r f xs ts)) none)

  -- without a block
  pub blocks_stay : (v : ℕ) → v ≡ r.width → length bs / v * v ≡ 0 → bs ≡ rowwise r.width (crypted_tail r f) bs
  blocks_stay v e zero_is =
      let w = r.width in
      let m = length bs / w in
      let ts = drop (m * w) bs in
      let one : m * 1 ≤ m * w = mul-le-mul_left m r.some in
      let m_is : m ≡ 0 = omega (arith, ap (λ w. length bs / w * w) e) in
      let none : first_blocks w m bs ≡ [] = ap (λ i. first_blocks w i bs) m_is ∙ blocks_none w bs in
      sym (joined_parted r bs under)
      ∙ ap (λ xs. joined w (record { blocks = xs; tail = ts })) none
      ∙ sym (ap (λ xs. joined w (crypted_tail_of r f xs ts)) none ∙ ap (joined w) (no_blocks r f ts))

  abbrev pub ThenT : ℕ → Type 0
  ThenT v =
      let n = length bs / v * v in
      let a = n - v in
      (text rest out tail : List ℕ) (u y : ℕ) → text ≡ take n bs → rest ≡ drop n bs → 0 < length text → 0 < length rest
      → u ≡ number_from_digits 256 (take (length text - a) (drop a text)) % size r
      → y ≡ f u
      → out ≡ bytes_of (length (take (length text - a) (drop a text))) y
      → tail ≡ mixed r u rest
      → put_mid a (length text - a) text out ++ tail ≡ rowwise r.width (crypted_tail r f) bs

  then_here : ThenT r.width
  then_here text rest out tail u y text_is rest_is some tailed read image made mix =
      let w = r.width in
      let m = length bs / w in
      let n = m * w in
      let ys = first_blocks w m bs in
      let fits : n ≤ length bs = omega (arith, div-add-mod' (length bs) w) in
      let is : text ≡ bytes w ys = text_is ∙ sym (bytes_blocks w m bs under fits) in
      let count = length_blocks w m bs in
      let end : length text ≡ length ys * w = ap length is ∙ length_bytes w ys in
      let end_n : length text ≡ n = end ∙ ap (λ i. i * w) count in
      let any : 0 < length ys = some_of (length ys) w (subst (λ i. 0 < i) end some) in
      let room : 1 * w ≤ length ys * w = mul-le-mul_right w any in
      let start : n - w + w ≡ length text = omega arith in
      let low = blocks_below w m bs under in
      let u_is : u ≡ last ys = read ∙ last_read r ys (n - w) (length text) any end start text is low in
      let blocks = last_written r ys (n - w) (length text) any end start text is f out y made (image ∙ ap f u_is) in
      (λ t. blocks t ++ (mix ∙ ap₂ (mixed r) u_is rest_is) t)
      ∙ ap (joined w) (sym (tail_some r f ys (drop n bs) (subst (λ l. 0 < length l) rest_is tailed)))

  -- with both, in code that holds the width as v
  pub crypted_then : (v : ℕ) → v ≡ r.width → ThenT v
  crypted_then v e = subst ThenT (sym e) then_here

-- the last of some whole blocks begins within them
pub last_within : (n v : ℕ) → 0 < n / v * v → v ≤ n / v * v
last_within n v some = omega (arith, mul-le-mul_right v (some_of (n / v) v some))
