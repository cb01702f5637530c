-- What the passes keep of a sector, and what undoes them.
use Rattle.std.proofs.Common.{◌≡◌, ℕ, zero, suc, ◌+◌, ◌-◌, ◌*◌, ◌^◌, ◌<◌, List, [], ◌∷◌, ◌++◌, map, length, get_or, replicate, sym, refl, ap, ◌∙◌, subst, arith, lit<, length-append, pow_pos}
use lib.Bits.{bit_xor, xor_lt}
use lib.ListN.{length-map, length-replicate}
use Rattle.std.specs.Int.Digits.{number_from_digits, AllBelowBase}
use Rattle.std.proofs.lemmas.Int.Digits.{number_lt}
use Rattle.std.proofs.ByRecursion.{All-append}
use Rattle.rings.specs.Blocks.{bytes_of}
use Rattle.rings.specs.Ring.{RingKind, size, times}
use Rattle.rings.specs.Sums.{power}
use Rattle.rings.proofs.Blending.{cancel}
use Rattle.rings.proofs.Bytes.{pow_bytes}
use Rattle.rings.proofs.Powers.{power_none, power_more, power_below}
use Rattle.rings.proofs.Rows.{row_parts, row_bytes_of}
use Rattle.rings.proofs.Total.{alpha_below, times_below, times_blocks, times_comm, times_assoc, times_unit}
use Rattle.passes.specs.Passes.{placewise, plus, added, mapped, whitened_at, whitened, pad, tail_block, mixed_at, mixed}
use Rattle.passes.specs.Sector.{Sector}

-- ---- lists

pub plus_plus : (s : ℕ) (xs : List ℕ) → plus s (plus s xs) ≡ xs
plus_plus s [] = refl
plus_plus s (x ∷ xs) = λ t. cancel x s t ∷ plus_plus s xs t

pub placewise_back : (f : ℕ → ℕ → ℕ) → ((i x : ℕ) → f i (f i x) ≡ x) → (i : ℕ) (xs : List ℕ) → placewise f i (placewise f i xs) ≡ xs
unfolding placewise
placewise_back f b i [] = refl
placewise_back f b i (x ∷ xs) = λ t. b i x t ∷ placewise_back f b (suc i) xs t

pub length_placewise : (f : ℕ → ℕ → ℕ) (i : ℕ) (xs : List ℕ) → length (placewise f i xs) ≡ length xs
unfolding placewise
length_placewise f i [] = refl
length_placewise f i (x ∷ xs) = ap suc (length_placewise f (suc i) xs)

pub under_placewise : (b : ℕ) (f : ℕ → ℕ → ℕ) → ((i x : ℕ) → x < b → f i x < b) → (i : ℕ) (xs : List ℕ) → AllBelowBase b xs → AllBelowBase b (placewise f i xs)
unfolding placewise
under_placewise b f low i [] h = tt
under_placewise b f low i (x ∷ xs) h = (low i x h.0, under_placewise b f low (suc i) xs h.1)

pub under_map : (b : ℕ) (f : ℕ → ℕ) → ((x : ℕ) → x < b → f x < b) → (xs : List ℕ) → AllBelowBase b xs → AllBelowBase b (map f xs)
under_map b f low [] h = tt
under_map b f low (x ∷ xs) h = (low x h.0, under_map b f low xs h.1)

pub map_back : (b : ℕ) (f g : ℕ → ℕ) → ((x : ℕ) → x < b → g (f x) ≡ x) → (xs : List ℕ) → AllBelowBase b xs → map g (map f xs) ≡ xs
map_back b f g undo [] h = refl
map_back b f g undo (x ∷ xs) h = λ t. undo x h.0 t ∷ map_back b f g undo xs h.1 t

under_get_d : (b : ℕ) → 0 < b → (xs : List ℕ) (i : ℕ) → AllBelowBase b xs → get_or xs i 0 < b
under_get_d b pos [] i h = pos
under_get_d b pos (x ∷ xs) zero h = h.0
under_get_d b pos (x ∷ xs) (suc i) h = under_get_d b pos xs i h.1

under_zeros : (n : ℕ) → AllBelowBase 256 (replicate n 0)
under_zeros zero = tt
under_zeros (suc n) = (lit< tt, under_zeros n)

-- ---- sectors

-- m blocks, and t bytes after them
pub record Sound (r : RingKind) (m t : ℕ) (s : Sector) : Type 0 where
  pub count : length s.blocks ≡ m
  pub rest : length s.tail ≡ t
  pub low : AllBelowBase (size r) s.blocks
  pub small : AllBelowBase 256 s.tail

module _ (r : RingKind) where
  pub pad_below : (ys : List ℕ) → AllBelowBase 256 ys → length ys < r.width → pad r ys < size r
  pad_below ys h short =
      let n = r.width - 1 - length ys in
      let zs : List ℕ = replicate n 0 in
      let all : List ℕ = ys ++ (0x80 ∷ zs) in
      let whole : length ys + suc n ≡ r.width = omega arith in
      let long : length all ≡ r.width = length-append ys (0x80 ∷ zs) ∙ ap (λ i. length ys + suc i) (length-replicate n 0) ∙ whole in
      let below : number_from_digits 256 all < 256 ^ length all = number_lt 256 all (All-append (λ d. d < 256) ys (0x80 ∷ zs) h (lit< tt, under_zeros n)) in
      subst (λ i. number_from_digits 256 all < i) (ap (λ i. 256 ^ i) long ∙ pow_bytes r.width) below

  tail_low : (ys : List ℕ) → AllBelowBase 256 ys → length ys < r.width → tail_block r ys < size r
  tail_low [] h short = pow_pos (8 * r.width)
  tail_low (y ∷ ys) h short = pad_below (y ∷ ys) h short

  pub tail_below : (m t : ℕ) → t < r.width → (s : Sector) → Sound r m t s → tail_block r s.tail < size r
  tail_below m t short s ok = tail_low s.tail ok.small (rw ok.rest short)

  byte_below : (u i : ℕ) → get_or (bytes_of r.width u) i 0 < 256
  byte_below u i = under_get_d 256 (lit< tt) (bytes_of r.width u) i (row_parts r.width (bytes_of r.width u) (row_bytes_of r.width u)).1

  -- ---- what each pass keeps

  pub added_sound : (m t v : ℕ) → v < size r → (s : Sector) → Sound r m t s → Sound r m t (added v s)
  added_sound m t v h s ok = record {
    count = length-map s.blocks _ ∙ ok.count;
    rest = ok.rest;
    low = under_map (size r) (λ x. bit_xor x v) (λ x l. xor_lt (8 * r.width) x v l h) s.blocks ok.low;
    small = ok.small;
  }

  pub mapped_sound : (m t : ℕ) (f : ℕ → ℕ) → ((x : ℕ) → x < size r → f x < size r) → (s : Sector) → Sound r m t s → Sound r m t (mapped f s)
  mapped_sound m t f low s ok = record {
    count = length-map s.blocks _ ∙ ok.count;
    rest = ok.rest;
    low = under_map (size r) f low s.blocks ok.low;
    small = ok.small;
  }

  pub whitened_sound : (m t β : ℕ) (s : Sector) → Sound r m t s → Sound r m t (whitened r β s)
  whitened_sound m t β s ok = record {
    count = length_placewise (whitened_at r β) 0 s.blocks ∙ ok.count;
    rest = ok.rest;
    low = under_placewise (size r) (whitened_at r β) (λ i x l. xor_lt (8 * r.width) x _ l (times_below r (power r 2 i) β)) 0 s.blocks ok.low;
    small = ok.small;
  }

  pub length_mixed : (u : ℕ) (ys : List ℕ) → length (mixed r u ys) ≡ length ys
  length_mixed u ys = length_placewise (mixed_at r u) 0 ys

  pub under_mixed : (u : ℕ) (ys : List ℕ) → AllBelowBase 256 ys → AllBelowBase 256 (mixed r u ys)
  under_mixed u ys h = under_placewise 256 (mixed_at r u) (λ i x l. xor_lt 8 x _ l (byte_below u i)) 0 ys h

  -- ---- what undoes each pass

  pub added_back : (v : ℕ) (s : Sector) → added v (added v s) ≡ s
  added_back v s = λ t. record { blocks = plus_plus v s.blocks t; tail = s.tail }

  pub mapped_back : (f g : ℕ → ℕ) → ((x : ℕ) → x < size r → g (f x) ≡ x) → (s : Sector) → AllBelowBase (size r) s.blocks → mapped g (mapped f s) ≡ s
  mapped_back f g undo s low = λ t. record { blocks = map_back (size r) f g undo s.blocks low t; tail = s.tail }

  pub whitened_back : (β : ℕ) (s : Sector) → whitened r β (whitened r β s) ≡ s
  whitened_back β s = λ t. record { blocks = placewise_back (whitened_at r β) (λ i x. cancel x (times r (power r 2 i) β)) 0 s.blocks t; tail = s.tail }

  pub mixed_back : (u : ℕ) (ys : List ℕ) → mixed r u (mixed r u ys) ≡ ys
  mixed_back u ys = placewise_back (mixed_at r u) (λ i x. cancel x (get_or (bytes_of r.width u) i 0)) 0 ys

  -- ---- the offsets α^i·β

  pub offset_first : (β : ℕ) → β < size r → β ≡ times r (power r 2 0) β
  offset_first β small = sym (ap (λ (x : ℕ). times r x β) (power_none r 2) ∙ times_comm r 1 β ∙ times_unit r β small)

  pub offset_more : (β i : ℕ) → r.product 2 (times r (power r 2 i) β) ≡ times r (power r 2 (i + 1)) β
  offset_more β i =
      let p = power r 2 i in
      sym (times_blocks r 2 (times r p β) (alpha_below r) (times_below r p β))
      ∙ sym (times_assoc r 2 p β)
      ∙ ap (λ (x : ℕ). times r x β) (times_blocks r 2 p (alpha_below r) (power_below r 2 i) ∙ sym (power_more r 2 i (alpha_below r)))
