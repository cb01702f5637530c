-- What Ψ and its inverse write into a buffer.
use Rattle.std.proofs.Common.{◌≡◌, ℕ, suc, ◌+◌, ◌-◌, ◌*◌, ◌/◌, ◌%◌, ◌^◌, ◌<◌, List, [], ◌∷◌, ◌++◌, map, length, take, drop, sym, refl, ap, ◌∙◌, subst, ap₂, append-nil, mod-eq_of_lt, suc-mul, add-one, arith, length-drop}
use lib.Bits.{bit_xor, xor_lt}
use Rattle.std.specs.Int.Digits.{number_from_digits, AllBelowBase}
use Rattle.std.proofs.ByRecursion.{All-drop}
use Rattle.std.proofs.lemmas.Nat.{div-add-mod'}
use Rattle.std.proofs.lemmas.List.{take_all, drop_all, map-append}
use Rattle.rings.specs.Blocks.{bytes_of, block_at, first_blocks, blocks}
use Rattle.rings.specs.Ring.{RingKind, size, times}
use Rattle.rings.specs.Sums.{power, hash_sum}
use Rattle.rings.proofs.Bytes.{pow_bytes, length_bytes_of, block_below, blocks_more}
use Rattle.rings.proofs.Powers.{hash_sum_below}
use Rattle.rings.proofs.Rows.{number_bytes_of, bytes_of_number}
use Rattle.rings.proofs.Total.{times_comm, times_assoc}
use Rattle.passes.specs.Passes.{placewise, plus, whitened_at}
use Rattle.passes.specs.Sector.{Sector, bytes, joined, rowwise}
use Rattle.passes.proofs.Parts.{bytes_blocks, bytes_push, blocks_below, parted_joined, stage}
use Rattle.passes.proofs.Stages.{under_map}
use Rattle.heh_theory.specs.Heh.{offset, offset_at, on_blocks}
use Rattle.heh_theory.specs.Heh.{psi as heh_psi, psi_back as heh_psi_back, wrapped as heh_wrapped}
use Rattle.heh_theory.proofs.Inverse.{front_push, last_push, offset_low}
use Rattle.heh_theory.proofs.Undoing.{Size, blocks_some}
use Rattle.heh.specs.Halves.{Halves, last_block, offset_front, psi, psi_back, mapped_halves, wrapped}

-- α^i·(α·β) = α^(i+1)·β
module _ (r : RingKind) where
  shifted : (β i : ℕ) → times r (power r 2 i) (times r 2 β) ≡ times r (power r 2 (suc i)) β
  unfolding power
  shifted β i = sym (times_assoc r (power r 2 i) 2 β) ∙ ap (λ (p : ℕ). times r p β) (times_comm r (power r 2 i) 2)

  pub offset_is : (y β i : ℕ) (xs : List ℕ) → placewise (whitened_at r (times r 2 β)) i (plus y xs) ≡ placewise (offset_at r y β) (suc i) xs
  unfolding placewise
  offset_is y β i [] = refl
  offset_is y β i (x ∷ xs) = ap₂ ◌∷◌ (ap (bit_xor (bit_xor x y)) (shifted β i)) (offset_is y β (suc i) xs)

-- ---- a row of blocks that is cut before its last

module _ (r : RingKind) where
  -- the halves hold ps and q
  pub record Holds (h : Halves) (ps : List ℕ) (q : ℕ) : Type 0 where
    pub front : h.front ≡ bytes r.width ps
    pub last : h.last ≡ bytes_of r.width q
    pub low : AllBelowBase (size r) ps
    pub small : q < size r

  -- a map of the blocks before the last
  front_mapped : (f : List ℕ → List ℕ) (h : Halves) (ps : List ℕ) (q : ℕ) → Holds h ps q → rowwise r.width (on_blocks f) h.front ≡ bytes r.width (f ps)
  front_mapped f h ps q ok =
      let s : Sector = record { blocks = ps; tail = [] } in
      let whole : h.front ≡ joined r.width s = ok.front ∙ sym (append-nil (bytes r.width ps)) in
      stage r (length ps) 0 r.some h.front s (on_blocks f) whole (record { count = refl; rest = refl; low = ok.low; small = tt })
      ∙ append-nil (bytes r.width (f ps))

  front_blocks : (h : Halves) (ps : List ℕ) (q : ℕ) → Holds h ps q → blocks r.width h.front ≡ ps
  front_blocks h ps q ok =
      let s : Sector = record { blocks = ps; tail = [] } in
      let whole : h.front ≡ joined r.width s = ok.front ∙ sym (append-nil (bytes r.width ps)) in
      ap (blocks r.width) whole
      ∙ ap (λ (x : Sector). x.blocks) (parted_joined r (length ps) 0 r.some s (record { count = refl; rest = refl; low = ok.low; small = tt }))

  last_is : (h : Halves) (ps : List ℕ) (q : ℕ) → Holds h ps q → last_block r h ≡ q
  last_is h ps q ok =
      let wide : q < 256 ^ r.width = subst (λ (i : ℕ). q < i) (sym (pow_bytes r.width)) ok.small in
      ap (λ (l : List ℕ). number_from_digits 256 l % size r) ok.last ∙ ap (λ (i : ℕ). i % size r) (number_bytes_of r.width q wide) ∙ mod-eq_of_lt ok.small

  last_long : (h : Halves) (ps : List ℕ) (q : ℕ) → Holds h ps q → length h.last ≡ r.width
  last_long h ps q ok = ap length ok.last ∙ length_bytes_of r.width q

  module _ (h : Halves) (ps : List ℕ) (q : ℕ) (ok : Holds h ps q) where
    -- each stage as the definition has it, on ps and then q

    pub psi_holds : (τ β : ℕ) → β < size r → let Y : ℕ = bit_xor q (hash_sum r τ ps) in Holds (psi r τ β h) (offset r Y β ps) (bit_xor Y β)
    psi_holds τ β b =
        let Y = bit_xor q (hash_sum r τ ps) in
        let y = xor_lt (8 * r.width) q (hash_sum r τ ps) ok.small (hash_sum_below r τ ps) in
        let is : bit_xor (last_block r h) (hash_sum r τ (blocks r.width h.front)) ≡ Y = ap₂ (λ (x : ℕ) (l : List ℕ). bit_xor x (hash_sum r τ l)) (last_is h ps q ok) (front_blocks h ps q ok) in
        record {
          front = ap (λ (y : ℕ). offset_front r y β h.front) is ∙ front_mapped (offset r Y β) h ps q ok;
          last = ap₂ (λ (n y : ℕ). bytes_of n (bit_xor y β)) (last_long h ps q ok) is;
          low = offset_low r Y β y ps ok.low;
          small = xor_lt (8 * r.width) Y β y b;
        }

    pub mapped_holds : (f : ℕ → ℕ) → ((x : ℕ) → x < size r → f x < size r) → Holds (mapped_halves r f h) (map f ps) (f q)
    unfolding bytes
    mapped_holds f low =
        let one : Holds (record { front = h.last; last = h.last }) (q ∷ []) q =
        record { front = ok.last ∙ sym (append-nil (bytes_of r.width q)); last = ok.last; low = (ok.small, tt); small = ok.small } in
        record {
          front = front_mapped (map f) h ps q ok;
          last = front_mapped (map f) (record { front = h.last; last = h.last }) (q ∷ []) q one ∙ append-nil (bytes_of r.width (f q));
          low = under_map (size r) f low ps ok.low;
          small = low q ok.small;
        }

    pub back_holds : (τ β : ℕ) → β < size r → let Y : ℕ = bit_xor q β in Holds (psi_back r τ β h) (offset r Y β ps) (bit_xor Y (hash_sum r τ (offset r Y β ps)))
    back_holds τ β b =
        let Y = bit_xor q β in
        let y = xor_lt (8 * r.width) q β ok.small b in
        let fs = offset r Y β ps in
        let is : bit_xor (last_block r h) β ≡ Y = ap (λ (x : ℕ). bit_xor x β) (last_is h ps q ok) in
        let fronts = ap (λ (y : ℕ). offset_front r y β h.front) is ∙ front_mapped (offset r Y β) h ps q ok in
        let low = offset_low r Y β y ps ok.low in
        let half : Holds (record { front = offset_front r (bit_xor (last_block r h) β) β h.front; last = h.last }) fs q = record { front = fronts; last = ok.last; low = low; small = ok.small } in
        record {
          front = fronts;
          last =
              ap₂ (λ (n y : ℕ). bytes_of n (bit_xor y (hash_sum r τ (blocks r.width (offset_front r (bit_xor (last_block r h) β) β h.front))))) (last_long h ps q ok) is
              ∙ ap (λ (l : List ℕ). bytes_of r.width (bit_xor Y (hash_sum r τ l))) (front_blocks _ fs q half);
          low = low;
          small = xor_lt (8 * r.width) Y (hash_sum r τ fs) y (hash_sum_below r τ fs);
        }

  psi_push : (τ β : ℕ) (ps : List ℕ) (q : ℕ) → let Y : ℕ = bit_xor q (hash_sum r τ ps) in heh_psi r τ β (ps ++ (q ∷ [])) ≡ offset r Y β ps ++ (bit_xor Y β ∷ [])
  psi_push τ β ps q =
      ap₂ (λ (x : ℕ) (l : List ℕ). offset r (bit_xor x (hash_sum r τ l)) β l ++ (bit_xor (bit_xor x (hash_sum r τ l)) β ∷ [])) (last_push ps q) (front_push ps q)

  back_push : (τ β : ℕ) (ps : List ℕ) (q : ℕ) → let Y : ℕ = bit_xor q β in heh_psi_back r τ β (ps ++ (q ∷ [])) ≡ offset r Y β ps ++ (bit_xor Y (hash_sum r τ (offset r Y β ps)) ∷ [])
  back_push τ β ps q =
      ap₂ (λ (x : ℕ) (l : List ℕ). offset r (bit_xor x β) β l ++ (bit_xor (bit_xor x β) (hash_sum r τ (offset r (bit_xor x β) β l)) ∷ [])) (last_push ps q) (front_push ps q)

  -- what stands in the halves of a row of blocks, wrapped, is the row wrapped
  module _ (bs : List ℕ) (under : AllBelowBase 256 bs) (fit : Size r (length bs)) (e : ℕ) (at : e ≡ length bs - r.width) where
    ahead : ℕ
    ahead = length bs / r.width - 1

    count : length bs / r.width ≡ ahead + 1
    unfolding ahead
    count = omega (arith, blocks_some r (length bs) fit)

    whole : length bs ≡ ahead * r.width + r.width
    unfolding ahead
    whole =
        omega (arith, div-add-mod' (length bs) r.width, fit.whole, ap (λ (n : ℕ). n * r.width) (count ∙ add-one ahead), suc-mul ahead r.width)

    no_tail : drop (length bs / r.width * r.width) bs ≡ []
    no_tail = drop_all (length bs / r.width * r.width) bs (omega (arith, div-add-mod' (length bs) r.width, fit.whole))

    starts : Holds (record { front = take e bs; last = drop e bs }) (first_blocks r.width ahead bs) (block_at r.width ahead bs)
    starts =
        let w = r.width in
        let e_is : e ≡ ahead * w = omega (arith, at, whole) in
        let one = drop (ahead * w) bs in
        let long : length one ≡ w = simp length-drop (omega (arith, whole)) in
        let read : take w one ≡ one = take_all w one (omega (arith, long)) in
        record {
          front = ap (λ (n : ℕ). take n bs) e_is ∙ sym (bytes_blocks w ahead bs under (omega (arith, whole)));
          last =
              ap (λ (n : ℕ). drop n bs) e_is
              ∙ sym (bytes_of_number one (All-drop (λ (d : ℕ). d < 256) (ahead * w) bs under))
              ∙ ap₂ (λ (n : ℕ) (l : List ℕ). bytes_of n (number_from_digits 256 l)) long (sym read);
          low = blocks_below w ahead bs under;
          small = block_below w ahead bs under;
        }

    pub wrapped_whole : (f : ℕ → ℕ) → ((x : ℕ) → x < size r → f x < size r) → (τ β β' : ℕ) → β < size r → β' < size r → (front last : List ℕ)
        → record { front = front; last = last } ≡ wrapped r f τ β β' (record { front = take e bs; last = drop e bs })
        → front ++ last ≡ rowwise r.width (on_blocks (heh_wrapped r f τ β β')) bs
    wrapped_whole f low τ β β' b b' front last is =
        let w = r.width in
        let ps = first_blocks w ahead bs in
        let q = block_at w ahead bs in
        let y1 = bit_xor q (hash_sum r τ ps) in
        let p1 = offset r y1 β ps in
        let q1 = bit_xor y1 β in
        let o1 = psi_holds (record { front = take e bs; last = drop e bs }) ps q starts τ β b in
        let o2 = mapped_holds _ p1 q1 o1 f low in
        let o3 = back_holds _ (map f p1) (f q1) o2 τ β' b' in
        let y2 = bit_xor (f q1) β' in
        let p3 = offset r y2 β' (map f p1) in
        let q3 = bit_xor y2 (hash_sum r τ p3) in
        let xs : blocks w bs ≡ ps ++ (q ∷ []) = ap (λ (n : ℕ). first_blocks w n bs) count ∙ blocks_more w ahead bs in
        let made : heh_wrapped r f τ β β' (blocks w bs) ≡ p3 ++ (q3 ∷ []) =
        ap (heh_wrapped r f τ β β') xs
        ∙ ap (λ (l : List ℕ). heh_psi_back r τ β' (map f l)) (psi_push τ β ps q)
        ∙ ap (heh_psi_back r τ β') (map-append f p1 (q1 ∷ []))
        ∙ back_push τ β' (map f p1) (f q1) in
        (λ t. (is t).front ++ (is t).last)
        ∙ ap₂ ◌++◌ o3.front o3.last
        ∙ sym (bytes_push w p3 q3)
        ∙ sym (append-nil (bytes w (p3 ++ (q3 ∷ []))))
        ∙ (λ t. bytes w (sym made t) ++ sym no_tail t)
