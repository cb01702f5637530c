-- Ψ and its inverse on lists of blocks.
use Rattle.std.proofs.Common.{◌≡◌, ℕ, ◌+◌, ◌-◌, ◌*◌, ◌<◌, List, [], ◌∷◌, ◌++◌, map, length, get_or, take, sym, refl, ap, ◌∙◌, ap₂, arith, length-append, length-take}
use lib.Bits.{bit_xor, xor_assoc, xor_lt}
use lib.ListN.{length-map}
use Rattle.std.specs.Int.Digits.{AllBelowBase}
use Rattle.std.proofs.ByRecursion.{All-append, All-get_or, All-take}
use Rattle.std.proofs.lemmas.List.{take_at, get_or_at, take_all, take_more}
use Rattle.rings.specs.Ring.{RingKind, size, times}
use Rattle.rings.specs.Sums.{power, hash_sum}
use Rattle.rings.proofs.Blending.{cancel}
use Rattle.rings.proofs.Powers.{hash_sum_below}
use Rattle.rings.proofs.Total.{times_below}
use Rattle.passes.specs.Sector.{Sector}
use Rattle.passes.proofs.Stages.{Sound, length_placewise, placewise_back, under_placewise, under_map, map_back}
use Rattle.heh_theory.specs.Heh.{front, last, offset_at, offset, middle, psi, middle_back, front_back, psi_back, wrapped, on_blocks}

-- ---- lists

pub front_push : (xs : List ℕ) (x : ℕ) → front (xs ++ (x ∷ [])) ≡ xs
front_push xs x =
    let e : length (xs ++ (x ∷ [])) - 1 ≡ length xs = omega (arith, length-append xs (x ∷ [])) in
    ap (λ (n : ℕ). take n (xs ++ (x ∷ []))) e ∙ take_at xs (x ∷ []) (length xs) refl

pub last_push : (xs : List ℕ) (x : ℕ) → last (xs ++ (x ∷ [])) ≡ x
last_push xs x =
    let e : length (xs ++ (x ∷ [])) - 1 ≡ length xs = omega (arith, length-append xs (x ∷ [])) in
    ap (λ (n : ℕ). get_or (xs ++ (x ∷ [])) n 0) e ∙ get_or_at xs x [] 0 (length xs) refl

pub front_last : (xs : List ℕ) → 0 < length xs → front xs ++ (last xs ∷ []) ≡ xs
front_last xs some =
    sym (take_more xs (length xs - 1) 0 (omega arith)) ∙ take_all (length xs - 1 + 1) xs (omega arith)

pub length_front : (xs : List ℕ) → length (front xs) ≡ length xs - 1
length_front xs = simp length-take (omega arith)

-- m blocks
pub record Blocks (r : RingKind) (m : ℕ) (xs : List ℕ) : Type 0 where
  pub count : length xs ≡ m
  pub low : AllBelowBase (size r) xs

module _ (r : RingKind) where
  offset_at_back : (y β i x : ℕ) → offset_at r y β i (offset_at r y β i x) ≡ x
  offset_at_back y β i x =
      let p : ℕ = times r (power r 2 i) β in
      xor_assoc (offset_at r y β i x) y p ∙ ap (λ (a : ℕ). bit_xor a (bit_xor y p)) (xor_assoc x y p) ∙ cancel x (bit_xor y p)

  offset_back : (y β : ℕ) (xs : List ℕ) → offset r y β (offset r y β xs) ≡ xs
  offset_back y β xs = placewise_back (offset_at r y β) (offset_at_back y β) 1 xs

  -- ---- each undoes the other

  pub psi_undone : (τ β : ℕ) (xs : List ℕ) → 0 < length xs → psi_back r τ β (psi r τ β xs) ≡ xs
  psi_undone τ β xs some =
      let fs : List ℕ = front xs in
      let y : ℕ = middle r τ xs in
      let ps : List ℕ = offset r y β fs in
      let y_is : middle_back r β (psi r τ β xs) ≡ y = ap (λ (z : ℕ). bit_xor z β) (last_push ps (bit_xor y β)) ∙ cancel y β in
      let fs_is : front_back r β (psi r τ β xs) ≡ fs = ap₂ (λ (v : ℕ) (l : List ℕ). offset r v β l) y_is (front_push ps (bit_xor y β)) ∙ offset_back y β fs in
      let x_is : bit_xor y (hash_sum r τ fs) ≡ last xs = cancel (last xs) (hash_sum r τ fs) in
      ap₂ (λ (v : ℕ) (l : List ℕ). l ++ (bit_xor v (hash_sum r τ l) ∷ [])) y_is fs_is
      ∙ ap (λ (v : ℕ). fs ++ (v ∷ [])) x_is
      ∙ front_last xs some

  pub psi_redone : (τ β : ℕ) (zs : List ℕ) → 0 < length zs → psi r τ β (psi_back r τ β zs) ≡ zs
  psi_redone τ β zs some =
      let y : ℕ = middle_back r β zs in
      let fs : List ℕ = front_back r β zs in
      let x : ℕ = bit_xor y (hash_sum r τ fs) in
      let y_is : middle r τ (psi_back r τ β zs) ≡ y = ap₂ (λ (v : ℕ) (l : List ℕ). bit_xor v (hash_sum r τ l)) (last_push fs x) (front_push fs x) ∙ cancel y (hash_sum r τ fs) in
      ap₂ (λ (v : ℕ) (l : List ℕ). offset r v β l ++ (bit_xor v β ∷ [])) y_is (front_push fs x)
      ∙ ap₂ (λ (l : List ℕ) (v : ℕ). l ++ (v ∷ [])) (offset_back y β (front zs)) (cancel (last zs) β)
      ∙ front_last zs some

  -- ---- blocks stay blocks

  xored : (a b : ℕ) → a < size r → b < size r → bit_xor a b < size r
  xored a b = xor_lt (8 * r.width) a b

  last_low : (m : ℕ) → 0 < m → (xs : List ℕ) → Blocks r m xs → last xs < size r
  last_low m some xs ok =
      let c = ok.count in
      All-get_or (λ (x : ℕ). x < size r) xs (length xs - 1) 0 (omega arith) ok.low

  pub offset_low : (y β : ℕ) → y < size r → (xs : List ℕ) → AllBelowBase (size r) xs → AllBelowBase (size r) (offset r y β xs)
  offset_low y β h xs =
      under_placewise (size r) (offset_at r y β) (λ i x l. xored (bit_xor x y) (times r (power r 2 i) β) (xored x y l h) (times_below r (power r 2 i) β)) 1 xs

  pub middle_low : (τ m : ℕ) → 0 < m → (xs : List ℕ) → Blocks r m xs → middle r τ xs < size r
  middle_low τ m some xs ok = xored (last xs) (hash_sum r τ (front xs)) (last_low m some xs ok) (hash_sum_below r τ (front xs))

  pushed : (m : ℕ) → 0 < m → (xs fs : List ℕ) (x : ℕ) → Blocks r m xs → length fs ≡ length (front xs) → AllBelowBase (size r) fs → x < size r → Blocks r m (fs ++ (x ∷ []))
  pushed m some xs fs x ok long low h =
      let c = ok.count in
      let f = length_front xs in
      record {
        count = length-append fs (x ∷ []) ∙ omega arith;
        low = All-append (λ (x : ℕ). x < size r) fs (x ∷ []) low (h, tt);
      }

  pub psi_sound : (τ β m : ℕ) → β < size r → 0 < m → (xs : List ℕ) → Blocks r m xs → Blocks r m (psi r τ β xs)
  psi_sound τ β m b some xs ok =
      let y : ℕ = middle r τ xs in
      let h = middle_low τ m some xs ok in
      pushed m some xs (offset r y β (front xs)) (bit_xor y β) ok (length_placewise (offset_at r y β) 1 (front xs))
      (offset_low y β h (front xs) (All-take (λ (x : ℕ). x < size r) (length xs - 1) xs ok.low)) (xored y β h b)

  pub psi_back_sound : (τ β m : ℕ) → β < size r → 0 < m → (zs : List ℕ) → Blocks r m zs → Blocks r m (psi_back r τ β zs)
  psi_back_sound τ β m b some zs ok =
      let y : ℕ = middle_back r β zs in
      let h = xored (last zs) β (last_low m some zs ok) b in
      let fs : List ℕ = front_back r β zs in
      pushed m some zs fs (bit_xor y (hash_sum r τ fs)) ok (length_placewise (offset_at r y β) 1 (front zs))
      (offset_low y β h (front zs) (All-take (λ (x : ℕ). x < size r) (length zs - 1) zs ok.low)) (xored y (hash_sum r τ fs) h (hash_sum_below r τ fs))

  -- ---- with a map of blocks wrapped them

  module _ (m : ℕ) (some : 0 < m) (f : ℕ → ℕ) (low : (x : ℕ) → x < size r → f x < size r) where
    pub map_sound : (xs : List ℕ) → Blocks r m xs → Blocks r m (map f xs)
    map_sound xs ok = record { count = length-map xs f ∙ ok.count; low = under_map (size r) f low xs ok.low }

    module _ (τ β β' : ℕ) (b : β < size r) (b' : β' < size r) where
      pub wrapped_sound : (xs : List ℕ) → Blocks r m xs → Blocks r m (wrapped r f τ β β' xs)
      wrapped_sound xs ok = psi_back_sound τ β' m b' some (map f (psi r τ β xs)) (map_sound (psi r τ β xs) (psi_sound τ β m b some xs ok))

      pub wrapped_undone : (g : ℕ → ℕ) → ((x : ℕ) → x < size r → g (f x) ≡ x) → (xs : List ℕ) → Blocks r m xs → wrapped r g τ β' β (wrapped r f τ β β' xs) ≡ xs
      wrapped_undone g undo xs ok =
          let ys : List ℕ = psi r τ β xs in
          let oy = psi_sound τ β m b some xs ok in
          let oz = map_sound ys oy in
          let cz = oz.count in
          let cx = ok.count in
          ap (λ (l : List ℕ). psi_back r τ β (map g l)) (psi_redone τ β' (map f ys) (omega arith))
          ∙ ap (psi_back r τ β) (map_back (size r) f g undo ys oy.low)
          ∙ psi_undone τ β xs (omega arith)

-- ---- on sectors

module _ (r : RingKind) (m t : ℕ) (f : List ℕ → List ℕ) where
  pub on_blocks_sound : ((xs : List ℕ) → Blocks r m xs → Blocks r m (f xs)) → (s : Sector) → Sound r m t s → Sound r m t (on_blocks f s)
  on_blocks_sound stays s ok =
      let b = stays s.blocks (record { count = ok.count; low = ok.low }) in
      record { count = b.count; rest = ok.rest; low = b.low; small = ok.small }

  pub on_blocks_undone : (g : List ℕ → List ℕ) → ((xs : List ℕ) → Blocks r m xs → g (f xs) ≡ xs) → (s : Sector) → Sound r m t s → on_blocks g (on_blocks f s) ≡ s
  on_blocks_undone g undo s ok = ap (λ (xs : List ℕ). record { blocks = xs; tail = s.tail }) (undo s.blocks (record { count = ok.count; low = ok.low }))
