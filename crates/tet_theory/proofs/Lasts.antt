-- The blocks through the cipher, the last twice where there is a tail, and what undoes it.
use Rattle.std.proofs.Common.{◌≡◌, ℕ, suc, ◌<◌, List, [], ◌∷◌, map, length, refl, ap, ◌∙◌, arith}
use lib.ListN.{length-map}
use Rattle.std.specs.Int.Digits.{AllBelowBase}
use Rattle.rings.specs.Ring.{RingKind, size}
use Rattle.passes.specs.Passes.{placewise, mixed}
use Rattle.passes.specs.Sector.{Sector}
use Rattle.passes.proofs.Stages.{Sound, under_map, map_back, length_mixed, under_mixed, mixed_back}
use Rattle.tet_theory.specs.Tet.{last, on_last, crypted_tail_of, crypted}

under_on_last : (b : ℕ) (f : ℕ → ℕ) → ((x : ℕ) → x < b → f x < b) → (xs : List ℕ) → AllBelowBase b xs → AllBelowBase b (on_last f xs)
unfolding on_last
under_on_last b f low [] h = tt
under_on_last b f low (x ∷ []) h = (low x h.0, tt)
under_on_last b f low (x ∷ y ∷ ys) h = (h.0, under_on_last b f low (y ∷ ys) h.1)

length_on_last : (f : ℕ → ℕ) (xs : List ℕ) → length (on_last f xs) ≡ length xs
unfolding on_last
length_on_last f [] = refl
length_on_last f (x ∷ []) = refl
length_on_last f (x ∷ y ∷ ys) = ap suc (length_on_last f (y ∷ ys))

last_cons : (x : ℕ) (ys : List ℕ) → 0 < length ys → last (x ∷ ys) ≡ last ys
unfolding last
last_cons x [] h = absurd (omega arith)
last_cons x (y ∷ ys) h = refl

on_last_cons : (f : ℕ → ℕ) (x : ℕ) (ys : List ℕ) → 0 < length ys → on_last f (x ∷ ys) ≡ x ∷ on_last f ys
unfolding on_last
on_last_cons f x [] h = absurd (omega arith)
on_last_cons f x (y ∷ ys) h = refl

module _ (b : ℕ) (f g : ℕ → ℕ) (low : (x : ℕ) → x < b → f x < b) (undo : (x : ℕ) → x < b → g (f x) ≡ x) where
  some : (y : ℕ) (ys : List ℕ) → 0 < length (map g (on_last f (map f (y ∷ ys))))
  some y ys = rw (length-map (on_last f (map f (y ∷ ys))) g, length_on_last f (map f (y ∷ ys)), length-map (y ∷ ys) f) (omega arith)

  last_back : (xs : List ℕ) → AllBelowBase b xs → last (map g (on_last f (map f xs))) ≡ last (map f xs)
  unfolding last on_last
  last_back [] h = refl
  last_back (x ∷ []) h = undo (f x) (low x h.0)
  last_back (x ∷ y ∷ ys) h = last_cons (g (f x)) (map g (on_last f (map f (y ∷ ys)))) (some y ys) ∙ last_back (y ∷ ys) h.1

  on_last_back : (xs : List ℕ) → AllBelowBase b xs → on_last g (map g (on_last f (map f xs))) ≡ xs
  unfolding on_last
  on_last_back [] h = refl
  on_last_back (x ∷ []) h = λ t. (ap g (undo (f x) (low x h.0)) ∙ undo x h.0) t ∷ []
  on_last_back (x ∷ y ∷ ys) h =
      on_last_cons g (g (f x)) (map g (on_last f (map f (y ∷ ys)))) (some y ys)
      ∙ (λ t. undo x h.0 t ∷ on_last_back (y ∷ ys) h.1 t)

module _ (r : RingKind) (f : ℕ → ℕ) (low : (x : ℕ) → x < size r → f x < size r) where
  sound_with : (m t : ℕ) (xs ts : List ℕ) → Sound r m t (record { blocks = xs; tail = ts }) → Sound r m t (crypted_tail_of r f (map f xs) ts)
  sound_with m t xs [] ok = record { count = length-map xs f ∙ ok.count; rest = ok.rest; low = under_map (size r) f low xs ok.low; small = tt }
  sound_with m t xs (b ∷ bs) ok =
      let u = last (map f xs) in
      record {
        count = length_on_last f (map f xs) ∙ length-map xs f ∙ ok.count;
        rest = length_mixed r u (b ∷ bs) ∙ ok.rest;
        low = under_on_last (size r) f low (map f xs) (under_map (size r) f low xs ok.low);
        small = under_mixed r u (b ∷ bs) ok.small;
      }

  pub crypted_sound : (m t : ℕ) (s : Sector) → Sound r m t s → Sound r m t (crypted r f s)
  crypted_sound m t s ok = sound_with m t s.blocks s.tail ok

  module _ (g : ℕ → ℕ) (undo : (x : ℕ) → x < size r → g (f x) ≡ x) where
    back_with : (xs ts : List ℕ) → AllBelowBase (size r) xs → crypted r g (crypted_tail_of r f (map f xs) ts) ≡ record { blocks = xs; tail = ts }
    unfolding placewise
    back_with xs [] h = λ t. record { blocks = map_back (size r) f g undo xs h t; tail = [] }
    back_with xs (b ∷ bs) h =
        let u = last (map f xs) in
        let tails = ap (λ v. mixed r v (mixed r u (b ∷ bs))) (last_back (size r) f g low undo xs h) ∙ mixed_back r u (b ∷ bs) in
        λ t. record { blocks = on_last_back (size r) f g low undo xs h t; tail = tails t }

    pub crypted_back : (s : Sector) → AllBelowBase (size r) s.blocks → crypted r g (crypted r f s) ≡ s
    crypted_back s h = back_with s.blocks s.tail h
