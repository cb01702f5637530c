-- A list that began empty holds no number twice.
use Rattle.std.proofs.Common.{◌≡◌, ℕ, false, cond, ltb, List, [], ◌∷◌, ◌++◌, length, arith}
use Rattle.std.proofs.lemmas.List.{length_push}
use Rattle.std.proofs.lemmas.Bool.{cond_both, eqb-false}
use Rattle.fault_lists.specs.Held.{is_held, full, entered, after_enter, after_enters, Bounded, AlwaysBounded}
use Rattle.fault_lists.proofs.Holds.{once_push}

push_bounded : (held : List ℕ) (number : ℕ) → Bounded held → is_held held number ≡ false → full held ≡ false → Bounded (held ++ number ∷ [])
push_bounded held number b new room = record {
  once = once_push held number b.once new;
  most =
      let p : length held ≡ 64 → ⊥ = eqb-false (length held) 64 room in
      omega (arith, length_push held number, b.most);
}

enter_bounded : (count : ℕ) (held : List ℕ) (number : ℕ) → Bounded held → Bounded (after_enter count held number)
enter_bounded count held number b =
    cond_both (ltb number count) (entered held number) held Bounded
    (λ _.
    cond_both (is_held held number) held (cond (full held) held (held ++ number ∷ [])) Bounded
    (λ _. b)
    (λ new. cond_both (full held) held (held ++ number ∷ []) Bounded (λ _. b) (λ room. push_bounded held number b new room)))
    (λ _. b)

enters_bounded : (count : ℕ) (held numbers : List ℕ) → Bounded held → Bounded (after_enters count held numbers)
unfolding after_enters
enters_bounded count held [] b = b
enters_bounded count held (number ∷ numbers) b = enters_bounded count (after_enter count held number) numbers (enter_bounded count held number b)

pub bounded : AlwaysBounded
bounded count numbers = enters_bounded count [] numbers (record { once = λ i j lt h e. omega arith; most = omega arith })
