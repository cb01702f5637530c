-- Which numbers a list holds.
use Rattle.std.proofs.Common.{◌≡◌, ℕ, zero, suc, ◌<◌, ◌≤◌, Bool, true, false, eqb, List, [], ◌∷◌, ◌++◌, length, get_or, Ok, Err, Result, sym, refl, ◌∙◌, subst, ⊎_elim, arith}
use Rattle.std.specs.List.{IsAnyAnswer}
use Rattle.std.specs.Result.{OnOk, OnErr}
use Rattle.arrayvec.specs.ArrayVec.{ArrayVec}
use Rattle.std.proofs.lemmas.List.Elements.{contains_decides}
use Rattle.std.proofs.lemmas.List.{get_or_append_left, get_or_push, length_push, get_or_default}
use Rattle.std.proofs.lemmas.Bool.{or_cases, or_left, or_right, eqb-true, eq-eqb, true≢false, cases_lt, cases_Bool}
use Rattle.fault_lists.specs.Held.{is_held}
use Rattle.fault_lists.specs.Once.{Once}
use Rattle.std.proofs.lemmas.Bool.Decides.{Decides-eqb}

pub held_at : (xs : List ℕ) (number k : ℕ) → k < length xs → get_or xs k 0 ≡ number → is_held xs number ≡ true
unfolding is_held
held_at [] number k h e = absurd (omega arith)
held_at (x ∷ xs) number zero h e = or_left (eqb x number) (is_held xs number) (eq-eqb x number e)
held_at (x ∷ xs) number (suc k) h e = or_right (eqb x number) (is_held xs number) (held_at xs number k (omega arith) e)

-- a place of a number that is held
pub place : (xs : List ℕ) (number : ℕ) → is_held xs number ≡ true → (k : ℕ) × (k < length xs) × (get_or xs k 0 ≡ number)
unfolding is_held
place [] number h = absurd (true≢false (sym h))
place (x ∷ xs) number h =
    ⊎_elim
    (λ (e : eqb x number ≡ true). (0, omega arith, eqb-true x number e))
    (λ (e : is_held xs number ≡ true). let p = place xs number e in (suc p.0, omega arith, p.2))
    (or_cases (eqb x number) (is_held xs number) h)

pub once_push : (xs : List ℕ) (number : ℕ) → Once xs → is_held xs number ≡ false → Once (xs ++ number ∷ [])
once_push xs number once new i j lt h e =
    let n = length_push xs number in
    let ei : get_or (xs ++ number ∷ []) i 0 ≡ get_or xs i 0 = get_or_append_left xs (number ∷ []) 0 i (omega arith) in
    ⊎_elim
    (λ (p : j < length xs). once i j lt p (sym ei ∙ e ∙ get_or_append_left xs (number ∷ []) 0 j p))
    (λ (p : length xs ≤ j).
    let last : length xs ≡ j = omega arith in
    true≢false (sym (held_at xs number i (omega arith) (sym ei ∙ e ∙ get_or_push xs number 0 j last)) ∙ new))
    (cases_lt j (length xs))

-- so it is after a push, whether it was accepted or not
pub once_pushed : {E : Type 0} (r : Result (Unit {0}) E) (v w : ArrayVec ℕ) (number : ℕ) → Once v.items → is_held v.items number ≡ false → OnOk r (w.items ≡ v.items ++ number ∷ []) → OnErr r (w ≡ v) → Once w.items
once_pushed (Ok u) v w number once new is stays = subst Once (sym is) (once_push v.items number once new)
once_pushed (Err e) v w number once new is stays = subst (λ (x : ArrayVec ℕ). Once x.items) (sym stays) once

-- what `contains` answers
pub contained : (xs : List ℕ) (number : ℕ) (r : Bool) → IsAnyAnswer (λ y t. eqb y number ≡ t) xs r → r ≡ is_held xs number
contained xs number true s = let p = (contains_decides eqb Decides-eqb xs number true s).0 refl in sym (held_at xs number p.0 p.1 (p.2 0))
contained xs number false s =
    ⊎_elim
    (λ (e : is_held xs number ≡ true).
    let p = place xs number e in
    (contains_decides eqb Decides-eqb xs number false s).1 (p.0, p.1, λ d. get_or_default xs p.0 d 0 p.1 ∙ p.2) ∙ sym e)
    (λ (e : is_held xs number ≡ false). sym e)
    (cases_Bool (is_held xs number))
