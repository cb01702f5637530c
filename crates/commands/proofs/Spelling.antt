-- A word known letter by letter.
use Rattle.std.proofs.Common.{◌≡◌, ℕ, suc, ◌+◌, List, [], ◌∷◌, length, get_or, drop, ◌∙◌, arith, drop-cons}
use Rattle.std.proofs.lemmas.List.{drop_all}

-- the letters from i on are these, and no more
abbrev pub Letters : List ℕ → ℕ → List ℕ → Type 0
Letters word i [] = length word ≡ i
Letters word i (c ∷ cs) = (get_or word i 0 ≡ c) × Letters word (suc i) cs

length_spelled : (word : List ℕ) (i : ℕ) (name : List ℕ) → Letters word i name → length word ≡ i + length name
length_spelled word i [] h = omega arith
length_spelled word i (c ∷ cs) h = let e = length_spelled word (suc i) cs h.1 in omega arith

spelled_from : (word : List ℕ) (i : ℕ) (name : List ℕ) → Letters word i name → drop i word ≡ name
spelled_from word i [] h = drop_all i word (omega arith)
spelled_from word i (c ∷ cs) h =
    let e = length_spelled word (suc i) cs h.1 in
    drop-cons word i 0 (omega arith) ∙ (λ j. h.0 j ∷ spelled_from word (suc i) cs h.1 j)

pub spelled : (word name : List ℕ) → Letters word 0 name → word ≡ name
spelled word name h = spelled_from word 0 name h
