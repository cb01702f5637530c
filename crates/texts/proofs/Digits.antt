-- What reading a number digit by digit keeps.
use Rattle.std.proofs.Common.{◌≡◌, ℕ, suc, ◌+◌, ◌<◌, ◌≤◌, List, [], ◌∷◌, length, get_or, drop, Some, None, Option, refl, ap, ◌∙◌, arith, drop-cons}
use Rattle.std.proofs.lemmas.List.{drop_all}
use Rattle.texts.specs.Numbers.{longer, read_on, number_of}

read_at : (value : ℕ) (text : List ℕ) (i : ℕ) (o : Option ℕ) → i < length text → longer value (get_or text i 0) ≡ o → read_on value (drop i text) ≡ elim o [ None ↦ None | Some more ↦ read_on more (drop (i + 1) text) ]
unfolding read_on
read_at value text i o h e =
    let one : suc i ≡ i + 1 = omega arith in
    ap (read_on value) (drop-cons text i 0 h ∙ ap (λ j. get_or text i 0 ∷ drop j text) one)
    ∙ ap (λ (o : Option ℕ). elim o [ None ↦ None | Some more ↦ read_on more (drop (i + 1) text) ]) e

pub read_none : (value : ℕ) (text : List ℕ) (i : ℕ) → i < length text → longer value (get_or text i 0) ≡ None → read_on value (drop i text) ≡ None
read_none value text i h e = read_at value text i None h e

pub read_more : (value : ℕ) (text : List ℕ) (i more : ℕ) → i < length text → longer value (get_or text i 0) ≡ Some more → read_on value (drop i text) ≡ read_on more (drop (i + 1) text)
read_more value text i more h e = read_at value text i (Some more) h e

pub read_end : (value : ℕ) (text : List ℕ) (i : ℕ) → length text ≤ i → read_on value (drop i text) ≡ Some value
unfolding read_on
read_end value text i h = rw (drop_all i text h)

pub some_word : (text : List ℕ) → 0 < length text → number_of text ≡ read_on 0 text
some_word [] h = absurd (omega arith)
some_word (c ∷ cs) h = refl
