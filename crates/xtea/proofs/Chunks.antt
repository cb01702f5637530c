-- The words of a key, four bytes each.
use Rattle.std.proofs.Common.{◌≡◌, ℕ, zero, suc, ◌+◌, ◌*◌, ◌^◌, ◌<◌, List, [], length, get_or, drop, refl, ap, ◌∙◌, le_of_suc-le-suc, not-suc-le-zero, arith, add-zero, zero-add, sym, lit<}
use Rattle.std.proofs.lemmas.List.{get_or-drop, get_or-take, ext_get_or}
use Rattle.std.specs.Simd.{first_chunks}
use Rattle.xtea.specs.Xtea.{key_word, key_words}

chunk_at : (xs : List ℕ) (k i j : ℕ) → i < k → j < 4 → get_or (get_or (first_chunks 4 k xs) i []) j 0 ≡ get_or xs (4 * i + j) 0
chunk_at xs zero i j h l = absurd (not-suc-le-zero h)
chunk_at xs (suc k) zero j h l = get_or-take 4 xs j 0 l ∙ ap (λ n. get_or xs n 0) (sym (zero-add j))
chunk_at xs (suc k) (suc i) j h l =
    let is : 4 + (4 * i + j) ≡ 4 * suc i + j = omega arith in
    chunk_at (drop 4 xs) k i j (le_of_suc-le-suc h) l ∙ get_or-drop 4 xs (4 * i + j) 0 ∙ ap (λ n. get_or xs n 0) is

pub word_at : (key : List ℕ) (i : ℕ) → i < 4
    → (let w = get_or (first_chunks 4 4 key) i [] in get_or w 0 0 * 2 ^ 24 + get_or w 1 0 * 2 ^ 16 + get_or w 2 0 * 2 ^ 8 + get_or w 3 0) ≡ key_word key i
unfolding key_word
word_at key i h =
    let e0 = chunk_at key 4 i 0 h (lit< tt) ∙ ap (λ n. get_or key n 0) (add-zero (4 * i)) in
    let e1 = chunk_at key 4 i 1 h (lit< tt) in
    let e2 = chunk_at key 4 i 2 h (lit< tt) in
    let e3 = chunk_at key 4 i 3 h (lit< tt) in
    cc

-- the four words, from what each is
entry : (key : List ℕ) (i : ℕ) → i < 4 → get_or (key_words key) i 0 ≡ key_word key i
unfolding key_words
entry key zero h = refl
entry key (suc zero) h = refl
entry key (suc (suc zero)) h = refl
entry key (suc (suc (suc zero))) h = refl
entry key (suc (suc (suc (suc i)))) h = absurd (not-suc-le-zero (le_of_suc-le-suc (le_of_suc-le-suc (le_of_suc-le-suc (le_of_suc-le-suc h)))))

pub words_are : (key ws : List ℕ) → length ws ≡ 4 → ((i : ℕ) → i < 4 → get_or ws i 0 ≡ key_word key i) → ws ≡ key_words key
unfolding key_words
words_are key ws long at = ext_get_or 0 ws (key_words key) long (λ i h. at i (rw long at h) ∙ sym (entry key i (rw long at h)))
