-- The words of a key, four bytes each.
use Rattle.std.proofs.Common.{◌≡◌, ℕ, zero, suc, ◌+◌, ◌*◌, ◌<◌, List, [], ◌∷◌, ◌++◌, length, get_or, take, drop, refl, ap, ◌∙◌, le_of_suc-le-suc, not-suc-le-zero, arith, add-zero, zero-add, sym, lit<}
use Rattle.std.proofs.lemmas.List.{get_or-drop, get_or-take, get_or_push, ext_get_or, length_push, take-take}
use Rattle.std.proofs.Math.Seq.{take-append_seam}
use Rattle.std.specs.Simd.{first_chunks}
use Rattle.aes.specs.Aes.{word, key_word, expansion}
use Rattle.aes.proofs.Bytes.{word_cong}

pub chunk_at : (xs : List ℕ) (k i j : ℕ) → i < k → j < 4 → get_or (get_or (first_chunks 4 k xs) i []) j 0 ≡ get_or xs (4 * i + j) 0
chunk_at xs zero i j h l = absurd (not-suc-le-zero h)
chunk_at xs (suc k) zero j h l = get_or-take 4 xs j 0 l ∙ ap (λ n. get_or xs n 0) (sym (zero-add j))
chunk_at xs (suc k) (suc i) j h l =
    let is : 4 + (4 * i + j) ≡ 4 * suc i + j = omega arith in
    chunk_at (drop 4 xs) k i j (le_of_suc-le-suc h) l ∙ get_or-drop 4 xs (4 * i + j) 0 ∙ ap (λ n. get_or xs n 0) is

pub word_at : (key : List ℕ) (i : ℕ) → i < 4 → (let w = get_or (first_chunks 4 4 key) i [] in word (get_or w 0 0) (get_or w 1 0) (get_or w 2 0) (get_or w 3 0)) ≡ key_word key i
unfolding key_word
word_at key i h =
    word_cong
    (chunk_at key 4 i 0 h (lit< tt) ∙ ap (λ n. get_or key n 0) (add-zero (4 * i)))
    (chunk_at key 4 i 1 h (lit< tt)) (chunk_at key 4 i 2 h (lit< tt)) (chunk_at key 4 i 3 h (lit< tt))

-- the first four words of the schedule, from what each is
entry : (key : List ℕ) (i : ℕ) → i < 4 → get_or (expansion key 0) i 0 ≡ key_word key i
unfolding expansion
entry key zero h = refl
entry key (suc zero) h = refl
entry key (suc (suc zero)) h = refl
entry key (suc (suc (suc zero))) h = refl
entry key (suc (suc (suc (suc i)))) h = absurd (not-suc-le-zero (le_of_suc-le-suc (le_of_suc-le-suc (le_of_suc-le-suc (le_of_suc-le-suc h)))))

pub words_are : (key ws : List ℕ) → length ws ≡ 4 → ((i : ℕ) → i < 4 → get_or ws i 0 ≡ key_word key i) → ws ≡ expansion key 0
unfolding expansion
words_are key ws long at = ext_get_or 0 ws (expansion key 0) long (λ i h. at i (rw long at h) ∙ sym (entry key i (rw long at h)))

-- the last of the first elements, and those before it
pub last_taken : (xs rest : List (List ℕ)) (x : List ℕ) → rest ++ x ∷ [] ≡ take (length (rest ++ x ∷ [])) xs → (rest ≡ take (length rest) xs) × (x ≡ get_or xs (length rest) [])
last_taken xs rest x e =
    let k = length rest in
    let more : length (rest ++ x ∷ []) ≡ suc k = length_push rest x ∙ omega arith in
    let all : rest ++ x ∷ [] ≡ take (suc k) xs = e ∙ ap (λ n. take n xs) more in (
      sym (take-append_seam rest (x ∷ [])) ∙ ap (take k) all ∙ take-take k (suc k) xs (omega arith),
      sym (get_or_push rest x [] k refl) ∙ ap (λ l. get_or l k []) all ∙ get_or-take (suc k) xs k [] (omega arith),
    )
