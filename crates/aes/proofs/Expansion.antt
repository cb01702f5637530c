-- The schedule as the code makes it, word by word.
use Rattle.std.proofs.Common.{◌≡◌, ℕ, suc, ◌+◌, ◌-◌, ◌*◌, ◌/◌, ◌%◌, ◌^◌, ◌<◌, ◌≤◌, List, [], ◌∷◌, ◌++◌, length, get_or, take, set, sym, ap, ◌∙◌, ap₂, arith, get_or-take}
use lib.Bits.{bit_or, bit_xor}
use Rattle.std.proofs.lemmas.List.{take_more_set}
use Rattle.aes.specs.Aes.{byte, rot_word, temp, next, expansion}
use Rattle.aes.proofs.Bytes.{byte_lt, word_bytes, left_bytes}

pub turned_left : (w : ℕ) → w < 2 ^ 32 → bit_or (w * 2 ^ 8 % 2 ^ 32) (w / 2 ^ 24) ≡ rot_word w
unfolding rot_word
turned_left w h =
    ap (λ x. bit_or (x * 2 ^ 8 % 2 ^ 32) (x / 2 ^ 24)) (sym (word_bytes w h))
    ∙ left_bytes (byte 0 w) (byte 1 w) (byte 2 w) (byte 3 w) (byte_lt 0 w) (byte_lt 1 w) (byte_lt 2 w) (byte_lt 3 w)

pub more : (key w : List ℕ) (i v : ℕ) → 4 ≤ i → i < length w → take i w ≡ expansion key (i - 4)
    → v ≡ temp i (get_or w (i - 1) 0) → take (i + 1) (set w i (bit_xor (get_or w (i - 4) 0) v)) ≡ expansion key (i + 1 - 4)
unfolding expansion next
more key w i v from within e ev =
    let grown : ℕ → List ℕ → List ℕ = λ k w. w ++ (next k w ∷ []) in
    let following : suc (i - 4) ≡ i + 1 - 4 = omega arith in
    let is : i ≡ i - 4 + 4 = omega arith in
    let back4 : get_or (take i w) (i - 4) 0 ≡ get_or w (i - 4) 0 = get_or-take i w (i - 4) 0 (omega arith) in
    let back1 : get_or (take i w) (i - 1) 0 ≡ get_or w (i - 1) 0 = get_or-take i w (i - 1) 0 (omega arith) in
    take_more_set w i (bit_xor (get_or w (i - 4) 0) v) within
    ∙ ap (λ x. take i w ++ (x ∷ [])) (ap (bit_xor (get_or w (i - 4) 0)) ev ∙ sym (ap₂ (λ x y. bit_xor x (temp i y)) back4 back1))
    ∙ ap (grown i) e ∙ ap (λ k. grown k (expansion key (i - 4))) is ∙ ap (expansion key) following
