-- The last N bytes of a row, and the machine's words that they make.
use Rattle.std.proofs.Common.{◌≡◌, ℕ, zero, suc, ◌+◌, ◌-◌, ◌*◌, ◌%◌, ◌^◌, ◌≤◌, min, List, [], ◌∷◌, ◌++◌, length, get_or, take, drop, replicate, sym, refl, ap, ◌∙◌, subst, ap₂, append-nil, mul_assoc, add-mul, zero-add, arith, length-drop, take-append-drop, take_all}
use native.Mathlib.Nat.{mul-add-mod_self_right, pow-zero, pow-succ'}
use native.Mathlib.Decide.{dec_le}
use lib.ListN.{length-replicate}
use borrow.Rule.Slice.PartMut.{put_mid}
use Rattle.std.specs.Int.Digits.{number_from_digits, number_from_digits_after}
use Rattle.std.proofs.lemmas.Int.Digits.{number_after_append, number_more}
use Rattle.std.proofs.lemmas.List.{take-replicate, drop_all}

-- bytes after a number
after : (n : ℕ) (ds : List ℕ) → number_from_digits_after 256 n ds ≡ n * 256 ^ length ds + number_from_digits 256 ds
after n [] = omega (arith, ap (λ (x : ℕ). n * x) (pow-zero 256))
after n (d ∷ ds) =
    let P : ℕ = 256 ^ length ds in
    let rest : number_from_digits_after 256 (0 * 256 + d) ds ≡ (0 * 256 + d) * P + number_from_digits 256 ds = after (0 * 256 + d) ds in
    let one : (0 * 256 + d) * P ≡ d * P = ap (λ (x : ℕ). x * P) (zero-add d) in
    let many : (n * 256 + d) * P ≡ n * (256 * P) + d * P = add-mul (n * 256) d P ∙ ap (λ (x : ℕ). x + d * P) (mul_assoc n 256 P) in
    let wide : n * 256 ^ suc (length ds) ≡ n * (256 * P) = ap (λ (x : ℕ). n * x) (pow-succ' 256 (length ds)) in
    after (n * 256 + d) ds ∙ omega (arith, rest, one, many, wide)

-- zeros ahead do not count
zeros_ahead : (z : ℕ) (ys : List ℕ) → number_from_digits 256 (replicate z 0 ++ ys) ≡ number_from_digits 256 ys
zeros_ahead zero ys = refl
zeros_ahead (suc z) ys = zeros_ahead z ys

-- of more bytes the last count
last_count : (bs : List ℕ) (k : ℕ) → number_from_digits 256 (drop k bs) % 256 ^ (length bs - k) ≡ number_from_digits 256 bs % 256 ^ (length bs - k)
last_count bs k =
    let N : ℕ = number_from_digits 256 (take k bs) in
    let whole : number_from_digits 256 bs ≡ N * 256 ^ (length bs - k) + number_from_digits 256 (drop k bs) =
    ap (number_from_digits 256) (sym (take-append-drop k bs)) ∙ number_after_append 256 0 (take k bs) (drop k bs) ∙ after N (drop k bs)
    ∙ ap (λ (x : ℕ). N * 256 ^ x + number_from_digits 256 (drop k bs)) (length-drop k bs) in
    sym (ap (λ (x : ℕ). x % 256 ^ (length bs - k)) whole ∙ mul-add-mod_self_right N (256 ^ (length bs - k)) (number_from_digits 256 (drop k bs)))

-- the last N bytes, where there are as many
pub last_chunk_number : (N : ℕ) (bs end : List ℕ) → N ≤ length bs → end ≡ drop (length bs - N) bs → number_from_digits 256 end % 256 ^ N ≡ number_from_digits 256 bs % 256 ^ N
last_chunk_number N bs end enough is =
    let long : length bs - (length bs - N) ≡ N = omega (arith, enough) in
    ap (λ (l : List ℕ). number_from_digits 256 l % 256 ^ N) is
    ∙ subst (λ (k : ℕ). number_from_digits 256 (drop (length bs - N) bs) % 256 ^ k ≡ number_from_digits 256 bs % 256 ^ k) long (last_count bs (length bs - N))

-- as many of the last bytes as fit
module _ (N : ℕ) (bs block : List ℕ) (count : ℕ) (least : count ≡ min (length bs) N) (is : block ≡ replicate (N - count) 0 ++ drop (length bs - count) bs) where
  pub block_number : number_from_digits 256 block % 256 ^ N ≡ number_from_digits 256 bs % 256 ^ N
  block_number =
      ap (λ (l : List ℕ). number_from_digits 256 l % 256 ^ N) is ∙ ap (λ (x : ℕ). x % 256 ^ N) (zeros_ahead (N - count) (drop (length bs - count) bs))
      ∙ elim (dec_le (length bs) N) [
        | yes l ↦ let none : length bs - count ≡ 0 = omega (arith, least, l) in ap (λ (k : ℕ). number_from_digits 256 (drop k bs) % 256 ^ N) none
        | no m ↦
            let long : length bs - (length bs - count) ≡ N = omega (arith, least, m) in
            subst (λ (k : ℕ). number_from_digits 256 (drop (length bs - count) bs) % 256 ^ k ≡ number_from_digits 256 bs % 256 ^ k) long (last_count bs (length bs - count))
      ]

-- what stands in an array of zeros after the copy
pub copied : (N a k : ℕ) (new : List ℕ) → a ≤ N → N ≤ a + k → put_mid a k (replicate N 0) new ≡ replicate a 0 ++ new
copied N a k new le room =
    let none : drop k (drop a (replicate N 0)) ≡ [] = drop_all k (drop a (replicate N 0)) (subst (λ (n : ℕ). n ≤ k) (sym (length-drop a (replicate N 0) ∙ ap (λ (n : ℕ). n - a) (length-replicate {A = ℕ} N 0))) (omega arith)) in
    ap₂ (λ (x y : List ℕ). x ++ (new ++ y)) (take-replicate a N 0 le) none ∙ ap (λ (l : List ℕ). replicate a 0 ++ l) (append-nil new)

-- the sums that the machine's words are made by
pub one : (bs : List ℕ) → length bs ≡ 1 → get_or bs 0 0 ≡ number_from_digits 256 bs
one bs long =
    let all : number_from_digits 256 (take 1 bs) ≡ number_from_digits 256 bs = ap (number_from_digits 256) (take_all 1 bs (omega arith)) in
    omega (arith, all, number_more 256 bs 0 (omega arith))

pub eight : (bs : List ℕ) → length bs ≡ 8 → get_or bs 0 0 * 72057594037927936 + get_or bs 1 0 * 281474976710656 + get_or bs 2 0 * 1099511627776 + get_or bs 3 0 * 4294967296 + get_or bs 4 0 * 16777216 + get_or bs 5 0 * 65536 + get_or bs 6 0 * 256 + get_or bs 7 0 ≡ number_from_digits 256 bs
eight bs long =
    let all : number_from_digits 256 (take 8 bs) ≡ number_from_digits 256 bs = ap (number_from_digits 256) (take_all 8 bs (omega arith)) in
    omega (arith, all, number_more 256 bs 0 (omega arith), number_more 256 bs 1 (omega arith), number_more 256 bs 2 (omega arith), number_more 256 bs 3 (omega arith), number_more 256 bs 4 (omega arith), number_more 256 bs 5 (omega arith), number_more 256 bs 6 (omega arith), number_more 256 bs 7 (omega arith))

pub sixteen : (bs : List ℕ) → length bs ≡ 16 → get_or bs 0 0 * 1329227995784915872903807060280344576 + get_or bs 1 0 * 5192296858534827628530496329220096 + get_or bs 2 0 * 20282409603651670423947251286016 + get_or bs 3 0 * 79228162514264337593543950336 + get_or bs 4 0 * 309485009821345068724781056 + get_or bs 5 0 * 1208925819614629174706176 + get_or bs 6 0 * 4722366482869645213696 + get_or bs 7 0 * 18446744073709551616 + get_or bs 8 0 * 72057594037927936 + get_or bs 9 0 * 281474976710656 + get_or bs 10 0 * 1099511627776 + get_or bs 11 0 * 4294967296 + get_or bs 12 0 * 16777216 + get_or bs 13 0 * 65536 + get_or bs 14 0 * 256 + get_or bs 15 0 ≡ number_from_digits 256 bs
sixteen bs long =
    let all : number_from_digits 256 (take 16 bs) ≡ number_from_digits 256 bs = ap (number_from_digits 256) (take_all 16 bs (omega arith)) in
    omega (arith, all, number_more 256 bs 0 (omega arith), number_more 256 bs 1 (omega arith), number_more 256 bs 2 (omega arith), number_more 256 bs 3 (omega arith), number_more 256 bs 4 (omega arith), number_more 256 bs 5 (omega arith), number_more 256 bs 6 (omega arith), number_more 256 bs 7 (omega arith), number_more 256 bs 8 (omega arith), number_more 256 bs 9 (omega arith), number_more 256 bs 10 (omega arith), number_more 256 bs 11 (omega arith), number_more 256 bs 12 (omega arith), number_more 256 bs 13 (omega arith), number_more 256 bs 14 (omega arith), number_more 256 bs 15 (omega arith))
