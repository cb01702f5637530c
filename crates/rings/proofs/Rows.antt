-- Rows of bytes, and the bytes of a number.
use Rattle.std.proofs.Common.{◌≡◌, ℕ, zero, suc, ◌+◌, ◌*◌, ◌/◌, ◌%◌, ◌^◌, ◌<◌, ◌≤◌, true, eqb, ltb, List, [], ◌∷◌, ◌++◌, length, get_or, take, replicate, sym, refl, ap, ◌∙◌, subst, pow-suc, add-one, arith, take_all}
use Rattle.std.specs.Int.Digits.{number_from_digits, AllBelowBase}
use Rattle.std.proofs.lemmas.Nat.{div-mul-add, mod-mul-add, div-add-mod', div_below, mod_below}
use Rattle.std.proofs.lemmas.Int.Digits.{number_push, number_more, number_lt}
use Rattle.std.proofs.ByRecursion.{All-push, All-get_or, All-from_get_or}
use Rattle.std.proofs.lemmas.List.{take_more, replicate_more}
use Rattle.std.proofs.lemmas.Bool.{and_parts, and_from, ltb-true, lt-ltb, eqb-true, eq-eqb}
use Rattle.rings.specs.Blocks.{bytes_of}
use Rattle.rings.specs.Rows.{all_bytes, row}
use Rattle.rings.proofs.Bytes.{pow_bytes, length_bytes_of}

under_all : (bs : List ℕ) → all_bytes bs ≡ true → AllBelowBase 256 bs
unfolding all_bytes
under_all [] h = tt
under_all (b ∷ bs) h = let p = and_parts (ltb b 256) (all_bytes bs) h in (ltb-true b 256 p.0, under_all bs p.1)

all_under : (bs : List ℕ) → AllBelowBase 256 bs → all_bytes bs ≡ true
unfolding all_bytes
all_under [] h = refl
all_under (b ∷ bs) h = and_from (ltb b 256) (all_bytes bs) (lt-ltb b 256 h.0) (all_under bs h.1)

pub row_is : (n : ℕ) (bs : List ℕ) → length bs ≡ n → AllBelowBase 256 bs → row n bs ≡ true
row_is n bs long under = and_from (eqb (length bs) n) (all_bytes bs) (eq-eqb (length bs) n long) (all_under bs under)

pub row_parts : (n : ℕ) (bs : List ℕ) → row n bs ≡ true → (length bs ≡ n) × AllBelowBase 256 bs
row_parts n bs h = let p = and_parts (eqb (length bs) n) (all_bytes bs) h in (eqb-true (length bs) n p.0, under_all bs p.1)

-- an array of bytes is a row
pub row_array : (n : ℕ) (bs : List ℕ) → length bs ≡ n → ((i : ℕ) → get_or bs i 0 < 256) → row n bs ≡ true
row_array n bs long bytes = row_is n bs long (All-from_get_or (λ (d : ℕ). d < 256) bs 0 (λ i _. bytes i))

-- a row of w bytes writes a block
pub row_block : (w : ℕ) (bs : List ℕ) → row w bs ≡ true → number_from_digits 256 bs < 2 ^ (8 * w)
row_block w bs good =
    let p = row_parts w bs good in
    subst (λ (n : ℕ). number_from_digits 256 bs < n) (ap (λ (n : ℕ). 256 ^ n) p.0 ∙ pow_bytes w) (number_lt 256 bs p.1)

under_bytes_of : (w a : ℕ) → AllBelowBase 256 (bytes_of w a)
unfolding bytes_of
under_bytes_of zero a = tt
under_bytes_of (suc w) a = All-push (λ (d : ℕ). d < 256) (bytes_of w (a / 256)) (a % 256) (under_bytes_of w (a / 256)) (mod_below a 256 (omega arith))

pub row_bytes_of : (w a : ℕ) → row w (bytes_of w a) ≡ true
row_bytes_of w a = row_is w (bytes_of w a) (length_bytes_of w a) (under_bytes_of w a)

-- a number and its bytes determine each other
pub number_bytes_of : (w a : ℕ) → a < 256 ^ w → number_from_digits 256 (bytes_of w a) ≡ a
unfolding bytes_of
number_bytes_of zero a h = omega arith
number_bytes_of (suc w) a h =
    let low : a < 256 ^ w * 256 = rw pow-suc at h in
    number_push 256 (bytes_of w (a / 256)) (a % 256)
    ∙ ap (λ (n : ℕ). n * 256 + a % 256) (number_bytes_of w (a / 256) (div_below a 256 (256 ^ w) (omega arith) low))
    ∙ div-add-mod' a 256

bytes_of_take : (bs : List ℕ) → AllBelowBase 256 bs → (i : ℕ) → i ≤ length bs → bytes_of i (number_from_digits 256 (take i bs)) ≡ take i bs
unfolding bytes_of
bytes_of_take bs under zero h = refl
bytes_of_take bs under (suc i) h =
    let within : i < length bs = omega arith in
    let d = get_or bs i 0 in
    let n = number_from_digits 256 (take i bs) in
    let small : d < 256 = All-get_or (λ (d : ℕ). d < 256) bs i 0 within under in
    let more : number_from_digits 256 (take (suc i) bs) ≡ n * 256 + d = rw (← add-one i) (number_more 256 bs i within) in
    let grown : take (suc i) bs ≡ take i bs ++ (d ∷ []) = rw (← add-one i) (take_more bs i 0 within) in
    ap (λ (m : ℕ). bytes_of i (m / 256) ++ (m % 256 ∷ [])) more
    ∙ ap (λ (m : ℕ). bytes_of i m ++ ((n * 256 + d) % 256 ∷ [])) (div-mul-add n 256 d small)
    ∙ ap (λ (m : ℕ). bytes_of i n ++ (m ∷ [])) (mod-mul-add n 256 d small)
    ∙ ap (λ (l : List ℕ). l ++ (d ∷ [])) (bytes_of_take bs under i (omega arith))
    ∙ sym grown

pub bytes_of_number : (bs : List ℕ) → AllBelowBase 256 bs → bytes_of (length bs) (number_from_digits 256 bs) ≡ bs
bytes_of_number bs under =
    let all = take_all (length bs) bs (omega arith) in
    ap (λ (l : List ℕ). bytes_of (length bs) (number_from_digits 256 l)) (sym all) ∙ bytes_of_take bs under (length bs) (omega arith) ∙ all

pub bytes_of_zero : (w : ℕ) → bytes_of w 0 ≡ replicate w 0
unfolding bytes_of
bytes_of_zero zero = refl
bytes_of_zero (suc w) = ap (λ (l : List ℕ). l ++ (0 ∷ [])) (bytes_of_zero w) ∙ rw add-one at (replicate_more {X = ℕ} w 0)
