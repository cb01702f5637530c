-- Blocks and their bytes.
use Rattle.std.specs.Prelude.{◌≤ℤ◌, ℤ, pos, negsuc, unsigned_abs}
use Rattle.std.proofs.Common.{◌≡◌, ℕ, zero, suc, ◌+◌, ◌-◌, ◌*◌, ◌/◌, ◌%◌, ◌^◌, ◌<◌, ◌≤◌, List, [], ◌∷◌, ◌++◌, length, get_or, take, drop, set, sym, refl, ap, ◌∙◌, subst, lt_of_lt_of_le, mul-le-mul_right, mul_assoc, suc-mul, mul_comm, pow-suc, zero-mul, mul-suc, div-mul-le_self, div-one, add-one, arith, length-append, length-take, pow-add}
use native.Mathlib.Nat.{mul-add-mod_self_right, pow-le-pow_right, pow-succ', pow-zero, div-eq_of_lt, div-div-eq-div-mul}
use native.Mathlib.Decide.{dec_lt}
use lib.Bits.{bit_xor, xor_mod, xor_shifted}
use Rattle.std.specs.Int.Digits.{number_from_digits, AllBelowBase}
use Rattle.std.proofs.lemmas.Nat.{div-add-mod'}
use Rattle.std.proofs.lemmas.Int.{ints}
use Rattle.std.proofs.Math.Pow.{mod-mod-pow}
use Rattle.num_traits.specs.Laws.{wrap_unsigned}
use Rattle.std.proofs.lemmas.Int.Digits.{number_lt}
use Rattle.std.proofs.ByRecursion.{All-take, All-drop}
use Rattle.std.proofs.lemmas.List.{drop-drop, get_or_append_left, get_or-append_right, take_more, take_more_set}
use Rattle.rings.specs.Blocks.{bytes_of, block_at, first_blocks}

pub pow_bytes : (w : ℕ) → 256 ^ w ≡ 2 ^ (8 * w)
pow_bytes zero = refl
pow_bytes (suc w) = pow-suc 256 w ∙ ap (λ (n : ℕ). n * 256) (pow_bytes w) ∙ sym (ap (λ (n : ℕ). 2 ^ n) (mul-suc 8 w) ∙ pow-add 2 (8 * w) 8)

-- the lowest byte of a word of `n` bits, cast from its integer
pub cast_byte : (w n b r : ℕ) (z : ℤ) → 1 ≤ w → 8 * w ≡ n → pos 0 ≤ℤ z → ((k : ℕ) → z ≡ pos k → b ≡ k) → pos r ≡ wrap_unsigned 8 z → r ≡ b % 2 ^ n % 256
cast_byte w n b r (negsuc k) some is up h e = absurd (omega (arith, ints))
cast_byte w n b r (pos k) some is up h e =
    let over : n - 8 + 8 ≡ n = omega (arith, some, is) in
    ap unsigned_abs e ∙ ap (λ (x : ℕ). x % 256) (sym (h k refl)) ∙ sym (subst (λ (m : ℕ). b % 2 ^ m % 256 ≡ b % 256) over (mod-mod-pow b (n - 8) 8))

-- ---- one byte more

-- what was cut before a shift would have been cut after it
pub mod_shift : (a b n : ℕ) → (a % n * 256 + b) % n ≡ (a * 256 + b) % n
mod_shift a b n =
    let q : ℕ = a / n in
    let turn : q * 256 * n ≡ q * n * 256 = mul_assoc q 256 n ∙ ap (λ (m : ℕ). q * m) (mul_comm 256 n) ∙ sym (mul_assoc q n 256) in
    let split : a * 256 + b ≡ q * 256 * n + (a % n * 256 + b) = omega (arith, div-add-mod' a n, turn) in
    sym (ap (λ (m : ℕ). m % n) split ∙ mul-add-mod_self_right (q * 256) n (a % n * 256 + b))

-- a byte in at the low end of a word of n bits, by a shift and a sum of polynomials
pub pushed : (n a b : ℕ) → b < 256 → bit_xor (a * 2 ^ 8 % 2 ^ n) (b % 2 ^ n) ≡ (a * 256 + b) % 2 ^ n
pushed n a b h = sym (xor_mod (a * 2 ^ 8) b n) ∙ ap (λ (x : ℕ). x % 2 ^ n) (xor_shifted a 8 b h)

-- ---- one byte out

-- nothing stands past the block
pub byte_past : (w a i : ℕ) → a < 2 ^ (8 * w) → w ≤ i → 0 ≡ a / 256 ^ i % 256
byte_past w a i fits h =
    let le : 256 ^ w ≤ 256 ^ i = pow-le-pow_right (omega arith) h in
    let under : a < 256 ^ i = lt_of_lt_of_le (subst (λ (x : ℕ). a < x) (sym (pow_bytes w)) fits) le in
    sym (ap (λ (x : ℕ). x % 256) (div-eq_of_lt under))

-- ---- all bytes

pub length_bytes_of : (w a : ℕ) → length (bytes_of w a) ≡ w
unfolding bytes_of
length_bytes_of zero a = refl
length_bytes_of (suc w) a = simp length-append (omega (arith, length_bytes_of w (a / 256)))

pub bytes_of_at : (w a i : ℕ) → i < w → get_or (bytes_of w a) i 0 ≡ a / 256 ^ (w - 1 - i) % 256
unfolding bytes_of
bytes_of_at zero a i h = absurd (omega arith)
bytes_of_at (suc w) a i h = elim (dec_lt i w) [
  | yes l ↦
      let e : suc (w - 1 - i) ≡ suc w - 1 - i = omega arith in
      let long : i < length (bytes_of w (a / 256)) = rw (length_bytes_of w (a / 256)) l in
      get_or_append_left (bytes_of w (a / 256)) _ 0 i long
      ∙ bytes_of_at w (a / 256) i l
      ∙ ap (λ (n : ℕ). n % 256) (div-div-eq-div-mul a 256 (256 ^ (w - 1 - i)) ∙ ap (λ (n : ℕ). a / n) (sym (pow-succ' 256 (w - 1 - i)) ∙ ap (λ (n : ℕ). 256 ^ n) e))
  | no m ↦
      let i_is : i ≡ w = omega arith in
      let none : suc w - 1 - i ≡ 0 = omega arith in
      let last : i - w ≡ 0 = omega arith in
      get_or-append_right (bytes_of w (a / 256)) (a % 256 ∷ []) w i 0 (length_bytes_of w (a / 256)) (omega arith)
      ∙ ap (λ (k : ℕ). get_or (a % 256 ∷ []) k 0) last
      ∙ sym (ap (λ (k : ℕ). a / 256 ^ k % 256) none ∙ ap (λ (n : ℕ). a / n % 256) (pow-zero 256) ∙ ap (λ (n : ℕ). n % 256) (div-one a))
]

-- one more byte written
pub bytes_more : (out : List ℕ) (w a i b : ℕ) → length out ≡ w → i < w → take i out ≡ take i (bytes_of w a)
    → b ≡ a / 256 ^ (w - 1 - i) % 256 → take (i + 1) (set out i b) ≡ take (i + 1) (bytes_of w a)
bytes_more out w a i b long h same e =
    let in_out : i < length out = omega arith in
    let in_bytes : i < length (bytes_of w a) = rw (length_bytes_of w a) h in
    take_more_set out i b in_out ∙ ap (λ (l : List ℕ). l ++ (b ∷ [])) same
    ∙ ap (λ (x : ℕ). take i (bytes_of w a) ++ (x ∷ [])) (e ∙ sym (bytes_of_at w a i h)) ∙ sym (take_more (bytes_of w a) i 0 in_bytes)

-- ---- the blocks of a row of bytes

-- block i of a row of n bytes ends within it
pub block_inside : (i n w : ℕ) → i < n / w → i * w + w ≤ n
block_inside i n w h =
    let le : suc i ≤ n / w = omega arith in
    omega (arith, mul-le-mul_right w le, div-mul-le_self n w, suc-mul i w)

-- w bytes, or fewer, write a block
pub first_below : (w : ℕ) (bs : List ℕ) → AllBelowBase 256 bs → number_from_digits 256 (take w bs) < 2 ^ (8 * w)
first_below w bs under =
    let short : length (take w bs) ≤ w = simp length-take (omega arith) in
    subst (λ (n : ℕ). number_from_digits 256 (take w bs) < n) (pow_bytes w)
    (lt_of_lt_of_le (number_lt 256 (take w bs) (All-take (λ (d : ℕ). d < 256) w bs under)) (pow-le-pow_right (omega arith) short))

pub block_below : (w i : ℕ) (bs : List ℕ) → AllBelowBase 256 bs → block_at w i bs < 2 ^ (8 * w)
block_below w i bs under = first_below w (drop (i * w) bs) (All-drop (λ (d : ℕ). d < 256) (i * w) bs under)

pub blocks_none : (w : ℕ) (bs : List ℕ) → first_blocks w 0 bs ≡ []
unfolding first_blocks
blocks_none w bs = refl

pub blocks_first : (w m : ℕ) (bs : List ℕ) → first_blocks w (suc m) bs ≡ number_from_digits 256 (take w bs) ∷ first_blocks w m (drop w bs)
unfolding first_blocks
blocks_first w m bs = refl

-- one more block at the end
blocks_push : (w m : ℕ) (bs : List ℕ) → first_blocks w (suc m) bs ≡ first_blocks w m bs ++ (block_at w m bs ∷ [])
unfolding first_blocks
blocks_push w zero bs = ap (λ (n : ℕ). number_from_digits 256 (take w (drop n bs)) ∷ []) (sym (zero-mul w))
blocks_push w (suc m) bs =
    let past : drop (m * w) (drop w bs) ≡ drop (suc m * w) bs = drop-drop (m * w) w bs ∙ ap (λ (n : ℕ). drop n bs) (omega (arith, suc-mul m w)) in
    ap (λ (l : List ℕ). number_from_digits 256 (take w bs) ∷ l)
    (blocks_push w m (drop w bs) ∙ ap (λ (l : List ℕ). first_blocks w m (drop w bs) ++ (number_from_digits 256 (take w l) ∷ [])) past)

pub blocks_more : (w m : ℕ) (bs : List ℕ) → first_blocks w (m + 1) bs ≡ first_blocks w m bs ++ (block_at w m bs ∷ [])
blocks_more w m bs = ap (λ (n : ℕ). first_blocks w n bs) (add-one m) ∙ blocks_push w m bs
