-- Reading pairs of digits as `hex` does.
use Rattle.std.proofs.Common.{◌≡◌, ℕ, ◌+◌, ◌*◌, ◌%◌, Bool, true, false, ◌&&◌, cond, codes, List, [], ◌∷◌, length, ◌≢◌, ◌⊎◌, inl, inr, Some, None, Ok, Err, Option, Result, refl, sym, ap, ◌∙◌, arith}
use Rattle.std.specs.Result.{result_ok}
use Rattle.std.proofs.lemmas.Bool.Decides.{nat_tests}
use Rattle.hex.specs.Hex.{hex_digit_value, digit_or_error, pair_value, decode_pairs, decode_of, ◌>>=◌}
use Rattle.hex.specs.declared.error.FromHexError.{FromHexError}
use Rattle.std.specs.Char.{is_ascii_hexdigit}
use Rattle.std.specs.List.{list_all}
use Rattle.std.specs.Option.{is_some, IsSome}
use Rattle.std.specs.Str.{bytes_eq}
use Rattle.hex.specs.declared.error.FromHexError.TheVariants.{OutOfMemory}
use Rattle.texts.specs.Hexadecimal.{digit_value, byte_of, in_front, pairs, bytes_of}

same_digit : (c : ℕ) → hex_digit_value c ≡ digit_value c
same_digit c = grind (arith, nat_tests)

-- two digits
pair_ok : (a b i : ℕ) (h l : Option ℕ) → result_ok (digit_or_error a i h >>= (λ x. digit_or_error b (i + 1) l >>= (λ y. Ok (x * 16 + y)))) ≡ byte_of h l
pair_ok a b i None l = refl
pair_ok a b i (Some x) None = refl
pair_ok a b i (Some x) (Some y) = refl

-- two digits, and what the pairs behind them read as
step : (p : Result ℕ FromHexError) (r : Result (List ℕ) FromHexError) → result_ok (p >>= (λ x. r >>= (λ bytes. Ok (x ∷ bytes)))) ≡ in_front (result_ok p) (result_ok r)
step (Err e) r = refl
step (Ok x) (Err e) = refl
step (Ok x) (Ok bytes) = refl

same_pairs : (i : ℕ) (text : List ℕ) → result_ok (decode_pairs i text) ≡ pairs text
unfolding decode_pairs pairs
same_pairs i [] = refl
same_pairs i (a ∷ []) = refl
same_pairs i (a ∷ b ∷ cs) =
    step (pair_value a b i) (decode_pairs (i + 2) cs)
    ∙ ap (λ o. in_front o (result_ok (decode_pairs (i + 2) cs))) (pair_ok a b i (hex_digit_value a) (hex_digit_value b))
    ∙ ap (λ o. in_front (byte_of o (hex_digit_value b)) (result_ok (decode_pairs (i + 2) cs))) (same_digit a)
    ∙ ap (λ o. in_front (byte_of (digit_value a) o) (result_ok (decode_pairs (i + 2) cs))) (same_digit b)
    ∙ ap (in_front (byte_of (digit_value a) (digit_value b))) (same_pairs (i + 2) cs)

nothing : (x : Option ℕ) → in_front x None ≡ None
nothing None = refl
nothing (Some x) = refl

half_left : (text : List ℕ) → length text % 2 ≡ 1 → pairs text ≡ None
unfolding pairs
half_left [] h = absurd (omega arith)
half_left (a ∷ []) h = refl
half_left (a ∷ b ∷ cs) h =
    ap (in_front (byte_of (digit_value a) (digit_value b))) (half_left cs (omega arith)) ∙ nothing (byte_of (digit_value a) (digit_value b))

-- what `hex` decodes a text to is what its pairs read as
decoded : (text : List ℕ) → result_ok (decode_of text) ≡ pairs text
decoded text = grind (arith, nat_tests, same_pairs 0 text, half_left text)

-- a word that is no dash
pub undashed : (text : List ℕ) → bytes_eq text (codes "-") ≡ false → bytes_of text ≡ result_ok (decode_of text)
undashed text e = ap (λ (t : Bool). cond t (Some []) (pairs text)) e ∙ sym (decoded text)

-- a fault but one of memory is one of the text
pub refused : (text : List ℕ) (fault : FromHexError) → bytes_eq text (codes "-") ≡ false → (fault ≡ OutOfMemory) ⊎ (decode_of text ≡ Err fault) → (fault ≡ OutOfMemory → ⊥) → bytes_of text ≡ None
refused text fault e (inl memory) other = absurd (other memory)
refused text fault e (inr wrong) other = undashed text e ∙ ap result_ok wrong

same_test : (c : ℕ) → is_some (digit_value c) ≡ is_ascii_hexdigit c
same_test c = grind (arith, nat_tests)

-- a byte is read where both digits are, and bytes where the rest is too
all_read : (x y : Option ℕ) (bytes : Option (List ℕ)) → is_some (in_front (byte_of x y) bytes) ≡ (is_some x && (is_some y && is_some bytes))
all_read None y bytes = refl
all_read (Some x) None bytes = refl
all_read (Some x) (Some y) None = refl
all_read (Some x) (Some y) (Some bytes) = refl

-- whole pairs read as bytes exactly where each byte is a digit
whole : (text : List ℕ) → length text % 2 ≡ 0 → is_some (pairs text) ≡ list_all is_ascii_hexdigit text
unfolding pairs
whole [] even = refl
whole (a ∷ []) even = absurd (omega arith)
whole (a ∷ b ∷ cs) even = cc (all_read (digit_value a) (digit_value b) (pairs cs), same_test a, same_test b, whole cs (omega arith))

-- a word with a byte that is no digit reads as nothing, and whole pairs of digits as bytes
pub stray : (text : List ℕ) → bytes_eq text (codes "-") ≡ false → list_all is_ascii_hexdigit text ≡ false → bytes_of text ≡ None
stray text e none = grind (arith, half_left text, whole text)

pub digits : (text : List ℕ) → bytes_eq text (codes "-") ≡ false → list_all is_ascii_hexdigit text ≡ true → length text % 2 ≢ 1 → IsSome (bytes_of text)
digits text e all even = grind (arith, whole text)
