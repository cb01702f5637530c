-- Bytes in hexadecimal.
use Rattle.std.specs.Prelude.{ℕ, ◌+◌, ◌-◌, ◌*◌, ◌/◌, ◌%◌, cond, ◌&&◌, List, [], ◌∷◌, Some, None, codes, Option, nat_le, nat_lt}
use Rattle.std.specs.List.{flat_map}
use Rattle.std.specs.Str.{bytes_eq}

-- the value of a digit
abbrev pub digit_value : ℕ → Option ℕ
digit_value c =
    cond (nat_le 48 c && nat_le c 57) (Some (c - 48))
    (cond (nat_le 97 c && nat_le c 102) (Some (c - 87))
    (cond (nat_le 65 c && nat_le c 70) (Some (c - 55)) None))

-- the byte of two digits
abbrev pub byte_of : Option ℕ → Option ℕ → Option ℕ
byte_of None low = None
byte_of (Some high) None = None
byte_of (Some high) (Some low) = Some (high * 16 + low)

-- one byte more in front
abbrev pub in_front : Option ℕ → Option (List ℕ) → Option (List ℕ)
in_front None bytes = None
in_front (Some x) None = None
in_front (Some x) (Some bytes) = Some (x ∷ bytes)

-- the bytes of pairs of digits: none where a byte is no digit, or half a pair is left
unfoldable pub pairs : List ℕ → Option (List ℕ)
pairs [] = Some []
pairs (a ∷ []) = None
pairs (a ∷ b ∷ cs) = in_front (byte_of (digit_value a) (digit_value b)) (pairs cs)

-- the bytes that a word stands for
abbrev pub bytes_of : List ℕ → Option (List ℕ)
bytes_of text = cond (bytes_eq text (codes "-")) (Some []) (pairs text)

-- the digit of a value below 16
abbrev pub digit_of : ℕ → ℕ
digit_of v = cond (nat_lt v 10) (v + 48) (v + 87)

-- two digits a byte
abbrev pub two_digits : ℕ → List ℕ
two_digits x = digit_of (x / 16) ∷ digit_of (x % 16) ∷ []

-- how bytes are written: as pairs of digits, and no bytes as a dash
abbrev pub written : List ℕ → List ℕ
written [] = codes "-"
written (x ∷ xs) = flat_map two_digits (x ∷ xs)
