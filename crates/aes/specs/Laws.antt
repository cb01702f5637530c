-- What is shown of AES-128.
use Rattle.std.specs.Prelude.{◌≡◌, ℕ, ◌^◌, ◌<◌, ◌≢◌, List, length, slice_index}
use Rattle.std.specs.Int.Digits.{AllBelowBase}
use Rattle.rings.specs.Rings.{ring1}
use Rattle.aes.specs.Aes.{inverted, sbox, inv_sbox, encipher, decipher}

-- the table of f 0 .. f (n-1)
pub record Tabulates (n : ℕ) (f : ℕ → ℕ) (table : List ℕ) : Type 0 where
  pub long : length table ≡ n
  pub entries : (x : ℕ) → x < n → slice_index table x ≡ f x

-- the substitution of a byte takes inverses, and its reverse undoes it
pub record Substitution : Type 0 where
  pub kept : inverted 0 ≡ 0
  pub inverse : (x : ℕ) → x < 256 → x ≢ 0 → ring1.product x (inverted x) ≡ 1
  pub undone : (x : ℕ) → x < 256 → inv_sbox (sbox x) ≡ x
  pub redone : (x : ℕ) → x < 256 → sbox (inv_sbox x) ≡ x

-- 16 bytes
abbrev pub Key : List ℕ → Type 0
Key key = (length key ≡ 16) × AllBelowBase 256 key

-- for every key the two maps keep blocks blocks and undo each other
pub record Undoing : Type 0 where
  pub closed : (key : List ℕ) (x : ℕ) → Key key → x < 2 ^ 128 → encipher key x < 2 ^ 128
  pub closed_back : (key : List ℕ) (x : ℕ) → Key key → x < 2 ^ 128 → decipher key x < 2 ^ 128
  pub undone : (key : List ℕ) (x : ℕ) → Key key → x < 2 ^ 128 → decipher key (encipher key x) ≡ x
  pub redone : (key : List ℕ) (x : ℕ) → Key key → x < 2 ^ 128 → encipher key (decipher key x) ≡ x
