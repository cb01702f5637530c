-- XTEA with 32 rounds. A word is a number below 2^32, the first of its four bytes the highest.
use Rattle.std.specs.Prelude.{ℕ, zero, suc, ◌+◌, ◌-◌, ◌*◌, ◌/◌, ◌%◌, ◌^◌, List, [], ◌∷◌, bit_xor, slice_index}

-- sums and differences of words wrap
unfoldable pub plus : ℕ → ℕ → ℕ
plus a b = (a + b) % 2 ^ 32

unfoldable pub minus : ℕ → ℕ → ℕ
minus a b = (a + (2 ^ 32 - b)) % 2 ^ 32

-- F(v) = ((v << 4) xor (v >> 5)) + v; shifts drop bits
unfoldable pub F : ℕ → ℕ
F v = plus (bit_xor (v * 2 ^ 4 % 2 ^ 32) (v / 2 ^ 5)) v

-- F(v) xor (s + k)
unfoldable pub change : ℕ → ℕ → ℕ → ℕ
change v s k = bit_xor (F v) (plus s k)

-- s after i rounds
unfoldable pub sum_after : ℕ → ℕ
sum_after zero = 0
sum_after (suc i) = plus (sum_after i) 0x9E3779B9

-- the two words of a block
pub record Words : Type 0 where
  pub v₀ : ℕ
  pub v₁ : ℕ

-- k is the list of the four words of the key
module _ (k : List ℕ) where
  -- v_0 grows by F(v_1) xor (s + k_(s mod 4))
  unfoldable pub grow₀ : ℕ → Words → Words
  grow₀ s v = record { v₀ = plus v.v₀ (change v.v₁ s (slice_index k (s % 4))); v₁ = v.v₁ }

  -- v_1 grows by F(v_0) xor (s + k_((s >> 11) mod 4))
  unfoldable pub grow₁ : ℕ → Words → Words
  grow₁ s v = record { v₀ = v.v₀; v₁ = plus v.v₁ (change v.v₀ s (slice_index k (s / 2 ^ 11 % 4))) }

  -- the same taken away
  unfoldable pub shrink₀ : ℕ → Words → Words
  shrink₀ s v = record { v₀ = minus v.v₀ (change v.v₁ s (slice_index k (s % 4))); v₁ = v.v₁ }

  unfoldable pub shrink₁ : ℕ → Words → Words
  shrink₁ s v = record { v₀ = v.v₀; v₁ = minus v.v₁ (change v.v₀ s (slice_index k (s / 2 ^ 11 % 4))) }

  -- the first i rounds: s grows between the two halves of a round
  unfoldable pub rounds : ℕ → Words → Words
  rounds zero v = v
  rounds (suc i) v = grow₁ (sum_after (suc i)) (grow₀ (sum_after i) (rounds i v))

  -- i rounds taken back, the last first
  unfoldable pub rounds_back : ℕ → Words → Words
  rounds_back zero v = v
  rounds_back (suc i) v = rounds_back i (shrink₀ (sum_after i) (shrink₁ (sum_after (suc i)) v))

-- word i of the key
unfoldable pub key_word : List ℕ → ℕ → ℕ
key_word key i = slice_index key (4 * i) * 2 ^ 24 + slice_index key (4 * i + 1) * 2 ^ 16 + slice_index key (4 * i + 2) * 2 ^ 8 + slice_index key (4 * i + 3)

unfoldable pub key_words : List ℕ → List ℕ
key_words key = key_word key 0 ∷ key_word key 1 ∷ key_word key 2 ∷ key_word key 3 ∷ []

-- a block of 8 bytes, held as a number, and its words
unfoldable pub words_of : ℕ → Words
words_of x = record { v₀ = x / 2 ^ 32; v₁ = x % 2 ^ 32 }

unfoldable pub block_of : Words → ℕ
block_of v = v.v₀ * 2 ^ 32 + v.v₁

-- the two maps on blocks under a key of 16 bytes
unfoldable pub encipher : List ℕ → ℕ → ℕ
encipher key x = block_of (rounds (key_words key) 32 (words_of x))

unfoldable pub decipher : List ℕ → ℕ → ℕ
decipher key x = block_of (rounds_back (key_words key) 32 (words_of x))
