-- AES-128 as FIPS 197 defines it, step by step and under its names, with the numbers of its sections.
-- A byte is a number below 2^8. A word is the number of its four bytes and a block that of its 16, the first the highest.
use Rattle.std.specs.Prelude.{ℕ, zero, suc, ◌+◌, ◌-◌, ◌*◌, ◌/◌, ◌%◌, ◌^◌, cond, List, [], ◌∷◌, ◌++◌, Some, None, Option, ◌==◌, bit_xor, slice_index}
use Rattle.rings.specs.Rings.{ring1}
use Rattle.rings.specs.Sums.{power}

-- 3.4, 3.5: bytes, words and the state

-- the word of four bytes
unfoldable pub word : ℕ → ℕ → ℕ → ℕ → ℕ
word a0 a1 a2 a3 = a0 * 2 ^ 24 + a1 * 2 ^ 16 + a2 * 2 ^ 8 + a3

-- byte r of a word
unfoldable pub byte : ℕ → ℕ → ℕ
byte r w = w / 2 ^ (24 - 8 * r) % 2 ^ 8

-- the state as its four columns, each a word
pub record State : Type 0 where
  pub c0 : ℕ
  pub c1 : ℕ
  pub c2 : ℕ
  pub c3 : ℕ

unfoldable pub column : State → ℕ → ℕ
column s zero = s.c0
column s (suc zero) = s.c1
column s (suc (suc zero)) = s.c2
column s (suc (suc (suc c))) = s.c3

-- the state whose column c is f c
unfoldable pub columns : (ℕ → ℕ) → State
columns f = record { c0 = f 0; c1 = f 1; c2 = f 2; c3 = f 3 }

-- s_(r,c), the byte in row r and column c
unfoldable pub entry : State → ℕ → ℕ → ℕ
entry s r c = byte r (column s c)

-- the state with s_(r,c) = f r c
unfoldable pub entries : (ℕ → ℕ → ℕ) → State
entries f = columns (λ c. word (f 0 c) (f 1 c) (f 2 c) (f 3 c))

-- the bytes of a block fill one column after the other
unfoldable pub state_of : ℕ → State
state_of x = columns (λ c. x / 2 ^ (96 - 32 * c) % 2 ^ 32)

unfoldable pub block_of : State → ℕ
block_of s = s.c0 * 2 ^ 96 + s.c1 * 2 ^ 64 + s.c2 * 2 ^ 32 + s.c3

-- 5.1.1 SubBytes

-- 00 where there is none
abbrev pub or_zero : Option ℕ → ℕ
or_zero None = 0
or_zero (Some b) = b

-- the inverse of a byte, with 00 kept
unfoldable pub inverted : ℕ → ℕ
inverted a = or_zero (ring1.inverse a)

-- bit i of a byte, with i modulo 8
unfoldable pub bit : ℕ → ℕ → ℕ
bit b i = b / 2 ^ (i % 8) % 2

-- the byte with the bits f 0 .. f 7
unfoldable pub bits : (ℕ → ℕ) → ℕ
bits f = f 0 + 2 * f 1 + 4 * f 2 + 8 * f 3 + 16 * f 4 + 32 * f 5 + 64 * f 6 + 128 * f 7

-- b_i + b_(i+4) + b_(i+5) + b_(i+6) + b_(i+7) + c_i, with c = 63
unfoldable pub affine : ℕ → ℕ
affine b = bits (λ i. (bit b i + bit b (i + 4) + bit b (i + 5) + bit b (i + 6) + bit b (i + 7) + bit 0x63 i) % 2)

unfoldable pub sbox : ℕ → ℕ
sbox a = affine (inverted a)

unfoldable pub sub_bytes : State → State
sub_bytes s = entries (λ r c. sbox (entry s r c))

-- 5.1.2 ShiftRows: row r turns left by r places
unfoldable pub shift_rows : State → State
shift_rows s = entries (λ r c. entry s r ((c + r) % 4))

-- 4.3, 5.1.3 MixColumns

-- a row of a matrix times a column
unfoldable pub row : ℕ → ℕ → ℕ → ℕ → ℕ → ℕ
row p q r s w =
    bit_xor (bit_xor (ring1.product p (byte 0 w)) (ring1.product q (byte 1 w))) (bit_xor (ring1.product r (byte 2 w)) (ring1.product s (byte 3 w)))

-- the matrix of the word a0 a1 a2 a3, times a column
unfoldable pub matrix : ℕ → ℕ → ℕ → ℕ → ℕ → ℕ
matrix a0 a1 a2 a3 w = word (row a0 a3 a2 a1 w) (row a1 a0 a3 a2 w) (row a2 a1 a0 a3 w) (row a3 a2 a1 a0 w)

unfoldable pub mix_column : ℕ → ℕ
mix_column w = matrix 0x02 0x01 0x01 0x03 w

unfoldable pub mix_columns : State → State
mix_columns s = columns (λ c. mix_column (column s c))

-- 5.1.4 AddRoundKey
unfoldable pub add_round_key : List ℕ → ℕ → State → State
add_round_key w round s = columns (λ c. bit_xor (column s c) (slice_index w (4 * round + c)))

-- 5.1 Cipher

-- the state after the first AddRoundKey and so many rounds
unfoldable pub rounds : List ℕ → ℕ → State → State
rounds w zero s = add_round_key w 0 s
rounds w (suc round) s = add_round_key w (suc round) (mix_columns (shift_rows (sub_bytes (rounds w round s))))

unfoldable pub cipher : List ℕ → State → State
cipher w s = add_round_key w 10 (shift_rows (sub_bytes (rounds w 9 s)))

-- 5.2 KeyExpansion

unfoldable pub rot_word : ℕ → ℕ
rot_word w = word (byte 1 w) (byte 2 w) (byte 3 w) (byte 0 w)

unfoldable pub sub_word : ℕ → ℕ
sub_word w = word (sbox (byte 0 w)) (sbox (byte 1 w)) (sbox (byte 2 w)) (sbox (byte 3 w))

-- x^(j-1) 00 00 00
unfoldable pub rcon : ℕ → ℕ
rcon j = word (power ring1 2 (j - 1)) 0 0 0

-- what w_(i-1) adds to w_(i-4)
unfoldable pub temp : ℕ → ℕ → ℕ
temp i w = cond (i % 4 == 0) (bit_xor (sub_word (rot_word w)) (rcon (i / 4))) w

-- w_i after w_0 .. w_(i-1)
unfoldable pub next : ℕ → List ℕ → ℕ
next i w = bit_xor (slice_index w (i - 4)) (temp i (slice_index w (i - 1)))

-- w_i for i < 4
unfoldable pub key_word : List ℕ → ℕ → ℕ
key_word key i = word (slice_index key (4 * i)) (slice_index key (4 * i + 1)) (slice_index key (4 * i + 2)) (slice_index key (4 * i + 3))

-- w_0 .. w_(n+3)
unfoldable pub expansion : List ℕ → ℕ → List ℕ
expansion key zero = key_word key 0 ∷ key_word key 1 ∷ key_word key 2 ∷ key_word key 3 ∷ []
expansion key (suc n) = expansion key n ++ (next (n + 4) (expansion key n) ∷ [])

unfoldable pub key_expansion : List ℕ → List ℕ
key_expansion key = expansion key 40

-- 5.3.1 InvShiftRows: row r turns right by r places
unfoldable pub inv_shift_rows : State → State
inv_shift_rows s = entries (λ r c. entry s r ((c + 4 - r) % 4))

-- 5.3.2 InvSubBytes

-- the inverse of the affine map: b_(i+2) + b_(i+5) + b_(i+7) + d_i, with d = 05
unfoldable pub inv_affine : ℕ → ℕ
inv_affine b = bits (λ i. (bit b (i + 2) + bit b (i + 5) + bit b (i + 7) + bit 0x05 i) % 2)

unfoldable pub inv_sbox : ℕ → ℕ
inv_sbox a = inverted (inv_affine a)

unfoldable pub inv_sub_bytes : State → State
inv_sub_bytes s = entries (λ r c. inv_sbox (entry s r c))

-- 5.3.3 InvMixColumns
unfoldable pub inv_mix_column : ℕ → ℕ
inv_mix_column w = matrix 0x0E 0x09 0x0D 0x0B w

unfoldable pub inv_mix_columns : State → State
inv_mix_columns s = columns (λ c. inv_mix_column (column s c))

-- 5.3 InvCipher

-- the rounds from the given one down to the last, 0
unfoldable pub inv_rounds : List ℕ → ℕ → State → State
inv_rounds w zero s = add_round_key w 0 (inv_sub_bytes (inv_shift_rows s))
inv_rounds w (suc round) s = inv_rounds w round (inv_mix_columns (add_round_key w (suc round) (inv_sub_bytes (inv_shift_rows s))))

unfoldable pub inv_cipher : List ℕ → State → State
inv_cipher w s = inv_rounds w 9 (add_round_key w 10 s)

-- AES-128 as maps of blocks, for a key of 16 bytes

unfoldable pub encipher : List ℕ → ℕ → ℕ
encipher key x = block_of (cipher (key_expansion key) (state_of x))

unfoldable pub decipher : List ℕ → ℕ → ℕ
decipher key x = block_of (inv_cipher (key_expansion key) (state_of x))
