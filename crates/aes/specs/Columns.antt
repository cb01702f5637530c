-- The forms in which the code works: a round by tables, and the state as a struct.
use Rattle.std.specs.Prelude.{◌≡◌, ℕ, ◌-◌, ◌*◌, ◌/◌, ◌%◌, ◌^◌, ◌<◌, List, bit_or, bit_xor, slice_index}
use Rattle.aes.specs.Aes.{word, byte, State, sbox, inv_sbox, mix_column, inv_mix_column}
use Rattle.aes.specs.declared.columns.Columns.{Columns}

-- the columns that the code holds, as a state
abbrev pub state : Columns → State
state s = record { c0 = s.c0; c1 = s.c1; c2 = s.c2; c3 = s.c3 }

-- a column after f on each byte, from the columns that its bytes come from
unfoldable pub substituted : (ℕ → ℕ) → ℕ → ℕ → ℕ → ℕ → ℕ
substituted f a b c d = word (f (byte 0 a)) (f (byte 1 b)) (f (byte 2 c)) (f (byte 3 d))

-- entry x of the round tables
abbrev pub round_word : ℕ → ℕ
round_word x = mix_column (word (sbox x) 0 0 0)

abbrev pub inv_round_word : ℕ → ℕ
inv_round_word x = inv_mix_column (word (inv_sbox x) 0 0 0)

-- w turned right by k bits
abbrev pub turned : ℕ → ℕ → ℕ
turned k w = bit_or (w / 2 ^ k) (w * 2 ^ (32 - k) % 2 ^ 32)

-- four words of a round table, each turned to its row, and added up
abbrev pub merged : ℕ → ℕ → ℕ → ℕ → ℕ
merged a b c d = bit_xor (bit_xor (bit_xor a (turned 8 b)) (turned 16 c)) (turned 24 d)

-- a column by a round table t, from the columns that its bytes come from
unfoldable pub mixed : (ℕ → ℕ) → ℕ → ℕ → ℕ → ℕ → ℕ
mixed t a b c d = merged (t (byte 0 a)) (t (byte 1 b)) (t (byte 2 c)) (t (byte 3 d))

-- 5.3.5: the schedule of the equivalent inverse cipher, InvMixColumns of each word
abbrev pub Unmixed : List ℕ → List ℕ → Type 0
Unmixed w dw = (i : ℕ) → i < 44 → slice_index dw i ≡ inv_mix_column (slice_index w i)
