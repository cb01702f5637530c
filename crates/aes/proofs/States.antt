-- The steps on whole states, the rounds and the ciphers undo each other.
use Rattle.std.proofs.Common.{◌≡◌, ℕ, zero, suc, ◌+◌, ◌*◌, ◌^◌, ◌<◌, List, get_or, ap, ◌∙◌}
use lib.Bits.{bit_xor, xor_lt}
use Rattle.polynomials.proofs.Xor.{cancel}
use Rattle.aes.specs.Aes.{word, byte, State, column, columns, entry, entries, sbox, inv_sbox, sub_bytes, inv_sub_bytes, shift_rows, inv_shift_rows, mix_column, inv_mix_column, mix_columns, inv_mix_columns, add_round_key, rounds, cipher, inv_rounds, inv_cipher}
use Rattle.aes.proofs.Boxes.{sbox_lt, inv_sbox_lt, sbox_undone, sbox_redone}
use Rattle.aes.proofs.Bytes.{byte_lt, word_lt, word_bytes, byte_0, byte_1, byte_2, byte_3, word_cong, on_bytes, on_bytes_lt, on_bytes_undone}
use Rattle.aes.proofs.Mixes.{mix_lt, inv_mix_lt, mix_undone, mix_redone}

unfoldable make : ℕ → ℕ → ℕ → ℕ → State
make a b c d = record { c0 = a; c1 = b; c2 = c; c3 = d }

pub same_state : (s t : State) → s.c0 ≡ t.c0 → s.c1 ≡ t.c1 → s.c2 ≡ t.c2 → s.c3 ≡ t.c3 → s ≡ t
unfolding make
same_state s t p q r u = let e : make s.c0 s.c1 s.c2 s.c3 ≡ make t.c0 t.c1 t.c2 t.c3 = cc in e

-- each column is a word
pub record Words (s : State) : Type 0 where
  pub w0 : s.c0 < 2 ^ 32
  pub w1 : s.c1 < 2 ^ 32
  pub w2 : s.c2 < 2 ^ 32
  pub w3 : s.c3 < 2 ^ 32

module _ (f : ℕ → ℕ) (low : (w : ℕ) → f w < 2 ^ 32) where
  columns_words : (s : State) → Words (columns (λ c. f (column s c)))
  unfolding columns column
  columns_words s = record { w0 = low s.c0; w1 = low s.c1; w2 = low s.c2; w3 = low s.c3 }

  columns_undone : (g : ℕ → ℕ) → ((w : ℕ) → w < 2 ^ 32 → g (f w) ≡ w) → (s : State) → Words s
      → columns (λ c. g (column (columns (λ c. f (column s c))) c)) ≡ s
  unfolding columns column
  columns_undone g back s ws =
      same_state _ s (back s.c0 ws.w0) (back s.c1 ws.w1) (back s.c2 ws.w2) (back s.c3 ws.w3)

-- SubBytes

pub sub_words : (s : State) → Words (sub_bytes s)
unfolding sub_bytes entries entry
sub_words = columns_words (on_bytes sbox) (on_bytes_lt sbox sbox_lt)

pub inv_sub_words : (s : State) → Words (inv_sub_bytes s)
unfolding inv_sub_bytes entries entry
inv_sub_words = columns_words (on_bytes inv_sbox) (on_bytes_lt inv_sbox inv_sbox_lt)

sub_undone : (s : State) → Words s → inv_sub_bytes (sub_bytes s) ≡ s
unfolding sub_bytes inv_sub_bytes entries entry
sub_undone = columns_undone (on_bytes sbox) (on_bytes_lt sbox sbox_lt) (on_bytes inv_sbox) (on_bytes_undone sbox sbox_lt inv_sbox sbox_undone)

sub_redone : (s : State) → Words s → sub_bytes (inv_sub_bytes s) ≡ s
unfolding sub_bytes inv_sub_bytes entries entry
sub_redone = columns_undone (on_bytes inv_sbox) (on_bytes_lt inv_sbox inv_sbox_lt) (on_bytes sbox) (on_bytes_undone inv_sbox inv_sbox_lt sbox sbox_redone)

-- MixColumns

mix_words : (s : State) → Words (mix_columns s)
unfolding mix_columns
mix_words = columns_words mix_column mix_lt

inv_mix_words : (s : State) → Words (inv_mix_columns s)
unfolding inv_mix_columns
inv_mix_words = columns_words inv_mix_column inv_mix_lt

mixed_undone : (s : State) → Words s → inv_mix_columns (mix_columns s) ≡ s
unfolding mix_columns inv_mix_columns
mixed_undone = columns_undone mix_column mix_lt inv_mix_column mix_undone

mixed_redone : (s : State) → Words s → mix_columns (inv_mix_columns s) ≡ s
unfolding mix_columns inv_mix_columns
mixed_redone = columns_undone inv_mix_column inv_mix_lt mix_column mix_redone

-- ShiftRows

-- a byte of each of four words
module _ (a b c d : ℕ) where
  abbrev pub gathered : ℕ
  gathered = word (byte 0 a) (byte 1 b) (byte 2 c) (byte 3 d)

  gathered_lt : gathered < 2 ^ 32
  gathered_lt = word_lt _ _ _ _ (byte_lt 0 a) (byte_lt 1 b) (byte_lt 2 c) (byte_lt 3 d)

  pub gathered_0 : byte 0 gathered ≡ byte 0 a
  gathered_0 = byte_0 _ _ _ _ (byte_lt 0 a) (byte_lt 1 b) (byte_lt 2 c) (byte_lt 3 d)

  pub gathered_1 : byte 1 gathered ≡ byte 1 b
  gathered_1 = byte_1 _ _ _ _ (byte_lt 0 a) (byte_lt 1 b) (byte_lt 2 c) (byte_lt 3 d)

  pub gathered_2 : byte 2 gathered ≡ byte 2 c
  gathered_2 = byte_2 _ _ _ _ (byte_lt 0 a) (byte_lt 1 b) (byte_lt 2 c) (byte_lt 3 d)

  pub gathered_3 : byte 3 gathered ≡ byte 3 d
  gathered_3 = byte_3 _ _ _ _ (byte_lt 0 a) (byte_lt 1 b) (byte_lt 2 c) (byte_lt 3 d)

-- four words that each have one byte of w
regathered : (w p q r s : ℕ) → w < 2 ^ 32 → byte 0 p ≡ byte 0 w → byte 1 q ≡ byte 1 w → byte 2 r ≡ byte 2 w → byte 3 s ≡ byte 3 w → gathered p q r s ≡ w
regathered w p q r s h e0 e1 e2 e3 = word_cong e0 e1 e2 e3 ∙ word_bytes w h

shift_words : (s : State) → Words (shift_rows s)
unfolding shift_rows columns column entry entries
shift_words s = record { w0 = gathered_lt _ _ _ _; w1 = gathered_lt _ _ _ _; w2 = gathered_lt _ _ _ _; w3 = gathered_lt _ _ _ _ }

inv_shift_words : (s : State) → Words (inv_shift_rows s)
unfolding inv_shift_rows columns column entry entries
inv_shift_words s = record { w0 = gathered_lt _ _ _ _; w1 = gathered_lt _ _ _ _; w2 = gathered_lt _ _ _ _; w3 = gathered_lt _ _ _ _ }

module _ (s : State) (ws : Words s) where
  shift_undone : inv_shift_rows (shift_rows s) ≡ s
  unfolding shift_rows inv_shift_rows columns column entry entries
  shift_undone =
      let a = s.c0 in
      let b = s.c1 in
      let c = s.c2 in
      let d = s.c3 in
      same_state _ s
      (regathered a _ _ _ _ ws.w0 (gathered_0 a b c d) (gathered_1 d a b c) (gathered_2 c d a b) (gathered_3 b c d a))
      (regathered b _ _ _ _ ws.w1 (gathered_0 b c d a) (gathered_1 a b c d) (gathered_2 d a b c) (gathered_3 c d a b))
      (regathered c _ _ _ _ ws.w2 (gathered_0 c d a b) (gathered_1 b c d a) (gathered_2 a b c d) (gathered_3 d a b c))
      (regathered d _ _ _ _ ws.w3 (gathered_0 d a b c) (gathered_1 c d a b) (gathered_2 b c d a) (gathered_3 a b c d))

  shift_redone : shift_rows (inv_shift_rows s) ≡ s
  unfolding shift_rows inv_shift_rows columns column entry entries
  shift_redone =
      let a = s.c0 in
      let b = s.c1 in
      let c = s.c2 in
      let d = s.c3 in
      same_state _ s
      (regathered a _ _ _ _ ws.w0 (gathered_0 a d c b) (gathered_1 b a d c) (gathered_2 c b a d) (gathered_3 d c b a))
      (regathered b _ _ _ _ ws.w1 (gathered_0 b a d c) (gathered_1 c b a d) (gathered_2 d c b a) (gathered_3 a d c b))
      (regathered c _ _ _ _ ws.w2 (gathered_0 c b a d) (gathered_1 d c b a) (gathered_2 a d c b) (gathered_3 b a d c))
      (regathered d _ _ _ _ ws.w3 (gathered_0 d c b a) (gathered_1 a d c b) (gathered_2 b a d c) (gathered_3 c b a d))

-- both, there and back
there : (s : State) → Words s → inv_sub_bytes (inv_shift_rows (shift_rows (sub_bytes s))) ≡ s
there s ws = ap inv_sub_bytes (shift_undone (sub_bytes s) (sub_words s)) ∙ sub_undone s ws

here : (s : State) → Words s → shift_rows (sub_bytes (inv_sub_bytes (inv_shift_rows s))) ≡ s
here s ws = ap shift_rows (sub_redone (inv_shift_rows s) (inv_shift_words s)) ∙ shift_redone s ws

-- The rounds, over a schedule of words

module _ (w : List ℕ) (low : (i : ℕ) → get_or w i 0 < 2 ^ 32) where
  add_undone : (r : ℕ) (s : State) → add_round_key w r (add_round_key w r s) ≡ s
  unfolding add_round_key columns column
  add_undone r s =
      let at : (x c : ℕ) → bit_xor (bit_xor x (get_or w (4 * r + c) 0)) (get_or w (4 * r + c) 0) ≡ x = λ x c. cancel x (get_or w (4 * r + c) 0) in
      same_state _ s (at s.c0 0) (at s.c1 1) (at s.c2 2) (at s.c3 3)

  add_words : (r : ℕ) (s : State) → Words s → Words (add_round_key w r s)
  unfolding add_round_key columns column
  add_words r s ws =
      let at : (x c : ℕ) → x < 2 ^ 32 → bit_xor x (get_or w (4 * r + c) 0) < 2 ^ 32 = λ x c h. xor_lt 32 x (get_or w (4 * r + c) 0) h (low (4 * r + c)) in
      record { w0 = at s.c0 0 ws.w0; w1 = at s.c1 1 ws.w1; w2 = at s.c2 2 ws.w2; w3 = at s.c3 3 ws.w3 }

  rounds_undone : (r : ℕ) (s : State) → Words s → inv_rounds w r (shift_rows (sub_bytes (rounds w r s))) ≡ s
  unfolding rounds inv_rounds
  rounds_undone zero s ws = ap (add_round_key w 0) (there (add_round_key w 0 s) (add_words 0 s ws)) ∙ add_undone 0 s
  rounds_undone (suc r) s ws =
      let t = shift_rows (sub_bytes (rounds w r s)) in
      let u = mix_columns t in
      ap (λ v. inv_rounds w r (inv_mix_columns (add_round_key w (suc r) v))) (there (add_round_key w (suc r) u) (add_words (suc r) u (mix_words t)))
      ∙ ap (λ v. inv_rounds w r (inv_mix_columns v)) (add_undone (suc r) u)
      ∙ ap (inv_rounds w r) (mixed_undone t (shift_words (sub_bytes (rounds w r s))))
      ∙ rounds_undone r s ws

  rounds_redone : (r : ℕ) (s : State) → Words s → shift_rows (sub_bytes (rounds w r (inv_rounds w r s))) ≡ s
  unfolding rounds inv_rounds
  rounds_redone zero s ws = ap (λ v. shift_rows (sub_bytes v)) (add_undone 0 (inv_sub_bytes (inv_shift_rows s))) ∙ here s ws
  rounds_redone (suc r) s ws =
      let u = inv_sub_bytes (inv_shift_rows s) in
      let k = add_round_key w (suc r) u in
      let t = inv_mix_columns k in
      ap (λ v. shift_rows (sub_bytes (add_round_key w (suc r) (mix_columns v)))) (rounds_redone r t (inv_mix_words k))
      ∙ ap (λ v. shift_rows (sub_bytes (add_round_key w (suc r) v))) (mixed_redone k (add_words (suc r) u (inv_sub_words (inv_shift_rows s))))
      ∙ ap (λ v. shift_rows (sub_bytes v)) (add_undone (suc r) u)
      ∙ here s ws

  inv_rounds_words : (r : ℕ) (s : State) → Words (inv_rounds w r s)
  unfolding inv_rounds
  inv_rounds_words zero s = add_words 0 _ (inv_sub_words (inv_shift_rows s))
  inv_rounds_words (suc r) s = inv_rounds_words r (inv_mix_columns (add_round_key w (suc r) (inv_sub_bytes (inv_shift_rows s))))

  pub cipher_words : (s : State) → Words (cipher w s)
  unfolding cipher
  cipher_words s = add_words 10 _ (shift_words (sub_bytes (rounds w 9 s)))

  pub inv_cipher_words : (s : State) → Words (inv_cipher w s)
  unfolding inv_cipher
  inv_cipher_words s = inv_rounds_words 9 (add_round_key w 10 s)

  pub cipher_undone : (s : State) → Words s → inv_cipher w (cipher w s) ≡ s
  unfolding cipher inv_cipher
  cipher_undone s ws = ap (inv_rounds w 9) (add_undone 10 (shift_rows (sub_bytes (rounds w 9 s)))) ∙ rounds_undone 9 s ws

  pub cipher_redone : (s : State) → Words s → cipher w (inv_cipher w s) ≡ s
  unfolding cipher inv_cipher
  cipher_redone s ws = ap (add_round_key w 10) (rounds_redone 9 (add_round_key w 10 s) (add_words 10 s ws)) ∙ add_undone 10 s
