-- The rounds as the code makes them, column by column.
use Rattle.std.proofs.Common.{◌≡◌, ℕ, suc, ◌+◌, ◌*◌, ◌^◌, ◌<◌, List, [], get_or, slice_index, sym, ap, ◌∙◌, arith, zero-add, lit<}
use Rattle.std.specs.Simd.{first_chunks}
use lib.Bits.{bit_xor}
use Rattle.aes.specs.Aes.{byte, sub_word, State, column, columns, entry, entries, sbox, inv_sbox, sub_bytes, inv_sub_bytes, shift_rows, inv_shift_rows, mix_column, inv_mix_column, mix_columns, inv_mix_columns, add_round_key, rounds, inv_rounds}
use Rattle.aes.specs.Columns.{substituted, mixed, round_word, inv_round_word, Unmixed}
use Rattle.aes.specs.Laws.{Tabulates}
use Rattle.aes.proofs.Boxes.{sbox_lt, inv_sbox_lt, sbox_undone}
use Rattle.aes.proofs.Bytes.{byte_lt, byte_0, byte_1, byte_2, byte_3, word_cong, on_bytes, on_bytes_undone}
use Rattle.aes.proofs.Chunks.{chunk_at}
use Rattle.aes.proofs.Mixes.{inv_mix_linear, merged_cong, mix_merged, inv_mix_merged}
use Rattle.aes.proofs.States.{same_state, gathered, gathered_0, gathered_1, gathered_2, gathered_3}

-- What a table says at the bytes of columns

module _ (f : ℕ → ℕ) (table : List ℕ) (holds : Tabulates 256 f table) where
  at : (r w : ℕ) → slice_index table (byte r w) ≡ f (byte r w)
  at r w = holds.entries (byte r w) (byte_lt r w)

  pub substituted_by : (a b c d : ℕ) → substituted (slice_index table) a b c d ≡ substituted f a b c d
  unfolding substituted
  substituted_by a b c d = word_cong (at 0 a) (at 1 b) (at 2 c) (at 3 d)

  mixed_by : (a b c d : ℕ) → mixed (slice_index table) a b c d ≡ mixed f a b c d
  unfolding mixed
  mixed_by a b c d = merged_cong (at 0 a) (at 1 b) (at 2 c) (at 3 d)

mixed_forth : (table : List ℕ) → Tabulates 256 round_word table → (a b c d : ℕ) → mixed (slice_index table) a b c d ≡ mix_column (substituted sbox a b c d)
unfolding mixed substituted
mixed_forth table holds a b c d =
    mixed_by round_word table holds a b c d
    ∙ mix_merged (sbox (byte 0 a)) (sbox (byte 1 b)) (sbox (byte 2 c)) (sbox (byte 3 d)) (sbox_lt _) (sbox_lt _) (sbox_lt _) (sbox_lt _)

mixed_back : (table : List ℕ) → Tabulates 256 inv_round_word table → (a b c d : ℕ) → mixed (slice_index table) a b c d ≡ inv_mix_column (substituted inv_sbox a b c d)
unfolding mixed substituted
mixed_back table holds a b c d =
    mixed_by inv_round_word table holds a b c d
    ∙ inv_mix_merged (inv_sbox (byte 0 a)) (inv_sbox (byte 1 b)) (inv_sbox (byte 2 c)) (inv_sbox (byte 3 d)) (inv_sbox_lt _) (inv_sbox_lt _) (inv_sbox_lt _) (inv_sbox_lt _)

pub unmixed_by : (table : List ℕ) → Tabulates 256 inv_round_word table → (w : ℕ) → w < 2 ^ 32
    → mixed (slice_index table) (sub_word w) (sub_word w) (sub_word w) (sub_word w) ≡ inv_mix_column w
unfolding sub_word substituted
unmixed_by table holds w h = mixed_back table holds _ _ _ _ ∙ ap inv_mix_column (on_bytes_undone sbox sbox_lt inv_sbox sbox_undone w h)

-- What is made of each column and the three after it

abbrev pub each : (ℕ → ℕ → ℕ → ℕ → ℕ) → State → State
each g s = record { c0 = g s.c0 s.c1 s.c2 s.c3; c1 = g s.c1 s.c2 s.c3 s.c0; c2 = g s.c2 s.c3 s.c0 s.c1; c3 = g s.c3 s.c0 s.c1 s.c2 }

-- and with these three in the other order
abbrev pub each_back : (ℕ → ℕ → ℕ → ℕ → ℕ) → State → State
each_back g = each (λ a b c d. g a d c b)

each_same : (g h : ℕ → ℕ → ℕ → ℕ → ℕ) → ((a b c d : ℕ) → g a b c d ≡ h a b c d) → (s : State) → each g s ≡ each h s
each_same g h same s = same_state _ _ (same _ _ _ _) (same _ _ _ _) (same _ _ _ _) (same _ _ _ _)

substituted_is : (a b c d : ℕ) → substituted sbox a b c d ≡ gathered (on_bytes sbox a) (on_bytes sbox b) (on_bytes sbox c) (on_bytes sbox d)
unfolding substituted
substituted_is a b c d =
    let s : (r w : ℕ) → sbox (byte r w) < 256 = λ r w. sbox_lt (byte r w) in
    sym
    (word_cong
    (byte_0 _ _ _ _ (s 0 a) (s 1 a) (s 2 a) (s 3 a)) (byte_1 _ _ _ _ (s 0 b) (s 1 b) (s 2 b) (s 3 b))
    (byte_2 _ _ _ _ (s 0 c) (s 1 c) (s 2 c) (s 3 c)) (byte_3 _ _ _ _ (s 0 d) (s 1 d) (s 2 d) (s 3 d)))

inv_substituted_is : (a b c d : ℕ) → substituted inv_sbox a b c d ≡ on_bytes inv_sbox (gathered a b c d)
unfolding substituted
inv_substituted_is a b c d =
    sym (word_cong (ap inv_sbox (gathered_0 a b c d)) (ap inv_sbox (gathered_1 a b c d)) (ap inv_sbox (gathered_2 a b c d)) (ap inv_sbox (gathered_3 a b c d)))

shift_forth : (s : State) → each (substituted sbox) s ≡ shift_rows (sub_bytes s)
unfolding shift_rows sub_bytes columns column entry entries
shift_forth s = same_state _ _ (substituted_is _ _ _ _) (substituted_is _ _ _ _) (substituted_is _ _ _ _) (substituted_is _ _ _ _)

shift_back : (s : State) → each_back (substituted inv_sbox) s ≡ inv_sub_bytes (inv_shift_rows s)
unfolding inv_shift_rows inv_sub_bytes columns column entry entries
shift_back s = same_state _ _ (inv_substituted_is _ _ _ _) (inv_substituted_is _ _ _ _) (inv_substituted_is _ _ _ _) (inv_substituted_is _ _ _ _)

module _ (table : List ℕ) (s : State) where
  pub shifted : Tabulates 256 sbox table → each (substituted (slice_index table)) s ≡ shift_rows (sub_bytes s)
  shifted holds = each_same _ _ (substituted_by sbox table holds) s ∙ shift_forth s

  pub inv_shifted : Tabulates 256 inv_sbox table → each_back (substituted (slice_index table)) s ≡ inv_sub_bytes (inv_shift_rows s)
  inv_shifted holds = each_same _ _ (λ a b c d. substituted_by inv_sbox table holds a d c b) s ∙ shift_back s

  pub mixed_shifted : Tabulates 256 round_word table → each (mixed (slice_index table)) s ≡ mix_columns (shift_rows (sub_bytes s))
  unfolding mix_columns columns column
  mixed_shifted holds = each_same _ _ (mixed_forth table holds) s ∙ ap mix_columns (shift_forth s)

  pub inv_mixed_shifted : Tabulates 256 inv_round_word table → each_back (mixed (slice_index table)) s ≡ inv_mix_columns (inv_sub_bytes (inv_shift_rows s))
  unfolding inv_mix_columns columns column
  inv_mixed_shifted holds = each_same _ _ (λ a b c d. mixed_back table holds a d c b) s ∙ ap inv_mix_columns (shift_back s)

-- A round's own key is its four words of the schedule

pub round_key : (w : List ℕ) (r : ℕ) (s : State) → r < 11 → add_round_key (get_or (first_chunks 4 11 w) r []) 0 s ≡ add_round_key w r s
unfolding add_round_key columns column
round_key w r s h =
    let at : (x c : ℕ) → c < 4 → bit_xor x (get_or (get_or (first_chunks 4 11 w) r []) (4 * 0 + c) 0) ≡ bit_xor x (get_or w (4 * r + c) 0) =
    λ x c l. ap (bit_xor x) (ap (λ n. get_or (get_or (first_chunks 4 11 w) r []) n 0) (zero-add c) ∙ chunk_at w 11 r c h l)
    in
    same_state _ _ (at s.c0 0 (lit< tt)) (at s.c1 1 (lit< tt)) (at s.c2 2 (lit< tt)) (at s.c3 3 (lit< tt))

module _ (w : List ℕ) where
  -- one round more
  pub forth : (s t : State) (r : ℕ) → r < 9 → t ≡ rounds w r s
      → add_round_key (get_or (first_chunks 4 11 w) (suc r) []) 0 (mix_columns (shift_rows (sub_bytes t))) ≡ rounds w (suc r) s
  unfolding rounds
  forth s t r h e =
      round_key w (suc r) _ (omega arith)
      ∙ ap (λ t. add_round_key w (suc r) (mix_columns (shift_rows (sub_bytes t)))) e

  module _ (dw : List ℕ) (unmixed : Unmixed w dw) where
    -- the round key added after InvMixColumns
    swapped : (r : ℕ) (s : State) → r < 11 → add_round_key dw r (inv_mix_columns s) ≡ inv_mix_columns (add_round_key w r s)
    unfolding add_round_key inv_mix_columns columns column
    swapped r s h =
        let at : (x c : ℕ) → c < 4 → bit_xor (inv_mix_column x) (get_or dw (4 * r + c) 0) ≡ inv_mix_column (bit_xor x (get_or w (4 * r + c) 0)) =
        λ x c l. ap (bit_xor (inv_mix_column x)) (unmixed (4 * r + c) (omega arith)) ∙ sym (inv_mix_linear x (get_or w (4 * r + c) 0))
        in
        same_state _ _ (at s.c0 0 (omega arith)) (at s.c1 1 (omega arith)) (at s.c2 2 (omega arith)) (at s.c3 3 (omega arith))

    -- one round back
    pub back : (s t : State) (r : ℕ) (key : List ℕ) → r < 10 → key ≡ get_or (first_chunks 4 11 dw) (suc r) [] → inv_rounds w (suc r) t ≡ s
        → inv_rounds w r (add_round_key key 0 (inv_mix_columns (inv_sub_bytes (inv_shift_rows t)))) ≡ s
    unfolding inv_rounds
    back s t r key h is e =
        let u = inv_sub_bytes (inv_shift_rows t) in
        ap (inv_rounds w r) (ap (λ k. add_round_key k 0 (inv_mix_columns u)) is ∙ round_key dw (suc r) (inv_mix_columns u) (omega arith) ∙ swapped (suc r) u (omega arith)) ∙ e
