-- MixColumns is linear, and InvMixColumns undoes it; and each from its values at columns of one byte, for the tables.
use Rattle.std.proofs.Common.{◌≡◌, ℕ, ◌^◌, ◌<◌, sym, refl, ap, ◌∙◌, ap₂, lit<}
use lib.Bits.{bit_xor, xor_lt}
use Rattle.polynomials.specs.Polynomial.{action_in, action, clmul, xtime, remainder, product}
use Rattle.polynomials.proofs.Quotient.{product_lt, product_xor}
use Rattle.polynomials.proofs.Xor.{swap4}
use Rattle.aes.specs.Aes.{word, byte, row, matrix, mix_column, inv_mix_column}
use Rattle.aes.specs.Columns.{turned, merged}
use Rattle.aes.proofs.Bytes.{byte_xor, word_lt, word_xor, word_cong, parts}
use Rattle.aes.proofs.Computed.{Linear, agree_at, linear_same}

times : ℕ → ℕ → ℕ
times a b = product 8 0x1B a b

times_lt : (a b : ℕ) → times a b < 256
unfolding times
times_lt a b = product_lt 8 0x1B (lit< tt) (lit< tt) a b

times_xor : (a b c : ℕ) → times a (bit_xor b c) ≡ bit_xor (times a b) (times a c)
unfolding times
times_xor a b c = product_xor 8 0x1B (lit< tt) (lit< tt) a b c

-- a sum of four sums of two
swap8 : (a b c d e f g h : ℕ)
    → bit_xor (bit_xor (bit_xor a e) (bit_xor b f)) (bit_xor (bit_xor c g) (bit_xor d h)) ≡ bit_xor (bit_xor (bit_xor a b) (bit_xor c d)) (bit_xor (bit_xor e f) (bit_xor g h))
swap8 a b c d e f g h = ap₂ bit_xor (swap4 a e b f) (swap4 c g d h) ∙ swap4 (bit_xor a b) (bit_xor e f) (bit_xor c d) (bit_xor g h)

module _ (p q r s : ℕ) where
  row_lt : (w : ℕ) → row p q r s w < 256
  unfolding row times
  row_lt w =
      xor_lt 8 _ _
      (xor_lt 8 _ _ (times_lt p (byte 0 w)) (times_lt q (byte 1 w)))
      (xor_lt 8 _ _ (times_lt r (byte 2 w)) (times_lt s (byte 3 w)))

  row_linear : Linear (row p q r s)
  unfolding row times
  row_linear x y =
      let at : (a i : ℕ) → times a (byte i (bit_xor x y)) ≡ bit_xor (times a (byte i x)) (times a (byte i y)) =
      λ a i. ap (times a) (byte_xor i x y) ∙ times_xor a (byte i x) (byte i y)
      in
      ap₂ bit_xor (ap₂ bit_xor (at p 0) (at q 1)) (ap₂ bit_xor (at r 2) (at s 3))
      ∙ swap8 (times p (byte 0 x)) (times q (byte 1 x)) (times r (byte 2 x)) (times s (byte 3 x))
      (times p (byte 0 y)) (times q (byte 1 y)) (times r (byte 2 y)) (times s (byte 3 y))

module _ (a0 a1 a2 a3 : ℕ) where
  matrix_lt : (w : ℕ) → matrix a0 a1 a2 a3 w < 2 ^ 32
  unfolding matrix
  matrix_lt w = word_lt _ _ _ _ (row_lt a0 a3 a2 a1 w) (row_lt a1 a0 a3 a2 w) (row_lt a2 a1 a0 a3 w) (row_lt a3 a2 a1 a0 w)

  matrix_linear : Linear (matrix a0 a1 a2 a3)
  unfolding matrix
  matrix_linear x y =
      word_cong (row_linear a0 a3 a2 a1 x y) (row_linear a1 a0 a3 a2 x y) (row_linear a2 a1 a0 a3 x y) (row_linear a3 a2 a1 a0 x y)
      ∙ word_xor _ _ _ _ _ _ _ _
      (row_lt a0 a3 a2 a1 x) (row_lt a1 a0 a3 a2 x) (row_lt a2 a1 a0 a3 x) (row_lt a3 a2 a1 a0 x)
      (row_lt a0 a3 a2 a1 y) (row_lt a1 a0 a3 a2 y) (row_lt a2 a1 a0 a3 y) (row_lt a3 a2 a1 a0 y)

mix_linear : Linear mix_column
unfolding mix_column
mix_linear = matrix_linear 0x02 0x01 0x01 0x03

pub inv_mix_linear : Linear inv_mix_column
unfolding inv_mix_column
inv_mix_linear = matrix_linear 0x0E 0x09 0x0D 0x0B

pub mix_lt : (w : ℕ) → mix_column w < 2 ^ 32
unfolding mix_column
mix_lt = matrix_lt 0x02 0x01 0x01 0x03

pub inv_mix_lt : (w : ℕ) → inv_mix_column w < 2 ^ 32
unfolding inv_mix_column
inv_mix_lt = matrix_lt 0x0E 0x09 0x0D 0x0B

pub mix_undone : (w : ℕ) → w < 2 ^ 32 → inv_mix_column (mix_column w) ≡ w
unfolding action_in action clmul xtime remainder product word byte row matrix mix_column inv_mix_column
mix_undone =
    linear_same (λ w. inv_mix_column (mix_column w)) (λ w. w)
    (λ x y. ap inv_mix_column (mix_linear x y) ∙ inv_mix_linear (mix_column x) (mix_column y)) (λ x y. refl) 32 tt

pub mix_redone : (w : ℕ) → w < 2 ^ 32 → mix_column (inv_mix_column w) ≡ w
unfolding action_in action clmul xtime remainder product word byte row matrix mix_column inv_mix_column
mix_redone =
    linear_same (λ w. mix_column (inv_mix_column w)) (λ w. w)
    (λ x y. ap mix_column (inv_mix_linear x y) ∙ mix_linear (inv_mix_column x) (inv_mix_column y)) (λ x y. refl) 32 tt

-- A column from four of one byte each, the table's words turned to their rows

pub merged_cong : {a b c d e f g h : ℕ} → a ≡ e → b ≡ f → c ≡ g → d ≡ h → merged a b c d ≡ merged e f g h
merged_cong p q r s = cc

module _ (m : ℕ → ℕ) (lin : Linear m)
    (t1 : (x : ℕ) → x < 256 → turned 8 (m (word x 0 0 0)) ≡ m (word 0 x 0 0))
    (t2 : (x : ℕ) → x < 256 → turned 16 (m (word x 0 0 0)) ≡ m (word 0 0 x 0))
    (t3 : (x : ℕ) → x < 256 → turned 24 (m (word x 0 0 0)) ≡ m (word 0 0 0 x))
    (a b c d : ℕ) (ha : a < 256) (hb : b < 256) (hc : c < 256) (hd : d < 256) where
  merge : merged (m (word a 0 0 0)) (m (word b 0 0 0)) (m (word c 0 0 0)) (m (word d 0 0 0)) ≡ m (word a b c d)
  merge =
      ap₂ bit_xor (ap₂ bit_xor (ap (bit_xor (m (word a 0 0 0))) (t1 b hb)) (t2 c hc)) (t3 d hd)
      ∙ sym
      (ap m (parts a b c d ha hb hc hd)
      ∙ lin (bit_xor (bit_xor (word a 0 0 0) (word 0 b 0 0)) (word 0 0 c 0)) (word 0 0 0 d)
      ∙ ap (λ x. bit_xor x (m (word 0 0 0 d)))
      (lin (bit_xor (word a 0 0 0) (word 0 b 0 0)) (word 0 0 c 0)
      ∙ ap (λ x. bit_xor x (m (word 0 0 c 0))) (lin (word a 0 0 0) (word 0 b 0 0))))

module _ (a b c d : ℕ) (ha : a < 256) (hb : b < 256) (hc : c < 256) (hd : d < 256) where
  pub mix_merged : merged (mix_column (word a 0 0 0)) (mix_column (word b 0 0 0)) (mix_column (word c 0 0 0)) (mix_column (word d 0 0 0)) ≡ mix_column (word a b c d)
  unfolding action_in action clmul xtime remainder product word byte row matrix mix_column
  mix_merged =
      merge mix_column mix_linear
      (agree_at (λ x. turned 8 (mix_column (word x 0 0 0))) (λ x. mix_column (word 0 x 0 0)) 256 tt)
      (agree_at (λ x. turned 16 (mix_column (word x 0 0 0))) (λ x. mix_column (word 0 0 x 0)) 256 tt)
      (agree_at (λ x. turned 24 (mix_column (word x 0 0 0))) (λ x. mix_column (word 0 0 0 x)) 256 tt)
      a b c d ha hb hc hd

  pub inv_mix_merged : merged (inv_mix_column (word a 0 0 0)) (inv_mix_column (word b 0 0 0)) (inv_mix_column (word c 0 0 0)) (inv_mix_column (word d 0 0 0)) ≡ inv_mix_column (word a b c d)
  unfolding action_in action clmul xtime remainder product word byte row matrix inv_mix_column
  inv_mix_merged =
      merge inv_mix_column inv_mix_linear
      (agree_at (λ x. turned 8 (inv_mix_column (word x 0 0 0))) (λ x. inv_mix_column (word 0 x 0 0)) 256 tt)
      (agree_at (λ x. turned 16 (inv_mix_column (word x 0 0 0))) (λ x. inv_mix_column (word 0 0 x 0)) 256 tt)
      (agree_at (λ x. turned 24 (inv_mix_column (word x 0 0 0))) (λ x. inv_mix_column (word 0 0 0 x)) 256 tt)
      a b c d ha hb hc hd
