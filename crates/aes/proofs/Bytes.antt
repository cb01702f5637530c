-- Words and their bytes.
use Rattle.std.proofs.Common.{◌≡◌, ℕ, ◌+◌, ◌-◌, ◌*◌, ◌/◌, ◌%◌, ◌^◌, ◌<◌, sym, refl, ap, ◌∙◌, ap₂, mod-lt, mod-eq_of_lt, div-one, arith, lit<, shr-shr}
use lib.Bits.{bit_or, bit_xor, or_shifted, xor_lt, xor_shr, xor_mod, xor_zero_r}
use Rattle.std.proofs.lemmas.Nat.{div_below, div-add-mod'}
use Rattle.aes.specs.Aes.{word, byte}

pub byte_lt : (r w : ℕ) → byte r w < 256
unfolding byte
byte_lt r w = mod-lt (w / 2 ^ (24 - 8 * r)) (lit< tt)

pub word_lt : (a b c d : ℕ) → a < 256 → b < 256 → c < 256 → d < 256 → word a b c d < 2 ^ 32
unfolding word
word_lt a b c d ha hb hc hd = omega arith

pub word_cong : {a b c d e f g h : ℕ} → a ≡ e → b ≡ f → c ≡ g → d ≡ h → word a b c d ≡ word e f g h
word_cong p q r s = cc

-- digits q3, q2 - 256 q3, .. of w
summed : (a b c d q3 q2 q1 w : ℕ) → a ≡ q3 → q3 * 256 + b ≡ q2 → q2 * 256 + c ≡ q1 → q1 * 256 + d ≡ w → a * 2 ^ 24 + b * 2 ^ 16 + c * 2 ^ 8 + d ≡ w
summed a b c d q3 q2 q1 w e3 e2 e1 e0 = omega arith

pub word_bytes : (w : ℕ) → w < 2 ^ 32 → word (byte 0 w) (byte 1 w) (byte 2 w) (byte 3 w) ≡ w
unfolding word byte
word_bytes w h =
    let q1 = w / 2 ^ 8 in
    let q2 = w / 2 ^ 16 in
    let q3 = w / 2 ^ 24 in
    let e0 : q1 * 256 + w % 256 ≡ w = div-add-mod' w 256 in
    let e1 : q2 * 256 + q1 % 256 ≡ q1 = rw (shr-shr w 8 8) at (div-add-mod' q1 256) in
    let e2 : q3 * 256 + q2 % 256 ≡ q2 = rw (shr-shr w 16 8) at (div-add-mod' q2 256) in
    let e3 : q3 % 256 ≡ q3 = mod-eq_of_lt (div_below w (2 ^ 24) 256 (lit< tt) h) in
    ap (λ x. q3 % 256 * 2 ^ 24 + q2 % 256 * 2 ^ 16 + q1 % 256 * 2 ^ 8 + x % 256) (div-one w)
    ∙ summed (q3 % 256) (q2 % 256) (q1 % 256) (w % 256) q3 q2 q1 w e3 e2 e1 e0

module _ (a b c d : ℕ) (ha : a < 256) (hb : b < 256) (hc : c < 256) (hd : d < 256) where
  pub byte_0 : byte 0 (word a b c d) ≡ a
  unfolding word byte
  byte_0 = omega arith

  pub byte_1 : byte 1 (word a b c d) ≡ b
  unfolding word byte
  byte_1 = omega arith

  pub byte_2 : byte 2 (word a b c d) ≡ c
  unfolding word byte
  byte_2 = omega arith

  pub byte_3 : byte 3 (word a b c d) ≡ d
  unfolding word byte
  byte_3 = omega arith

  -- turned left by a byte, as the code does it
  pub left_bytes : bit_or (word a b c d * 2 ^ 8 % 2 ^ 32) (word a b c d / 2 ^ 24) ≡ word b c d a
  unfolding word
  left_bytes =
      let w = a * 2 ^ 24 + b * 2 ^ 16 + c * 2 ^ 8 + d in
      let rest = b * 2 ^ 16 + c * 2 ^ 8 + d in
      let high : w * 2 ^ 8 % 2 ^ 32 ≡ rest * 2 ^ 8 = omega arith in
      let low : w / 2 ^ 24 ≡ a = omega arith in
      let sum : rest * 2 ^ 8 + a ≡ b * 2 ^ 24 + c * 2 ^ 16 + d * 2 ^ 8 + a = omega arith in
      ap₂ bit_or high low ∙ or_shifted rest 8 a ha ∙ sum

-- Sums

pub byte_xor : (r x y : ℕ) → byte r (bit_xor x y) ≡ bit_xor (byte r x) (byte r y)
unfolding byte
byte_xor r x y = ap (λ n. n % 256) (xor_shr x y (24 - 8 * r)) ∙ xor_mod (x / 2 ^ (24 - 8 * r)) (y / 2 ^ (24 - 8 * r)) 8

module _ (a b c d e f g h : ℕ)
    (ha : a < 256) (hb : b < 256) (hc : c < 256) (hd : d < 256) (he : e < 256) (hf : f < 256) (hg : g < 256) (hh : h < 256) where
  pub word_xor : word (bit_xor a e) (bit_xor b f) (bit_xor c g) (bit_xor d h) ≡ bit_xor (word a b c d) (word e f g h)
  word_xor =
      let v = word a b c d in
      let w = word e f g h in
      word_cong
      (sym (byte_xor 0 v w ∙ ap₂ bit_xor (byte_0 a b c d ha hb hc hd) (byte_0 e f g h he hf hg hh)))
      (sym (byte_xor 1 v w ∙ ap₂ bit_xor (byte_1 a b c d ha hb hc hd) (byte_1 e f g h he hf hg hh)))
      (sym (byte_xor 2 v w ∙ ap₂ bit_xor (byte_2 a b c d ha hb hc hd) (byte_2 e f g h he hf hg hh)))
      (sym (byte_xor 3 v w ∙ ap₂ bit_xor (byte_3 a b c d ha hb hc hd) (byte_3 e f g h he hf hg hh)))
      ∙ word_bytes (bit_xor v w) (xor_lt 32 v w (word_lt a b c d ha hb hc hd) (word_lt e f g h he hf hg hh))

pub parts : (a b c d : ℕ) → a < 256 → b < 256 → c < 256 → d < 256
    → word a b c d ≡ bit_xor (bit_xor (bit_xor (word a 0 0 0) (word 0 b 0 0)) (word 0 0 c 0)) (word 0 0 0 d)
parts a b c d ha hb hc hd =
    let z : 0 < 256 = lit< tt in
    sym
    (ap (λ w. bit_xor (bit_xor w (word 0 0 c 0)) (word 0 0 0 d))
    (sym (word_xor a 0 0 0 0 b 0 0 ha z z z z hb z z) ∙ ap (λ x. word x b 0 0) (xor_zero_r a))
    ∙ ap (λ w. bit_xor w (word 0 0 0 d))
    (sym (word_xor a b 0 0 0 0 c 0 ha hb z z z z hc z) ∙ ap₂ (λ x y. word x y c 0) (xor_zero_r a) (xor_zero_r b))
    ∙ sym (word_xor a b c 0 0 0 0 d ha hb hc z z z z hd) ∙ word_cong (xor_zero_r a) (xor_zero_r b) (xor_zero_r c) refl)

-- A map on each byte of a word, and one that undoes it

abbrev pub on_bytes : (ℕ → ℕ) → ℕ → ℕ
on_bytes f w = word (f (byte 0 w)) (f (byte 1 w)) (f (byte 2 w)) (f (byte 3 w))

module _ (f : ℕ → ℕ) (small : (x : ℕ) → f x < 256) where
  pub on_bytes_lt : (w : ℕ) → on_bytes f w < 2 ^ 32
  on_bytes_lt w = word_lt _ _ _ _ (small (byte 0 w)) (small (byte 1 w)) (small (byte 2 w)) (small (byte 3 w))

  pub on_bytes_undone : (g : ℕ → ℕ) → ((x : ℕ) → x < 256 → g (f x) ≡ x) → (w : ℕ) → w < 2 ^ 32 → on_bytes g (on_bytes f w) ≡ w
  on_bytes_undone g back w h =
      let s0 = small (byte 0 w) in
      let s1 = small (byte 1 w) in
      let s2 = small (byte 2 w) in
      let s3 = small (byte 3 w) in
      word_cong
      (ap g (byte_0 _ _ _ _ s0 s1 s2 s3) ∙ back (byte 0 w) (byte_lt 0 w))
      (ap g (byte_1 _ _ _ _ s0 s1 s2 s3) ∙ back (byte 1 w) (byte_lt 1 w))
      (ap g (byte_2 _ _ _ _ s0 s1 s2 s3) ∙ back (byte 2 w) (byte_lt 2 w))
      (ap g (byte_3 _ _ _ _ s0 s1 s2 s3) ∙ back (byte 3 w) (byte_lt 3 w))
      ∙ word_bytes w h
