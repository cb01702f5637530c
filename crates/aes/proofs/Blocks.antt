-- Blocks as states, the words of the schedule, and the undoing of whole blocks.
use Rattle.std.proofs.Common.{◌≡◌, ℕ, zero, suc, ◌+◌, ◌-◌, ◌*◌, ◌/◌, ◌%◌, ◌^◌, ◌<◌, true, false, cond, eqb, List, [], ◌∷◌, length, get_or, ap, ◌∙◌, mod-lt, mod-eq_of_lt, div-one, arith, lit<, shr-shr}
use lib.Bits.{bit_xor, xor_lt}
use Rattle.std.specs.Int.Digits.{AllBelowBase}
use Rattle.std.proofs.lemmas.Nat.{div_below, div-add-mod'}
use Rattle.std.proofs.ByRecursion.{All-from_get_or, All-push}
use Rattle.polynomials.proofs.Quotient.{product_lt}
use Rattle.rings.specs.Rings.{ring1}
use Rattle.rings.specs.Sums.{power}
use Rattle.aes.specs.Aes.{State, columns, sbox, sub_word, rot_word, rcon, temp, next, key_word, expansion, key_expansion, cipher, inv_cipher, state_of, block_of, encipher, decipher}
use Rattle.aes.specs.Laws.{Key, Undoing}
use Rattle.aes.proofs.Boxes.{sbox_lt}
use Rattle.aes.proofs.Bytes.{word_lt, on_bytes_lt}
use Rattle.aes.proofs.States.{Words, same_state, cipher_undone, cipher_redone, cipher_words, inv_cipher_words}

-- Blocks

state_words : (x : ℕ) → Words (state_of x)
unfolding state_of columns
state_words x =
    let low : (y : ℕ) → y % 2 ^ 32 < 2 ^ 32 = λ y. mod-lt y (lit< tt) in
    record { w0 = low (x / 2 ^ 96); w1 = low (x / 2 ^ 64); w2 = low (x / 2 ^ 32); w3 = low (x / 1) }

summed : (a b c d q3 q2 q1 x : ℕ) → a ≡ q3 → q3 * 2 ^ 32 + b ≡ q2 → q2 * 2 ^ 32 + c ≡ q1 → q1 * 2 ^ 32 + d ≡ x
    → a * 2 ^ 96 + b * 2 ^ 64 + c * 2 ^ 32 + d ≡ x
summed a b c d q3 q2 q1 x e3 e2 e1 e0 = omega arith

block_state : (x : ℕ) → x < 2 ^ 128 → block_of (state_of x) ≡ x
unfolding state_of columns block_of
block_state x h =
    let q1 = x / 2 ^ 32 in
    let q2 = x / 2 ^ 64 in
    let q3 = x / 2 ^ 96 in
    let e0 : q1 * 2 ^ 32 + x / 1 % 2 ^ 32 ≡ x = ap (λ y. q1 * 2 ^ 32 + y % 2 ^ 32) (div-one x) ∙ div-add-mod' x (2 ^ 32) in
    let e1 : q2 * 2 ^ 32 + q1 % 2 ^ 32 ≡ q1 = rw (shr-shr x 32 32) at (div-add-mod' q1 (2 ^ 32)) in
    let e2 : q3 * 2 ^ 32 + q2 % 2 ^ 32 ≡ q2 = rw (shr-shr x 64 32) at (div-add-mod' q2 (2 ^ 32)) in
    let e3 : q3 % 2 ^ 32 ≡ q3 = mod-eq_of_lt (div_below x (2 ^ 96) (2 ^ 32) (lit< tt) h) in
    summed (q3 % 2 ^ 32) (q2 % 2 ^ 32) (q1 % 2 ^ 32) (x / 1 % 2 ^ 32) q3 q2 q1 x e3 e2 e1 e0

module _ (a b c d : ℕ) (ha : a < 2 ^ 32) (hb : b < 2 ^ 32) (hc : c < 2 ^ 32) (hd : d < 2 ^ 32) where
  digit_0 : (a * 2 ^ 96 + b * 2 ^ 64 + c * 2 ^ 32 + d) / 2 ^ 96 % 2 ^ 32 ≡ a
  digit_0 = omega arith

  digit_1 : (a * 2 ^ 96 + b * 2 ^ 64 + c * 2 ^ 32 + d) / 2 ^ 64 % 2 ^ 32 ≡ b
  digit_1 = omega arith

  digit_2 : (a * 2 ^ 96 + b * 2 ^ 64 + c * 2 ^ 32 + d) / 2 ^ 32 % 2 ^ 32 ≡ c
  digit_2 = omega arith

  digit_3 : (a * 2 ^ 96 + b * 2 ^ 64 + c * 2 ^ 32 + d) / 1 % 2 ^ 32 ≡ d
  digit_3 = omega arith

  below : a * 2 ^ 96 + b * 2 ^ 64 + c * 2 ^ 32 + d < 2 ^ 128
  below = omega arith

state_block : (s : State) → Words s → state_of (block_of s) ≡ s
unfolding state_of columns block_of
state_block s ws =
    let a = s.c0 in
    let b = s.c1 in
    let c = s.c2 in
    let d = s.c3 in
    same_state _ s
    (digit_0 a b c d ws.w0 ws.w1 ws.w2 ws.w3) (digit_1 a b c d ws.w0 ws.w1 ws.w2 ws.w3)
    (digit_2 a b c d ws.w0 ws.w1 ws.w2 ws.w3) (digit_3 a b c d ws.w0 ws.w1 ws.w2 ws.w3)

block_lt : (s : State) → Words s → block_of s < 2 ^ 128
unfolding block_of
block_lt s ws = below s.c0 s.c1 s.c2 s.c3 ws.w0 ws.w1 ws.w2 ws.w3

-- The schedule

-- past the end of a list stands the default, 0
under_at : (b : ℕ) → 0 < b → (xs : List ℕ) → AllBelowBase b xs → (i : ℕ) → get_or xs i 0 < b
under_at b pos [] u i = pos
under_at b pos (x ∷ xs) u zero = u.0
under_at b pos (x ∷ xs) u (suc i) = under_at b pos xs u.1 i

power_lt : (k : ℕ) → power ring1 2 k < 256
unfolding power
power_lt zero = lit< tt
power_lt (suc k) = product_lt 8 0x1B (lit< tt) (lit< tt) _ _

rcon_lt : (j : ℕ) → rcon j < 2 ^ 32
unfolding rcon
rcon_lt j = word_lt (power ring1 2 (j - 1)) 0 0 0 (power_lt (j - 1)) (lit< tt) (lit< tt) (lit< tt)

sub_word_lt : (w : ℕ) → sub_word w < 2 ^ 32
unfolding sub_word
sub_word_lt = on_bytes_lt sbox sbox_lt

temp_lt : (i w : ℕ) → w < 2 ^ 32 → temp i w < 2 ^ 32
unfolding temp
temp_lt i w h =
    elim (eqb (i % 4) 0) as (λ t. cond t (bit_xor (sub_word (rot_word w)) (rcon (i / 4))) w < 2 ^ 32) [
      | true ↦ xor_lt 32 (sub_word (rot_word w)) (rcon (i / 4)) (sub_word_lt (rot_word w)) (rcon_lt (i / 4))
      | false ↦ h
    ]

module _ (key : List ℕ) (bytes : AllBelowBase 256 key) where
  key_word_lt : (i : ℕ) → key_word key i < 2 ^ 32
  unfolding key_word
  key_word_lt i =
      let at = under_at 256 (lit< tt) key bytes in
      word_lt _ _ _ _ (at (4 * i)) (at (4 * i + 1)) (at (4 * i + 2)) (at (4 * i + 3))

  expansion_under : (n : ℕ) → AllBelowBase (2 ^ 32) (expansion key n)
  unfolding expansion next
  expansion_under zero = (key_word_lt 0, (key_word_lt 1, (key_word_lt 2, (key_word_lt 3, tt))))
  expansion_under (suc n) =
      let w = expansion key n in
      let low = under_at (2 ^ 32) (lit< tt) w (expansion_under n) in
      All-push (λ d. d < 2 ^ 32) w _ (expansion_under n)
      (xor_lt 32 _ _ (low (n + 4 - 4)) (temp_lt (n + 4) (get_or w (n + 4 - 1) 0) (low (n + 4 - 1))))

  schedule_low : (i : ℕ) → get_or (key_expansion key) i 0 < 2 ^ 32
  unfolding key_expansion
  schedule_low = under_at (2 ^ 32) (lit< tt) (expansion key 40) (expansion_under 40)

-- Whole blocks

pub key_fit : (key : List ℕ) → length key ≡ 16 → ((i : ℕ) → get_or key i 0 < 256) → Key key
key_fit key whole bytes = (whole, All-from_get_or (λ d. d < 256) key 0 (λ i _. bytes i))

module _ (key : List ℕ) (x : ℕ) (fits : Key key) where
  pub encipher_lt : encipher key x < 2 ^ 128
  unfolding encipher
  encipher_lt = block_lt (cipher (key_expansion key) (state_of x)) (cipher_words (key_expansion key) (schedule_low key fits.1) (state_of x))

  pub decipher_lt : decipher key x < 2 ^ 128
  unfolding decipher
  decipher_lt = block_lt (inv_cipher (key_expansion key) (state_of x)) (inv_cipher_words (key_expansion key) (schedule_low key fits.1) (state_of x))

  pub encipher_undone : x < 2 ^ 128 → decipher key (encipher key x) ≡ x
  unfolding encipher decipher
  encipher_undone h =
      let w = key_expansion key in
      let low = schedule_low key fits.1 in
      let s = state_of x in
      ap (λ t. block_of (inv_cipher w t)) (state_block (cipher w s) (cipher_words w low s))
      ∙ ap block_of (cipher_undone w low s (state_words x)) ∙ block_state x h

  pub decipher_undone : x < 2 ^ 128 → encipher key (decipher key x) ≡ x
  unfolding encipher decipher
  decipher_undone h =
      let w = key_expansion key in
      let low = schedule_low key fits.1 in
      let s = state_of x in
      ap (λ t. block_of (cipher w t)) (state_block (inv_cipher w s) (inv_cipher_words w low s))
      ∙ ap block_of (cipher_redone w low s (state_words x)) ∙ block_state x h

pub undoing : Undoing
undoing =
    record {
      closed = λ key x fits _. encipher_lt key x fits;
      closed_back = λ key x fits _. decipher_lt key x fits;
      undone = encipher_undone;
      redone = decipher_undone;
    }
