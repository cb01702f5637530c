-- Each map undoes the other.
use Rattle.std.proofs.Common.{◌≡◌, ℕ, zero, suc, ◌+◌, ◌-◌, ◌*◌, ◌/◌, ◌%◌, ◌^◌, ◌<◌, List, get_or, refl, ap, ◌∙◌, ap₂, mod-lt, arith, lit<}
use lib.Bits.{xor_lt}
use Rattle.std.proofs.lemmas.Nat.{div_below, div-add-mod'}
use Rattle.xtea.specs.Laws.{Undoing}
use Rattle.xtea.specs.Xtea.{plus, minus, F, change, sum_after, Words, grow₀, grow₁, shrink₀, shrink₁, rounds, rounds_back, key_words, words_of, block_of, encipher, decipher}

pub plus_lt : (a b : ℕ) → plus a b < 2 ^ 32
unfolding plus
plus_lt a b = mod-lt (a + b) (lit< tt)

pub minus_lt : (a b : ℕ) → minus a b < 2 ^ 32
unfolding minus
minus_lt a b = mod-lt (a + (2 ^ 32 - b)) (lit< tt)

change_lt : (v s k : ℕ) → change v s k < 2 ^ 32
unfolding change F
change_lt v s k = xor_lt 32 _ _ (plus_lt _ v) (plus_lt s k)

pub plus_undone : (a b : ℕ) → a < 2 ^ 32 → b < 2 ^ 32 → minus (plus a b) b ≡ a
unfolding plus minus
plus_undone a b ha hb = omega arith

minus_undone : (a b : ℕ) → a < 2 ^ 32 → b < 2 ^ 32 → plus (minus a b) b ≡ a
unfolding plus minus
minus_undone a b ha hb = omega arith

pub record Fine (h : Words) : Type 0 where
  pub w0 : h.v₀ < 2 ^ 32
  pub w1 : h.v₁ < 2 ^ 32

unfoldable pub pair : ℕ → ℕ → Words
pair a b = record { v₀ = a; v₁ = b }

module _ (ks : List ℕ) where
  grow₀_fine : (s : ℕ) (h : Words) → Fine h → Fine (grow₀ ks s h)
  unfolding grow₀
  grow₀_fine s h f = record { w0 = plus_lt h.v₀ _; w1 = f.w1 }

  grow₁_fine : (s : ℕ) (h : Words) → Fine h → Fine (grow₁ ks s h)
  unfolding grow₁
  grow₁_fine s h f = record { w0 = f.w0; w1 = plus_lt h.v₁ _ }

  shrink₀_fine : (s : ℕ) (h : Words) → Fine h → Fine (shrink₀ ks s h)
  unfolding shrink₀
  shrink₀_fine s h f = record { w0 = minus_lt h.v₀ _; w1 = f.w1 }

  shrink₁_fine : (s : ℕ) (h : Words) → Fine h → Fine (shrink₁ ks s h)
  unfolding shrink₁
  shrink₁_fine s h f = record { w0 = f.w0; w1 = minus_lt h.v₁ _ }

  grow₀_undone : (s : ℕ) (h : Words) → Fine h → shrink₀ ks s (grow₀ ks s h) ≡ h
  unfolding grow₀ shrink₀ pair
  grow₀_undone s h f = ap (λ x. pair x h.v₁) (plus_undone h.v₀ (change h.v₁ s (get_or ks (s % 4) 0)) f.w0 (change_lt h.v₁ s _))

  grow₀_redone : (s : ℕ) (h : Words) → Fine h → grow₀ ks s (shrink₀ ks s h) ≡ h
  unfolding grow₀ shrink₀ pair
  grow₀_redone s h f = ap (λ x. pair x h.v₁) (minus_undone h.v₀ (change h.v₁ s (get_or ks (s % 4) 0)) f.w0 (change_lt h.v₁ s _))

  grow₁_undone : (s : ℕ) (h : Words) → Fine h → shrink₁ ks s (grow₁ ks s h) ≡ h
  unfolding grow₁ shrink₁ pair
  grow₁_undone s h f = ap (pair h.v₀) (plus_undone h.v₁ (change h.v₀ s (get_or ks (s / 2 ^ 11 % 4) 0)) f.w1 (change_lt h.v₀ s _))

  grow₁_redone : (s : ℕ) (h : Words) → Fine h → grow₁ ks s (shrink₁ ks s h) ≡ h
  unfolding grow₁ shrink₁ pair
  grow₁_redone s h f = ap (pair h.v₀) (minus_undone h.v₁ (change h.v₀ s (get_or ks (s / 2 ^ 11 % 4) 0)) f.w1 (change_lt h.v₀ s _))

  rounds_fine : (i : ℕ) (h : Words) → Fine h → Fine (rounds ks i h)
  unfolding rounds
  rounds_fine zero h f = f
  rounds_fine (suc i) h f = grow₁_fine (sum_after (suc i)) _ (grow₀_fine (sum_after i) (rounds ks i h) (rounds_fine i h f))

  rounds_back_fine : (i : ℕ) (h : Words) → Fine h → Fine (rounds_back ks i h)
  unfolding rounds_back
  rounds_back_fine zero h f = f
  rounds_back_fine (suc i) h f = rounds_back_fine i _ (shrink₀_fine (sum_after i) _ (shrink₁_fine (sum_after (suc i)) h f))

  rounds_undone : (i : ℕ) (h : Words) → Fine h → rounds_back ks i (rounds ks i h) ≡ h
  unfolding rounds rounds_back
  rounds_undone zero h f = refl
  rounds_undone (suc i) h f =
      let g = rounds ks i h in
      let fine = rounds_fine i h f in
      ap (λ x. rounds_back ks i (shrink₀ ks (sum_after i) x)) (grow₁_undone (sum_after (suc i)) (grow₀ ks (sum_after i) g) (grow₀_fine (sum_after i) g fine))
      ∙ ap (rounds_back ks i) (grow₀_undone (sum_after i) g fine) ∙ rounds_undone i h f

  rounds_redone : (i : ℕ) (h : Words) → Fine h → rounds ks i (rounds_back ks i h) ≡ h
  unfolding rounds rounds_back
  rounds_redone zero h f = refl
  rounds_redone (suc i) h f =
      let g = shrink₁ ks (sum_after (suc i)) h in
      let fine = shrink₁_fine (sum_after (suc i)) h f in
      ap (λ x. grow₁ ks (sum_after (suc i)) (grow₀ ks (sum_after i) x)) (rounds_redone i (shrink₀ ks (sum_after i) g) (shrink₀_fine (sum_after i) g fine))
      ∙ ap (grow₁ ks (sum_after (suc i))) (grow₀_redone (sum_after i) g fine) ∙ grow₁_redone (sum_after (suc i)) h f

words_fine : (x : ℕ) → x < 2 ^ 64 → Fine (words_of x)
unfolding words_of
words_fine x h = record { w0 = div_below x (2 ^ 32) (2 ^ 32) (lit< tt) h; w1 = mod-lt x (lit< tt) }

block_words : (x : ℕ) → block_of (words_of x) ≡ x
unfolding words_of block_of
block_words x = div-add-mod' x (2 ^ 32)

words_block : (h : Words) → Fine h → words_of (block_of h) ≡ h
unfolding words_of block_of pair
words_block h f =
    let a = h.v₀ in
    let b = h.v₁ in
    let low : b < 2 ^ 32 = f.w1 in
    let e0 : (a * 2 ^ 32 + b) / 2 ^ 32 ≡ a = omega arith in
    let e1 : (a * 2 ^ 32 + b) % 2 ^ 32 ≡ b = omega arith in
    ap₂ pair e0 e1

block_lt : (v : Words) → Fine v → block_of v < 2 ^ 64
unfolding block_of
block_lt v f = let a = f.w0 in let b = f.w1 in omega arith

module _ (key : List ℕ) (x : ℕ) (h : x < 2 ^ 64) where
  pub encipher_lt : encipher key x < 2 ^ 64
  unfolding encipher
  encipher_lt = block_lt _ (rounds_fine (key_words key) 32 (words_of x) (words_fine x h))

  pub decipher_lt : decipher key x < 2 ^ 64
  unfolding decipher
  decipher_lt = block_lt _ (rounds_back_fine (key_words key) 32 (words_of x) (words_fine x h))

  pub undone : decipher key (encipher key x) ≡ x
  unfolding encipher decipher
  undone =
      let ks = key_words key in
      let v = words_of x in
      let f = words_fine x h in
      ap (λ t. block_of (rounds_back ks 32 t)) (words_block (rounds ks 32 v) (rounds_fine ks 32 v f))
      ∙ ap block_of (rounds_undone ks 32 v f) ∙ block_words x

  pub redone : encipher key (decipher key x) ≡ x
  unfolding encipher decipher
  redone =
      let ks = key_words key in
      let v = words_of x in
      let f = words_fine x h in
      ap (λ t. block_of (rounds ks 32 t)) (words_block (rounds_back ks 32 v) (rounds_back_fine ks 32 v f))
      ∙ ap block_of (rounds_redone ks 32 v f) ∙ block_words x

pub undoing : Undoing
undoing = record { encipher_block = encipher_lt; decipher_block = decipher_lt; undone = undone; redone = redone }
