-- The rounds, as the code goes through them.
use Rattle.std.proofs.Common.{◌≡◌, ℕ, zero, suc, ◌+◌, ◌-◌, ◌/◌, ◌%◌, ◌^◌, ◌<◌, List, get_or, sym, ap, ◌∙◌, add-one, arith, lit<}
use Rattle.xtea.specs.Xtea.{plus, minus, change, sum_after, Words, grow₀, grow₁, shrink₀, shrink₁, rounds, rounds_back}
use Rattle.xtea.proofs.Undoing.{pair, plus_lt, plus_undone}

pub sum_next : (i s : ℕ) → s ≡ sum_after i → plus s 0x9E3779B9 ≡ sum_after (i + 1)
unfolding sum_after
sum_next i s e = ap (λ n. plus n 0x9E3779B9) e ∙ ap sum_after (sym (add-one i))

sum_lt : (i : ℕ) → sum_after i < 2 ^ 32
unfolding sum_after
sum_lt zero = lit< tt
sum_lt (suc i) = plus_lt (sum_after i) 0x9E3779B9

-- i rounds before the last
pub sum_back : (i s : ℕ) → i < 32 → s ≡ sum_after (32 - i) → minus s 0x9E3779B9 ≡ sum_after (32 - (i + 1))
unfolding sum_after
sum_back i s low e =
    let is : 32 - i ≡ suc (32 - (i + 1)) = omega arith in
    ap (λ n. minus n 0x9E3779B9) (e ∙ ap sum_after is) ∙ plus_undone (sum_after (32 - (i + 1))) 0x9E3779B9 (sum_lt (32 - (i + 1))) (lit< tt)

module _ (ks : List ℕ) where
  grow₀_is : (a b p s t : ℕ) → s ≡ t → p ≡ change b s (get_or ks (s % 4) 0) → pair (plus a p) b ≡ grow₀ ks t (pair a b)
  unfolding grow₀ pair
  grow₀_is a b p s t e ep = ap (λ x. pair (plus a x) b) (ep ∙ ap (λ n. change b n (get_or ks (n % 4) 0)) e)

  grow₁_is : (a b q s t : ℕ) → s ≡ t → q ≡ change a s (get_or ks (s / 2 ^ 11 % 4) 0) → pair a (plus b q) ≡ grow₁ ks t (pair a b)
  unfolding grow₁ pair
  grow₁_is a b q s t e eq = ap (λ x. pair a (plus b x)) (eq ∙ ap (λ n. change a n (get_or ks (n / 2 ^ 11 % 4) 0)) e)

  shrink₀_is : (a b p s t : ℕ) → s ≡ t → p ≡ change b s (get_or ks (s % 4) 0) → pair (minus a p) b ≡ shrink₀ ks t (pair a b)
  unfolding shrink₀ pair
  shrink₀_is a b p s t e ep = ap (λ x. pair (minus a x) b) (ep ∙ ap (λ n. change b n (get_or ks (n % 4) 0)) e)

  shrink₁_is : (a b q s t : ℕ) → s ≡ t → q ≡ change a s (get_or ks (s / 2 ^ 11 % 4) 0) → pair a (minus b q) ≡ shrink₁ ks t (pair a b)
  unfolding shrink₁ pair
  shrink₁_is a b q s t e eq = ap (λ x. pair a (minus b x)) (eq ∙ ap (λ n. change a n (get_or ks (n / 2 ^ 11 % 4) 0)) e)

  pub turn : (h : Words) (i a b s p q : ℕ) → s ≡ sum_after i → pair a b ≡ rounds ks i h
      → p ≡ change b s (get_or ks (s % 4) 0)
      → q ≡ change (plus a p) (plus s 0x9E3779B9) (get_or ks (plus s 0x9E3779B9 / 2 ^ 11 % 4) 0)
      → pair (plus a p) (plus b q) ≡ rounds ks (i + 1) h
  unfolding rounds
  turn h i a b s p q es e ep eq =
      let t = sum_after (suc i) in
      let next : plus s 0x9E3779B9 ≡ t = sum_next i s es ∙ ap sum_after (add-one i) in
      grow₁_is (plus a p) b q (plus s 0x9E3779B9) t next eq
      ∙ ap (grow₁ ks t) (grow₀_is a b p s (sum_after i) es ep ∙ ap (grow₀ ks (sum_after i)) e)
      ∙ ap (λ n. rounds ks n h) (sym (add-one i))

  pub inv_turn : (g : Words) (i a b s p q : ℕ) → i < 32 → s ≡ sum_after (32 - i) → rounds_back ks (32 - i) (pair a b) ≡ g
      → q ≡ change a s (get_or ks (s / 2 ^ 11 % 4) 0)
      → p ≡ change (minus b q) (minus s 0x9E3779B9) (get_or ks (minus s 0x9E3779B9 % 4) 0)
      → rounds_back ks (32 - (i + 1)) (pair (minus a p) (minus b q)) ≡ g
  unfolding rounds_back
  inv_turn g i a b s p q low es e eq ep =
      let n = 32 - (i + 1) in
      let is : 32 - i ≡ suc n = omega arith in
      ap (rounds_back ks n)
      (shrink₀_is a (minus b q) p (minus s 0x9E3779B9) (sum_after n) (sum_back i s low es) ep
      ∙ ap (shrink₀ ks (sum_after n)) (shrink₁_is a b q s (sum_after (suc n)) (es ∙ ap sum_after is) eq))
      ∙ sym (ap (λ n. rounds_back ks n (pair a b)) is) ∙ e
