-- Facts of every number below n, and of every entry of a table, by one test that is computed.
use Rattle.std.proofs.Common.{◌≡◌, ℕ, zero, suc, ◌+◌, ◌*◌, ◌/◌, ◌%◌, ◌^◌, ◌<◌, Bool, true, false, T, eqb, List, [], ◌∷◌, length, get_or, sym, ap, ◌∙◌, subst, ap₂, le_of_suc-le-suc, not-suc-le-zero, add-zero, add-suc, mod-lt, suc-add, div-add-mod', zero-add, arith, eqb→eq, pow_pos}
use native.Mathlib.Decide.{dec_lt}
use lib.Bits.{bit_xor, xor_self, xor_shifted}
use Rattle.std.proofs.lemmas.Nat.{div_below}
use Rattle.polynomials.proofs.Xor.{bit_over}
use Rattle.aes.specs.Laws.{Tabulates}

abbrev pub both : Bool → Bool → Bool
both true b = b
both false b = false

both_left : (a b : Bool) → T (both a b) → T a
both_left true b t = tt
both_left false b t = t

both_right : (a b : Bool) → T (both a b) → T b
both_right true b t = t
both_right false b t = absurd t

-- f and g agree below n
abbrev pub agree : (ℕ → ℕ) → (ℕ → ℕ) → ℕ → Bool
agree f g zero = true
agree f g (suc n) = both (eqb (f n) (g n)) (agree f g n)

pub agree_at : (f g : ℕ → ℕ) (n : ℕ) → T (agree f g n) → (x : ℕ) → x < n → f x ≡ g x
agree_at f g zero t x h = absurd (not-suc-le-zero h)
agree_at f g (suc n) t x h = elim (dec_lt x n) [
  | yes l ↦ agree_at f g n (both_right (eqb (f n) (g n)) (agree f g n) t) x l
  | no r ↦
      let e : n ≡ x = omega arith in
      subst (λ (m : ℕ). f m ≡ g m) e (eqb→eq (f n) (g n) (both_left (eqb (f n) (g n)) (agree f g n) t))
]

-- a table holds f from i on
abbrev pub holds : (ℕ → ℕ) → ℕ → List ℕ → Bool
holds f i [] = true
holds f i (x ∷ xs) = both (eqb x (f i)) (holds f (suc i) xs)

from : (f : ℕ → ℕ) (xs : List ℕ) (i : ℕ) → T (holds f i xs) → (k : ℕ) → k < length xs → get_or xs k 0 ≡ f (i + k)
from f [] i t k h = absurd (not-suc-le-zero h)
from f (x ∷ xs) i t zero h = eqb→eq x (f i) (both_left (eqb x (f i)) (holds f (suc i) xs) t) ∙ ap f (sym (add-zero i))
from f (x ∷ xs) i t (suc k) h =
    from f xs (suc i) (both_right (eqb x (f i)) (holds f (suc i) xs) t) k (le_of_suc-le-suc h) ∙ ap f (suc-add i k ∙ sym (add-suc i k))

pub tabulates : {n : ℕ} (f : ℕ → ℕ) {xs : List ℕ} → T (both (eqb (length xs) n) (holds f 0 xs)) → Tabulates n f xs
tabulates {n} f {xs} t =
    let long : length xs ≡ n = eqb→eq (length xs) n (both_left (eqb (length xs) n) (holds f 0 xs) t) in
    record {
      long = long;
      entries = λ x h. from f xs 0 (both_right (eqb (length xs) n) (holds f 0 xs) t) x (rw long h) ∙ ap f (zero-add x);
    }

-- linear maps that agree at the powers of two agree
abbrev pub Linear : (ℕ → ℕ) → Type 0
Linear f = (x y : ℕ) → f (bit_xor x y) ≡ bit_xor (f x) (f y)

linear_zero : (f : ℕ → ℕ) → Linear f → f 0 ≡ 0
linear_zero f lin = lin 0 0 ∙ xor_self (f 0)

module _ (f g : ℕ → ℕ) (lf : Linear f) (lg : Linear g) where
  on_powers : (n : ℕ) → ((i : ℕ) → i < n → f (2 ^ i) ≡ g (2 ^ i)) → (w : ℕ) → w < 2 ^ n → f w ≡ g w
  on_powers zero e w h =
      let none : w ≡ 0 = omega arith in
      ap f none ∙ linear_zero f lf ∙ sym (ap g none ∙ linear_zero g lg)
  on_powers (suc n) e w h =
      let q = w / 2 ^ n in
      let m = w % 2 ^ n in
      let bit : q < 2 = div_below w (2 ^ n) 2 (pow_pos n) (omega arith) in
      let parts : bit_xor (q * 2 ^ n) m ≡ w = xor_shifted q n m (mod-lt w (pow_pos n)) ∙ div-add-mod' w (2 ^ n) in
      let high : f (q * 2 ^ n) ≡ g (q * 2 ^ n) =
      bit_over f (linear_zero f lf) q (2 ^ n) bit ∙ ap (λ x. q * x) (e n (omega arith)) ∙ sym (bit_over g (linear_zero g lg) q (2 ^ n) bit)
      in
      ap f (sym parts) ∙ lf (q * 2 ^ n) m
      ∙ ap₂ bit_xor high (on_powers n (λ i l. e i (omega arith)) m (mod-lt w (pow_pos n)))
      ∙ sym (lg (q * 2 ^ n) m) ∙ ap g parts

  pub linear_same : (n : ℕ) → T (agree (λ i. f (2 ^ i)) (λ i. g (2 ^ i)) n) → (w : ℕ) → w < 2 ^ n → f w ≡ g w
  linear_same n t = on_powers n (agree_at (λ i. f (2 ^ i)) (λ i. g (2 ^ i)) n t)
