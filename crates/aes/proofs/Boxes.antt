-- The substitution of a byte stays below 256, and its reverse undoes it.
use Rattle.std.proofs.Common.{◌≡◌, ℕ, zero, suc, ◌+◌, ◌*◌, ◌%◌, ◌<◌, ◌≢◌, Some, None, Option, refl, le_of_suc-le-suc, mod-lt, arith, lit<}
use lib.Count.{count_leading_zeros}
use Rattle.polynomials.specs.Inverse.{euclid, inverse}
use Rattle.polynomials.specs.Polynomial.{action_in, action, clmul, xtime, remainder, product}
use Rattle.rings.specs.Rings.{ring1}
use Rattle.aes.specs.Aes.{or_zero, inverted, bit, bits, affine, sbox, inv_affine, inv_sbox}
use Rattle.aes.specs.Laws.{Substitution}
use Rattle.aes.proofs.Computed.{agree_at}

eight : (a b c d e f g h : ℕ) → a < 2 → b < 2 → c < 2 → d < 2 → e < 2 → f < 2 → g < 2 → h < 2
    → a + 2 * b + 4 * c + 8 * d + 16 * e + 32 * f + 64 * g + 128 * h < 256
eight a b c d e f g h ha hb hc hd he hf hg hh = omega arith

bits_lt : (f : ℕ → ℕ) → bits (λ i. f i % 2) < 256
unfolding bits
bits_lt f =
    let low : (i : ℕ) → f i % 2 < 2 = λ i. mod-lt (f i) (lit< tt) in
    eight _ _ _ _ _ _ _ _ (low 0) (low 1) (low 2) (low 3) (low 4) (low 5) (low 6) (low 7)

inverted_lt : (a : ℕ) → a < 256 → inverted a < 256
unfolding inverted
inverted_lt a h =
    let go : (o : Option ℕ) → ring1.inverse a ≡ o → or_zero o < 256 = λ o. elim o as (λ o. ring1.inverse a ≡ o → or_zero o < 256) [
      | None ↦ λ e. lit< tt
      | Some b ↦ λ e. (ring1.inverts a b h e).0
    ] in
    go (ring1.inverse a) refl

pub sbox_lt : (x : ℕ) → sbox x < 256
unfolding sbox affine
sbox_lt x = bits_lt _

inv_affine_lt : (x : ℕ) → inv_affine x < 256
unfolding inv_affine
inv_affine_lt x = bits_lt _

pub inv_sbox_lt : (x : ℕ) → inv_sbox x < 256
unfolding inv_sbox
inv_sbox_lt x = inverted_lt (inv_affine x) (inv_affine_lt x)

pub sbox_undone : (x : ℕ) → x < 256 → inv_sbox (sbox x) ≡ x
unfolding count_leading_zeros action_in action clmul xtime remainder product euclid inverse inverted bit bits affine sbox inv_affine inv_sbox
sbox_undone = agree_at (λ x. inv_sbox (sbox x)) (λ x. x) 256 tt

pub sbox_redone : (x : ℕ) → x < 256 → sbox (inv_sbox x) ≡ x
unfolding count_leading_zeros action_in action clmul xtime remainder product euclid inverse inverted bit bits affine sbox inv_affine inv_sbox
sbox_redone = agree_at (λ x. sbox (inv_sbox x)) (λ x. x) 256 tt

inverted_inverse : (x : ℕ) → x < 256 → x ≢ 0 → ring1.product x (inverted x) ≡ 1
unfolding count_leading_zeros action_in action clmul xtime remainder product euclid inverse inverted
inverted_inverse zero h some = absurd (some refl)
inverted_inverse (suc k) h some = agree_at (λ k. ring1.product (suc k) (inverted (suc k))) (λ _. 1) 255 tt k (le_of_suc-le-suc h)

pub substitution : Substitution
unfolding inverse inverted
substitution = record { kept = refl; inverse = inverted_inverse; undone = sbox_undone; redone = sbox_redone }
