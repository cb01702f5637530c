-- β, as the code works it out.
use Rattle.std.proofs.Common.{◌≡◌, ℕ, suc, ◌+◌, ◌-◌, ◌*◌, ◌/◌, ◌%◌, ◌^◌, ◌<◌, ◌≤◌, List, [], ◌∷◌, ◌++◌, length, sym, drop, take, ap, ◌∙◌, subst, mod-eq_of_lt, suc-mul, arith, length-append}
use lib.Bits.{bit_xor}
use Rattle.std.specs.Int.Digits.{number_from_digits, AllBelowBase}
use Rattle.std.proofs.lemmas.Int.Digits.{number_lt}
use Rattle.std.proofs.Math.Nat.{div-eq_of_lt}
use Rattle.std.proofs.lemmas.Nat.{div-add-mod', div-mul-add, mod_below}
use Rattle.std.proofs.ByRecursion.{All-take, All-drop}
use Rattle.std.proofs.lemmas.List.{take_at, drop_at}
use Rattle.rings.specs.Blocks.{blocks, first_blocks}
use Rattle.std.proofs.lemmas.Bool.{cond-true, cond-false, eq-eqb, ne_eqb}
use Rattle.rings.specs.Ring.{RingKind, size, times}
use Rattle.rings.proofs.Bytes.{pow_bytes, blocks_none}
use Rattle.passes.specs.Passes.{pad}
use Rattle.passes.proofs.Stages.{pad_below}
use Rattle.tet_theory.specs.Tet.{chained, last_step}

-- ---- the whole blocks of some bytes

pub blocks_one : (w : ℕ) (x rest : List ℕ) → 1 ≤ w → length x ≡ w → blocks w (x ++ rest) ≡ number_from_digits 256 x ∷ blocks w rest
unfolding first_blocks
blocks_one w x rest some long =
    let m = length rest / w in
    let total : length (x ++ rest) ≡ suc m * w + length rest % w = length-append x rest ∙ omega (arith, div-add-mod' (length rest) w, suc-mul m w) in
    let count : length (x ++ rest) / w ≡ suc m = ap (λ n. n / w) total ∙ div-mul-add (suc m) w (length rest % w) (mod_below (length rest) w some) in
    ap (λ n. first_blocks w n (x ++ rest)) count
    ∙ (λ t. number_from_digits 256 (take_at x rest w long t) ∷ first_blocks w m (drop_at x rest w long t))

blocks_end : (w : ℕ) (rest : List ℕ) → length rest < w → blocks w rest ≡ []
blocks_end w rest short = ap (λ n. first_blocks w n rest) (div-eq_of_lt short) ∙ blocks_none w rest

block_low : (r : RingKind) (x : List ℕ) → AllBelowBase 256 x → length x ≡ r.width → number_from_digits 256 x < size r
block_low r x under long = subst (λ n. number_from_digits 256 x < n) (ap (λ n. 256 ^ n) long ∙ pow_bytes r.width) (number_lt 256 x under)

-- ---- β

module _ (r : RingKind) (E : ℕ → ℕ) where
  -- bytes of which the blocks are still to come, from V on
  abbrev pub Left : ℕ → List ℕ → ℕ → Type 0
  Left V bs W = AllBelowBase 256 bs × (chained r E V (blocks r.width bs) ≡ W)

  -- one block more, in code that holds V + T as s
  pub chained_more : (V s W : ℕ) (bs x rest : List ℕ) → Left V bs W → length x ≡ r.width → bs ≡ x ++ rest → s ≡ bit_xor V (number_from_digits 256 x % size r) → Left (E s) rest W
  unfolding chained
  chained_more V s W bs x rest left long cut is =
      let w = r.width in
      let under : AllBelowBase 256 x = subst (AllBelowBase 256) (ap (take w) cut ∙ take_at x rest w long) (All-take (λ d. d < 256) w bs left.0) in
      let more : AllBelowBase 256 rest = subst (AllBelowBase 256) (ap (drop w) cut ∙ drop_at x rest w long) (All-drop (λ d. d < 256) w bs left.0) in (
        more,
        ap (λ y. chained r E (E y) (blocks w rest)) (is ∙ ap (bit_xor V) (mod-eq_of_lt (block_low r x under long)))
            ∙ sym (ap (chained r E V) (ap (blocks w) cut ∙ blocks_one w x rest r.some long))
            ∙ left.1,
      )

  pub chained_all : (V : ℕ) (rest : List ℕ) → length rest < r.width → chained r E V (blocks r.width rest) ≡ V
  unfolding chained
  chained_all V rest short = ap (chained r E V) (blocks_end r.width rest short)

  pub whole_step : (X V : ℕ) (T : List ℕ) → AllBelowBase 256 T → length T ≡ r.width → E (bit_xor (bit_xor (times r 2 X) V) (number_from_digits 256 T % size r)) ≡ last_step r E X V T
  whole_step X V T under long =
      ap (λ y. E (bit_xor (bit_xor (times r 2 X) V) y)) (mod-eq_of_lt (block_low r T under long)) ∙ sym (cond-true _ _ _ (eq-eqb (length T) r.width long))

  pub short_step : (X V : ℕ) (T : List ℕ) → AllBelowBase 256 T → length T ≤ r.width → (length T ≡ r.width → ⊥)
      → E (bit_xor (bit_xor (times r 2 (times r 2 X)) V) (pad r T % size r)) ≡ last_step r E X V T
  short_step X V T under le ne =
      let less : length T < r.width = omega arith in
      ap (λ y. E (bit_xor (bit_xor (times r 2 (times r 2 X)) V) y)) (mod-eq_of_lt (pad_below r T under less)) ∙ sym (cond-false _ _ _ (ne_eqb (length T) r.width ne))

-- what stands ahead of a tweak's last block
pub ahead_fits : (n w : ℕ) → (n - 1) / w * w ≤ n
ahead_fits n w = omega (arith, div-add-mod' (n - 1) w)
