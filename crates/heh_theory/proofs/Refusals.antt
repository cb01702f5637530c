-- What is refused, and what is not.
use Rattle.std.proofs.Common.{◌≡◌, ℕ, true, false, eqb, List, length, Some, None, Ok, Err, Option, refl, ap, ◌∙◌, ap₂, ⊎_elim, arith}
use Rattle.std.proofs.lemmas.Bool.{cases_Bool, cases_eq, eq-eqb, ne_eqb, cond-true, cond-false, cond_both}
use Rattle.rings.specs.Ring.{RingKind}
use Rattle.ciphers.specs.Cipher.{CipherKind, fits}
use Rattle.modes.specs.Faults.{answered}
use Rattle.modes.specs.Mode.{Keyed, obstacle, ciphered, ModeKind, Fitting}
use Rattle.modes.specs.declared.ModeFault.{ModeFault}
use Rattle.modes.specs.declared.ModeFault.TheVariants.{WrongLength, WrongSize, WrongTweak}
use Rattle.heh_theory.specs.Heh.{size_fits}
use Rattle.heh_theory.specs.State.{keyed_with, refusal, or_tweak}

-- ---- keys

module _ (k : CipherKind) (key : List ℕ) (ℓ : ℕ) (good : fits k key ≡ true) where
  pub size_refused : size_fits k.ring ℓ ≡ false → refusal k key ℓ ≡ Some WrongSize
  size_refused bad = cond-true (fits k key) _ _ good ∙ cond-false (size_fits k.ring ℓ) None (Some WrongSize) bad

  pub not_refused : size_fits k.ring ℓ ≡ true → refusal k key ℓ ≡ None
  not_refused fit = cond-true (fits k key) _ _ good ∙ cond-true (size_fits k.ring ℓ) None (Some WrongSize) fit

-- a pair that is held fits, for every kind of mode that refuses as HEH does
pub held_fits : (k : CipherKind) (key : List ℕ) (ℓ : ℕ) → fits k key ≡ true → (kind : ModeKind) → ((key : List ℕ) (ℓ : ℕ) → kind.refusal key ℓ ≡ refusal k key ℓ)
    → Fitting kind (keyed_with k.ring key ℓ)
held_fits k key ℓ good kind same =
    cond_both (size_fits k.ring ℓ) (Some (record { key = key; size = ℓ })) None (Fitting kind)
    (λ fit. same key ℓ ∙ not_refused k key ℓ good fit) (λ _. tt)

-- ---- buffers

pub accepted : (o : Option ModeFault) → Ok tt ≡ answered o → o ≡ None
accepted None e = refl
accepted (Some fault) e = let z : ◌≡◌ {A = ℕ} 0 1 = cc in absurd (omega arith)

pub stopped : (o : Option ModeFault) (fault : ModeFault) → Err fault ≡ answered o → o ≡ Some fault
stopped None fault e = let z : ◌≡◌ {A = ℕ} 0 1 = cc in absurd (omega arith)
stopped (Some other) fault e = cc

some_none : (o : Option ModeFault) (fault : ModeFault) → o ≡ None → o ≡ Some fault → ⊥
some_none o fault p q = let z : ◌≡◌ {A = ℕ} 0 1 = cc in omega arith

-- what an accepted buffer has
pub record Admitted (r : RingKind) (ℓ : ℕ) (bs : List ℕ) : Type 0 where
  pub fit : size_fits r ℓ ≡ true
  pub long : length bs ≡ ℓ

module _ (r : RingKind) (key : List ℕ) (ℓ : ℕ) where
  pub held : size_fits r ℓ ≡ true → keyed_with r key ℓ ≡ Some (record { key = key; size = ℓ })
  held fit = cond-true (size_fits r ℓ) (Some (record { key = key; size = ℓ })) None fit

  module _ (bs : List ℕ) where
    pub blank : size_fits r ℓ ≡ false → obstacle (keyed_with r key ℓ) bs ≡ Some WrongLength
    blank bad = ap (λ (s : Option Keyed). obstacle s bs) (cond-false (size_fits r ℓ) (Some (record { key = key; size = ℓ })) None bad)

    pub wrong_length : size_fits r ℓ ≡ true → (length bs ≡ ℓ → ⊥) → obstacle (keyed_with r key ℓ) bs ≡ Some WrongLength
    wrong_length fit ne = ap (λ (s : Option Keyed). obstacle s bs) (held fit) ∙ cond-false (eqb (length bs) ℓ) None (Some WrongLength) (ne_eqb (length bs) ℓ ne)

    pub free : size_fits r ℓ ≡ true → length bs ≡ ℓ → obstacle (keyed_with r key ℓ) bs ≡ None
    free fit long = ap (λ (s : Option Keyed). obstacle s bs) (held fit) ∙ cond-true (eqb (length bs) ℓ) None (Some WrongLength) (eq-eqb (length bs) ℓ long)

    pub admitted : obstacle (keyed_with r key ℓ) bs ≡ None → Admitted r ℓ bs
    admitted none =
        let fit : size_fits r ℓ ≡ true =
        ⊎_elim (λ (t : size_fits r ℓ ≡ true). t) (λ (f : size_fits r ℓ ≡ false). absurd (some_none _ WrongLength none (blank f))) (cases_Bool (size_fits r ℓ)) in
        record {
          fit = fit;
          long = ⊎_elim (λ (t : length bs ≡ ℓ). t) (λ (f : length bs ≡ ℓ → ⊥). absurd (some_none _ WrongLength none (wrong_length fit f))) (cases_eq (length bs) ℓ);
        }

    module _ (ok : Admitted r ℓ bs) where
      pub ciphered_is : (f : List ℕ → ℕ → List ℕ → List ℕ) (o : Option ModeFault) → o ≡ None → ciphered f (keyed_with r key ℓ) o bs ≡ f key ℓ bs
      ciphered_is f o is = ap₂ (λ (s : Option Keyed) (o : Option ModeFault). ciphered f s o bs) (held ok.fit) is

-- ---- tweaks

module _ (r : RingKind) (tweak : List ℕ) (o : Option ModeFault) where
  pub tweak_behind : (fault : ModeFault) → o ≡ Some fault → or_tweak r tweak o ≡ Some fault
  tweak_behind fault is = ap (or_tweak r tweak) is

  pub tweak_refused : o ≡ None → (length tweak ≡ r.width → ⊥) → or_tweak r tweak o ≡ Some WrongTweak
  tweak_refused is ne = ap (or_tweak r tweak) is ∙ cond-false (eqb (length tweak) r.width) None (Some WrongTweak) (ne_eqb (length tweak) r.width ne)

  pub tweak_taken : o ≡ None → length tweak ≡ r.width → or_tweak r tweak o ≡ None
  tweak_taken is e = ap (or_tweak r tweak) is ∙ cond-true (eqb (length tweak) r.width) None (Some WrongTweak) (eq-eqb (length tweak) r.width e)

pub tweak_admitted : (r : RingKind) (tweak : List ℕ) (o : Option ModeFault) → or_tweak r tweak o ≡ None → (o ≡ None) × (length tweak ≡ r.width)
tweak_admitted r tweak None is = (
  refl,
  ⊎_elim (λ (t : length tweak ≡ r.width). t) (λ (f : length tweak ≡ r.width → ⊥). absurd (some_none _ WrongTweak is (tweak_refused r tweak None refl f))) (cases_eq (length tweak) r.width),
)
tweak_admitted r tweak (Some fault) is = absurd (some_none (Some fault) fault is refl)
