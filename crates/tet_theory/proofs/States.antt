-- What is held and refused.
use Rattle.std.proofs.Common.{◌≡◌, ℕ, ◌/◌, ◌<◌, true, false, cond, leb, List, ◌++◌, length, Some, None, Option, sym, refl, ap, ◌∙◌, arith, length-append}
use Rattle.std.proofs.lemmas.List.{take_at, drop_at, take-append-drop}
use Rattle.std.proofs.lemmas.Bool.{and_from, and_left, and_right, lt-leb, cond-true, cond-false}
use Rattle.rings.specs.Ring.{RingKind}
use Rattle.rings.proofs.Rows.{row_parts}
use Rattle.ciphers.specs.Cipher.{CipherKind, fits}
use Rattle.ciphers.specs.declared.KeyFault.TheVariants.{WrongLength as WrongKeyLength}
use Rattle.modes.specs.Mode.{ModeKind, Fitting}
use Rattle.modes.specs.declared.ModeFault.TheVariants.{Key, WrongSize, NoInverse}
use Rattle.passes.specs.Sector.{rowwise}
use Rattle.tet_theory.specs.State.{keyed_with, state_of, without_hash, refusal}
use Rattle.tet_theory.specs.Tet.{HashKey, enciphered, deciphered, size_fits, hash_key, beta, first_key, second_key, key_fits, hash_for, on_rows, encipher, decipher}
use Rattle.tet_theory.proofs.Undoing.{some_parts}

-- ---- a pair of keys, as one key K1 then K2

module _ (k : CipherKind) (K1 K2 : List ℕ) (good1 : fits k K1 ≡ true) (good2 : fits k K2 ≡ true) where
  half : length (K1 ++ K2) / 2 ≡ length K1
  half =
      let a = (row_parts k.key_length K1 good1).0 in
      let b = (row_parts k.key_length K2 good2).0 in
      omega (arith, length-append K1 K2, a, b)

  first_is : first_key (K1 ++ K2) ≡ K1
  first_is = take_at K1 K2 (length (K1 ++ K2) / 2) (sym half)

  second_is : second_key (K1 ++ K2) ≡ K2
  second_is = drop_at K1 K2 (length (K1 ++ K2) / 2) (sym half)

  keys_fit : key_fits k (K1 ++ K2) ≡ true
  keys_fit = and_from (fits k (first_key (K1 ++ K2))) (fits k (second_key (K1 ++ K2))) (ap (fits k) first_is ∙ good1) (ap (fits k) second_is ∙ good2)

  hash_is : (n : ℕ) → hash_for k (K1 ++ K2) n ≡ hash_key k.ring (k.encipher K1) n
  hash_is n = cond-true (key_fits k (K1 ++ K2)) _ None keys_fit ∙ ap (λ key. hash_key k.ring (k.encipher key) n) first_is

  -- a pair that is held fits, for every kind of mode that refuses as TET does
  pub held_fits : (n : ℕ) (kind : ModeKind) → ((key : List ℕ) (n : ℕ) → kind.refusal key n ≡ refusal k key n) → Fitting kind (state_of k K1 K2 n)
  held_fits n kind same = go (hash_key k.ring (k.encipher K1) n) refl
    where
      go : (o : Option HashKey) → hash_key k.ring (k.encipher K1) n ≡ o → Fitting kind (keyed_with o (K1 ++ K2) n)
      go None e = tt
      go (Some h) e =
          let here : hash_key k.ring (k.encipher (first_key (K1 ++ K2))) n ≡ Some h = ap (λ key. hash_key k.ring (k.encipher key) n) first_is ∙ e in
          same (K1 ++ K2) n
          ∙ cond-true (key_fits k (K1 ++ K2)) _ (Some (Key WrongKeyLength)) keys_fit
          ∙ cond-true (size_fits k.ring n) _ (Some WrongSize) (some_parts (size_fits k.ring n) _ h e).0
          ∙ ap without_hash here

  -- its maps, where it has a hash key
  module _ (n : ℕ) (h : HashKey) (is : hash_key k.ring (k.encipher K1) n ≡ Some h) (tweak bs : List ℕ) where
    pub encipher_is : rowwise k.ring.width (enciphered k.ring (k.encipher K2) h (beta k.ring (k.encipher K1) n tweak)) bs ≡ encipher k (K1 ++ K2) n tweak bs
    encipher_is =
        let hash = hash_is n ∙ is in
        sym (λ t. on_rows k (λ h. enciphered k.ring (k.encipher (second_is t)) h (beta k.ring (k.encipher (first_is t)) n tweak)) (hash t) bs)

    pub decipher_is : rowwise k.ring.width (deciphered k.ring (k.decipher K2) h (beta k.ring (k.encipher K1) n tweak)) bs ≡ decipher k (K1 ++ K2) n tweak bs
    decipher_is =
        let hash = hash_is n ∙ is in
        sym (λ t. on_rows k (λ h. deciphered k.ring (k.decipher (second_is t)) h (beta k.ring (k.encipher (first_is t)) n tweak)) (hash t) bs)

-- ---- keys

pub too_small : (r : RingKind) (n : ℕ) → n < r.width → size_fits r n ≡ false
too_small r n h = and_left (leb r.width n) (leb n r.longest) (lt-leb r.width n h)

pub too_large : (r : RingKind) (n : ℕ) → r.longest < n → size_fits r n ≡ false
too_large r n h = and_right (leb r.width n) (leb n r.longest) (lt-leb n r.longest h)

module _ (k : CipherKind) (key : List ℕ) (n : ℕ) where
  pub second_refused : fits k (second_key key) ≡ false → refusal k key n ≡ Some (Key WrongKeyLength)
  second_refused bad = cond-false (key_fits k key) _ (Some (Key WrongKeyLength)) (and_right (fits k (first_key key)) (fits k (second_key key)) bad)

  module _ (good1 : fits k (first_key key) ≡ true) (good2 : fits k (second_key key) ≡ true) where
    past_key : refusal k key n ≡ cond (size_fits k.ring n) (without_hash (hash_key k.ring (k.encipher (first_key key)) n)) (Some WrongSize)
    past_key = cond-true (key_fits k key) _ (Some (Key WrongKeyLength)) (and_from (fits k (first_key key)) (fits k (second_key key)) good1 good2)

    pub size_refused : size_fits k.ring n ≡ false → refusal k key n ≡ Some WrongSize
    size_refused bad = past_key ∙ cond-false (size_fits k.ring n) _ (Some WrongSize) bad

    pub hash_refused : size_fits k.ring n ≡ true → hash_key k.ring (k.encipher (first_key key)) n ≡ None → refusal k key n ≡ Some NoInverse
    hash_refused fit none = past_key ∙ cond-true (size_fits k.ring n) _ (Some WrongSize) fit ∙ ap without_hash none

    module _ (h : HashKey) (is : hash_key k.ring (k.encipher (first_key key)) n ≡ Some h) where
      pub not_refused : refusal k key n ≡ None
      not_refused = past_key ∙ cond-true (size_fits k.ring n) _ (Some WrongSize) (some_parts (size_fits k.ring n) _ h is).0 ∙ ap without_hash is

      pub now_held : (K1 K2 : List ℕ) → K1 ≡ first_key key → K2 ≡ second_key key → state_of k K1 K2 n ≡ Some (record { key = key; size = n })
      now_held K1 K2 e1 e2 =
          (λ t. state_of k (e1 t) (e2 t) n)
          ∙ ap (λ o. keyed_with o (first_key key ++ second_key key) n) is
          ∙ ap (λ l. Some (record { key = l; size = n })) (take-append-drop (length key / 2) key)
