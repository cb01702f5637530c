-- The inverse by Euclid's algorithm is found exactly where there is one, and there is at most one.
use Rattle.std.proofs.Common.{◌≡◌, ℕ, zero, suc, ◌+◌, ◌^◌, ◌<◌, ◌≤◌, true, false, eqb, ltb, ◌≢◌, Some, None, Option, sym, refl, ap, ◌∙◌, subst, ⊎_elim, arith}
use lib.Bits.{xor_lt}
use lib.Pow.{pow-lt}
use Rattle.std.proofs.lemmas.Bool.{cases_Bool, cond-true, cond-false, ltb-true, ltb-false, eqb-true, eqb-false}
use Rattle.polynomials.specs.Inverse.{Remainders, ordered, gap, reduced, euclid, started, answered, inverse}
use Rattle.polynomials.specs.Polynomial.{product}
use Rattle.polynomials.proofs.Quotient.{product_lt, product_comm, product_assoc, product_one}
use Rattle.polynomials.proofs.Euclid.{Bezout, Ordered, leads, exchanged, stayed, turned, first, last_found, last_none, none_zero}

module _ (n r : ℕ) (pos : 0 < n) (hr : r < 2 ^ n) where
  -- what every turn keeps
  record Kept (a : ℕ) (s : Remainders) : Type 0 where
    pub bezout : Bezout n r a s.u s.v s.g s.h
    pub some : 0 < s.v
    pub g_fits : s.g < 2 ^ n
    pub h_fits : s.h < 2 ^ n

  record Sorted (a : ℕ) (s : Remainders) (sum : ℕ) : Type 0 where
    pub order : Ordered n r a s.u s.v s.g s.h sum
    pub g_fits : s.g < 2 ^ n
    pub h_fits : s.h < 2 ^ n

  sorted : (a : ℕ) (s : Remainders) → Kept a s → s.u ≢ 0 → Sorted a (ordered s) (s.u + s.v)
  sorted a s k some =
      ⊎_elim
      (λ (t : ltb s.u s.v ≡ true).
      subst (λ (x : Remainders). Sorted a x (s.u + s.v)) (sym (cond-true (ltb s.u s.v) (record { u = s.v; v = s.u; g = s.h; h = s.g }) s t))
      (record { order = exchanged n r a s.u s.v s.g s.h k.bezout some (ltb-true s.u s.v t); g_fits = k.h_fits; h_fits = k.g_fits }))
      (λ (t : ltb s.u s.v ≡ false).
      subst (λ (x : Remainders). Sorted a x (s.u + s.v)) (sym (cond-false (ltb s.u s.v) (record { u = s.v; v = s.u; g = s.h; h = s.g }) s t))
      (record { order = stayed n r a s.u s.v s.g s.h k.bezout k.some (ltb-false s.u s.v t); g_fits = k.g_fits; h_fits = k.h_fits }))
      (cases_Bool (ltb s.u s.v))

  turn : (a : ℕ) (s : Remainders) (sum : ℕ) → Sorted a s sum → Kept a (reduced n r s) × ((reduced n r s).u + (reduced n r s).v < sum)
  turn a s sum o =
      let t = turned n r pos hr a s.u s.v s.g s.h sum o.order in (
        record {
          bezout = t.bezout;
          some = o.order.some;
          g_fits = xor_lt n s.g (product n r s.h (2 ^ gap n s)) o.g_fits (product_lt n r pos hr s.h (2 ^ gap n s));
          h_fits = o.h_fits;
        },
        t.falls,
      )

  ends : (a turns : ℕ) (s : Remainders) → Kept a s → s.u + s.v ≤ turns → Kept a (euclid n r turns s) × ((euclid n r turns s).u ≡ 0)
  unfolding euclid
  ends a zero s k le = absurd (omega (arith, k.some))
  ends a (suc turns) s k le =
      let more : Remainders = euclid n r turns (reduced n r (ordered s)) in
      ⊎_elim
      (λ (t : eqb s.u 0 ≡ true).
      subst (λ (x : Remainders). Kept a x × (x.u ≡ 0)) (sym (cond-true (eqb s.u 0) s more t)) (k, eqb-true s.u 0 t))
      (λ (t : eqb s.u 0 ≡ false).
      let next = turn a (ordered s) (s.u + s.v) (sorted a s k (eqb-false s.u 0 t)) in
      subst (λ (x : Remainders). Kept a x × (x.u ≡ 0)) (sym (cond-false (eqb s.u 0) s more t))
      (ends a turns (reduced n r (ordered s)) next.0 (omega (arith, next.1))))
      (cases_Bool (eqb s.u 0))

  starts : (a : ℕ) → a < 2 ^ n → 1 < a → Kept a (started n r a)
  starts a fits big =
      record {
        bezout = first n r pos hr a fits big;
        some = omega arith;
        g_fits = pow-lt (leads n a big fits).0;
        h_fits = pow-lt pos;
      }

  final : (a : ℕ) → a < 2 ^ n → 1 < a
      → let s = started n r a in let e = euclid n r (s.u + s.v) s in Kept a e × (e.u ≡ 0)
  final a fits big = ends a ((started n r a).u + a) (started n r a) (starts a fits big) (omega arith)

  -- the two answers at the end of the turns
  answer_found : (a b : ℕ) (s : Remainders) → Kept a s → answered s ≡ Some b → (b < 2 ^ n) × (product n r a b ≡ 1)
  answer_found a b s k e =
      ⊎_elim
      (λ (t : eqb s.v 1 ≡ true).
      let is : Some s.h ≡ Some b = sym (cond-true (eqb s.v 1) (Some s.h) None t) ∙ e in
      let same : s.h ≡ b = cc in
      subst (λ (x : ℕ). (x < 2 ^ n) × (product n r a x ≡ 1)) same
      (k.h_fits, last_found n r pos hr a s.u s.v s.g s.h k.bezout (eqb-true s.v 1 t)))
      (λ (t : eqb s.v 1 ≡ false).
      let is : None ≡ Some b = sym (cond-false (eqb s.v 1) (Some s.h) None t) ∙ e in
      let z : ◌≡◌ {A = ℕ} 0 1 = cc in
      absurd (omega arith))
      (cases_Bool (eqb s.v 1))

  answer_none : (a b : ℕ) (s : Remainders) → Kept a s → s.u ≡ 0 → answered s ≡ None → product n r a b ≡ 1 → ⊥
  answer_none a b s k done e =
      ⊎_elim
      (λ (t : eqb s.v 1 ≡ true).
      let is : Some s.h ≡ None = sym (cond-true (eqb s.v 1) (Some s.h) None t) ∙ e in
      let z : ◌≡◌ {A = ℕ} 0 1 = cc in
      absurd (omega arith))
      (λ (t : eqb s.v 1 ≡ false).
      last_none n r pos hr a s.u s.v s.g s.h k.bezout done (eqb-false s.v 1 t) b)
      (cases_Bool (eqb s.v 1))

  pub inverse_found : (a b : ℕ) → a < 2 ^ n → inverse n r a ≡ Some b → (b < 2 ^ n) × (product n r a b ≡ 1)
  unfolding inverse
  inverse_found zero b fits e = let z : ◌≡◌ {A = ℕ} 0 1 = cc in absurd (omega arith)
  inverse_found (suc zero) b fits e =
      let same : 1 ≡ b = cc in
      subst (λ (x : ℕ). (x < 2 ^ n) × (product n r 1 x ≡ 1)) same (fits, product_one n r pos hr 1 fits)
  inverse_found (suc (suc a)) b fits e =
      let s = started n r (suc (suc a)) in
      answer_found (suc (suc a)) b (euclid n r (s.u + s.v) s) (final (suc (suc a)) fits (omega arith)).0 e

  pub inverse_none : (a b : ℕ) → a < 2 ^ n → inverse n r a ≡ None → product n r a b ≡ 1 → ⊥
  unfolding inverse
  inverse_none zero b fits e = none_zero n r pos hr b
  inverse_none (suc zero) b fits e = let z : ◌≡◌ {A = ℕ} 0 1 = cc in absurd (omega arith)
  inverse_none (suc (suc a)) b fits e =
      let s = started n r (suc (suc a)) in
      let f = final (suc (suc a)) fits (omega arith) in
      answer_none (suc (suc a)) b (euclid n r (s.u + s.v) s) f.0 f.1 e

  -- c = c·(a·b) = (a·c)·b = b
  unique : (a b c : ℕ) → b < 2 ^ n → c < 2 ^ n → product n r a b ≡ 1 → product n r a c ≡ 1 → c ≡ b
  unique a b c hb hc eb ec =
      sym (product_one n r pos hr c hc) ∙ ap (product n r c) (sym eb) ∙ sym (product_assoc n r pos hr c a b)
      ∙ ap (λ (x : ℕ). product n r x b) (product_comm n r pos hr c a ∙ ec) ∙ product_comm n r pos hr 1 b ∙ product_one n r pos hr b hb

  pub inverse_zero : (a : ℕ) → a ≡ 0 → inverse n r a ≡ None
  unfolding inverse
  inverse_zero a e = ap (inverse n r) e

  pub inverse_one : (a : ℕ) → a ≡ 1 → inverse n r a ≡ Some a
  unfolding inverse
  inverse_one a e = ap (inverse n r) e ∙ ap Some (sym e)

  -- whoever finds an inverse has found this one
  pub inverse_some : (a b : ℕ) → a < 2 ^ n → b < 2 ^ n → product n r a b ≡ 1 → inverse n r a ≡ Some b
  inverse_some a b fits hb e = at (inverse n r a) refl
    where
      at : (o : Option ℕ) → inverse n r a ≡ o → o ≡ Some b
      at None is = absurd (inverse_none a b fits is e)
      at (Some c) is = let f = inverse_found a c fits is in ap Some (unique a b c hb f.0 e f.1)

  pub inverse_lacks : (a : ℕ) → a < 2 ^ n → ((b : ℕ) → product n r a b ≡ 1 → ⊥) → inverse n r a ≡ None
  inverse_lacks a fits no_b = at (inverse n r a) refl
    where
      at : (o : Option ℕ) → inverse n r a ≡ o → o ≡ None
      at None is = refl
      at (Some c) is = absurd (no_b c (inverse_found a c fits is).1)
