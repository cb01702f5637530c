use Rattle.std.proofs.Common.{◌≡◌, ◌/◌, true, false, length, Some, None, Err, sym, ap, ◌∙◌, arith, rules}
use Rattle.std.proofs.lemmas.List.{take_rest}
use Rattle.std.proofs.lemmas.Bool.{cond-true}
use Rattle.ciphers.specs.Cipher.{fits}
use Rattle.modes.specs.declared.ModeFault.TheVariants.{Key, WrongSize, NoInverse}
use Rattle.ciphers.specs.declared.KeyFault.TheVariants.{WrongLength as WrongKeyLength}
use Rattle.modes.specs.Faults.{answered}
use Rattle.modes.specs.Mode.{keyed_after}
use Rattle.tet.specs.Keys.{key_of}
use Rattle.tet_theory.specs.State.{refusal}
use Rattle.tet.specs.State.{tet_state}
use Rattle.tet_theory.specs.Tet.{first_key, second_key, size_fits, hash_key}
use Rattle.tet.proofs.Hashes.{size_fit}
use Rattle.ciphers.proofs.Keys.{taken, turned}
use Rattle.tet_theory.proofs.States.{too_small, too_large, second_refused, size_refused, hash_refused, not_refused, now_held}
use Rattle.tet.proofs.Tet.key.Goals as goal
use Rattle.tet.proofs.Tet.key.Goals.{then-size-width-via-then-size-width, then-size-width-via-else-size-width+then-longest-size}

pub returns-in_err-set_key-2 : goal.returns-in_err-set_key-2
returns-in_err-set_key-2 g c =
    let k = g.C.BlockCipher.kind in
    let key = c.args.key.now in
    let bad : fits k (second_key key) ≡ false = ap (fits k) (sym (take_rest key (length key / 2))) ∙ turned _ _ c.in_err-set_key-2.ensures.answer in
    let why : refusal k key c.args.size ≡ Some (Key WrongKeyLength) = second_refused k key c.args.size bad in
    let said : c.from_residual-in_err-set_key-2.result ≡ Err (Key WrongKeyLength) = search rules in
    record {
      answer = said ∙ sym (ap answered why);
      pair_is_held = sym (ap (λ o. keyed_after o key c.args.size (tet_state k g.C.BlockCipher.held c.args.self.now)) why);
    }

pub returns-then-size-width : goal.returns-then-size-width
returns-then-size-width g c =
    let k = g.C.BlockCipher.kind in
    let key = c.args.key.now in
    let n = c.args.size in
    let over = g.met.C.BlockCipher.over in
    let good1 : fits k (first_key key) ≡ true = taken _ c.in_ok-set_key.ensures.answer in
    let good2 : fits k (second_key key) ≡ true = ap (fits k) (sym (take_rest key (length key / 2))) ∙ taken _ c.in_ok-set_key-2.ensures.answer in
    let bad : size_fits k.ring n ≡ false =
    ap (λ r. size_fits r n) over
    ∙ elim c.then-size-width.branch [
      | then-size-width-via-then-size-width w ↦ too_small g.C.Ring.BlockRing.ring n (omega (arith, w.if-size-width.true, c.width.ensures))
      | then-size-width-via-else-size-width+then-longest-size w ↦ too_large g.C.Ring.BlockRing.ring n (omega (arith, w.if-longest-size.true, w.longest.ensures))
    ] in
    let why : refusal k key n ≡ Some WrongSize = size_refused k key n good1 good2 bad in
    record {
      answer = sym (ap answered why);
      pair_is_held = sym (ap (λ o. keyed_after o key n (tet_state k g.C.BlockCipher.held c.args.self.now)) why);
    }

pub returns-in_default : goal.returns-in_default
returns-in_default g c =
    let k = g.C.BlockCipher.kind in
    let held = g.C.BlockCipher.held in
    let key = c.args.key.now in
    let n = c.args.size in
    let over = g.met.C.BlockCipher.over in
    let good1 : fits k (first_key key) ≡ true = taken _ c.in_ok-set_key.ensures.answer in
    let good2 : fits k (second_key key) ≡ true = ap (fits k) (sym (take_rest key (length key / 2))) ∙ taken _ c.in_ok-set_key-2.ensures.answer in
    let fit = ap (λ r. size_fits r n) over ∙ size_fit g.C.Ring.BlockRing.ring n (omega (arith, c.if-size-width.false, c.width.ensures)) (omega (arith, c.if-longest-size.false, c.longest.ensures)) in
    let fit1 = taken _ c.in_ok-set_key.ensures.answer in
    let key1 : held c.set_key.new.self ≡ first_key key = c.in_ok-set_key.ensures.key_is_held ∙ cond-true _ _ _ fit1 in
    let none : hash_key k.ring (k.encipher (first_key key)) n ≡ None =
    ap (λ a. hash_key k.ring (k.encipher a) n) (sym key1) ∙ ap (λ r. hash_key r (k.encipher (held c.set_key.new.self)) n) over ∙ sym c.in_default.ensures.hash_key in
    let why : refusal k key n ≡ Some NoInverse = hash_refused k key n good1 good2 fit none in
    record {
      answer = sym (ap answered why);
      pair_is_held = sym (ap (λ o. keyed_after o key n (tet_state k held c.args.self.now)) why);
    }

pub returns : goal.returns
returns g c =
    let k = g.C.BlockCipher.kind in
    let held = g.C.BlockCipher.held in
    let key = c.args.key.now in
    let n = c.args.size in
    let over = g.met.C.BlockCipher.over in
    let fit1 = taken _ c.in_ok-set_key.ensures.answer in
    let fit2 = taken _ c.in_ok-set_key-2.ensures.answer in
    let good1 : fits k (first_key key) ≡ true = fit1 in
    let good2 : fits k (second_key key) ≡ true = ap (fits k) (sym (take_rest key (length key / 2))) ∙ fit2 in
    let key1 : held c.set_key.new.self ≡ first_key key = c.in_ok-set_key.ensures.key_is_held ∙ cond-true _ _ _ fit1 in
    let key2 : held c.set_key-2.new.self ≡ second_key key = c.in_ok-set_key-2.ensures.key_is_held ∙ cond-true _ _ _ fit2 ∙ take_rest key (length key / 2) in
    let h = key_of g.C.Ring.BlockRing.value c.in-Some.field-0 in
    let is : hash_key k.ring (k.encipher (first_key key)) n ≡ Some h =
    ap (λ a. hash_key k.ring (k.encipher a) n) (sym key1) ∙ ap (λ r. hash_key r (k.encipher (held c.set_key.new.self)) n) over ∙ sym c.in-Some.ensures.hash_key in
    let free = not_refused k key n good1 good2 h is in
    record {
      answer = sym (ap answered free);
      pair_is_held =
          now_held k key n good1 good2 h is (held c.set_key.new.self) (held c.set_key-2.new.self) key1 key2
          ∙ sym (ap (λ o. keyed_after o key n (tet_state k held c.args.self.now)) free);
    }
