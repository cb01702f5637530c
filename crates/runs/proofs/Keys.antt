-- The key of a sector during a sweep, after one more step, and after a begin.
use Rattle.std.proofs.Common.{◌≡◌, ℕ, ◌<◌, ◌≤◌, cond, ltb, List, ◌∷◌, Some, None, Option, sym, ap, ◌∙◌, ⊎_elim, arith}
use Rattle.std.proofs.lemmas.Bool.{cond-true, cond-false, cases_lt, lt-ltb, le-ltb}
use Rattle.runs.specs.History.{Sweep, or_else, under_way, last_over, key_by}

abbrev pub sweep_of : List ℕ → ℕ → Sweep
sweep_of key mark = record { new_key = key; mark = mark }

-- the key of sector i, by the sweeps and the key of the open
abbrev pub key_in : ℕ → Option (List ℕ) → List Sweep → ℕ → Option (List ℕ)
key_in n first ws i = key_by (under_way n ws) (or_else (last_over n ws) first) i

module _ (n : ℕ) (first : Option (List ℕ)) (ws : List Sweep) (key : List ℕ) (i : ℕ) where
  pub key_sweeping : (m : ℕ) → m < n → key_in n first (sweep_of key m ∷ ws) i ≡ cond (ltb i m) (Some key) (or_else (last_over n ws) first)
  key_sweeping m h =
      let t = lt-ltb m n h in
      ap (λ (u : Option Sweep). key_by u (or_else (last_over n (sweep_of key m ∷ ws)) first) i) (cond-true (ltb m n) (Some (sweep_of key m)) None t)
      ∙ ap (λ (u : Option (List ℕ)). cond (ltb i m) (Some key) (or_else u first)) (cond-true (ltb m n) (last_over n ws) (Some key) t)

  key_over : (m : ℕ) → n ≤ m → key_in n first (sweep_of key m ∷ ws) i ≡ Some key
  key_over m h =
      let t = le-ltb m n h in
      ap (λ (u : Option Sweep). key_by u (or_else (last_over n (sweep_of key m ∷ ws)) first) i) (cond-false (ltb m n) (Some (sweep_of key m)) None t)
      ∙ ap (λ (u : Option (List ℕ)). or_else u first) (cond-false (ltb m n) (last_over n ws) (Some key) t)

  pub key_stepped : (m : ℕ) → i < n → key_in n first (sweep_of key m ∷ ws) i ≡ cond (ltb i m) (Some key) (or_else (last_over n ws) first)
  key_stepped m h =
      ⊎_elim
      (λ (lt : m < n). key_sweeping m lt)
      (λ (ge : n ≤ m). key_over m ge ∙ sym (cond-true (ltb i m) (Some key) (or_else (last_over n ws) first) (lt-ltb i m (omega arith))))
      (cases_lt m n)

  pub key_begun : 0 < n → under_way n ws ≡ None → key_in n first (sweep_of key 0 ∷ ws) i ≡ key_in n first ws i
  key_begun h e =
      key_sweeping 0 h
      ∙ cond-false (ltb i 0) (Some key) (or_else (last_over n ws) first) (le-ltb i 0 (omega arith))
      ∙ sym (ap (λ (u : Option Sweep). key_by u (or_else (last_over n ws) first) i) e)
