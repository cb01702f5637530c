-- One more entry of a script.
use Rattle.std.proofs.Common.{◌≡◌, ℕ, ◌+◌, ◌<◌, ◌≤◌, List, [], ◌∷◌, ◌++◌, map, length, get_or, take, drop, set, sym, refl, ap, ◌∙◌, append-nil, arith}
use Rattle.std.proofs.lemmas.List.{take_more_set, drop-set-lt, at_drop_more, at_drop_all, take_all}
use Rattle.modes.specs.Mode.{ModeKind}
use Rattle.volumes.specs.Volume.{VolumeModel}
use Rattle.runs.specs.declared.script.Entry.{Entry}
use Rattle.runs.specs.History.{History}
use Rattle.runs.specs.Runs.{after, event, run, history}
use Rattle.runs.specs.Script.{Line, line, call_of, calls, noted, recorded, answered, played}

recorded_more : (es : List Entry) (e : Entry) (h : History) → recorded (es ++ e ∷ []) h ≡ noted (line e) (recorded es h)
recorded_more [] e h = refl
recorded_more (x ∷ es) e h = recorded_more es e (noted (line x) h)

lines_more : (es : List Entry) (e : Entry) (ls : List Line) → map line (es ++ e ∷ []) ++ ls ≡ map line es ++ (line e ∷ ls)
lines_more [] e ls = refl
lines_more (x ∷ es) e ls = ap (λ (ys : List Line). line x ∷ ys) (lines_more es e ls)

-- what is so once the entries below i are done
pub record Done (k : ModeKind) (v₀ v : VolumeModel) (start es : List Entry) (i : ℕ) : Type 0 where
  pub recorded : (h : History) → history k v (calls (drop i es)) (recorded (take i es) h) ≡ history k v₀ (calls start) h
  pub answered : map line (take i es) ++ played k v (drop i es) ≡ played k v₀ start
  pub after : run k v (calls (drop i es)) ≡ run k v₀ (calls start)

module _ (k : ModeKind) (v₀ : VolumeModel) (start : List Entry) where
  pub none : Done k v₀ v₀ start start 0
  none = record { recorded = λ h. refl; answered = refl; after = refl }

  pub more : (v v' : VolumeModel) (es : List Entry) (i : ℕ) (x e' : Entry) → i < length es
      → line e' ≡ answered k v (line (get_or es i x)) → ((h : History) → noted (line e') h ≡ event k v (call_of (line (get_or es i x))) ∷ h) → v' ≡ after k v (call_of (line (get_or es i x)))
      → Done k v₀ v start es i → Done k v₀ v' start (set es i e') (i + 1)
  more v v' es i x e' h la nt af d =
      let e = get_or es i x in
      let rest : drop (i + 1) (set es i e') ≡ drop (i + 1) es = drop-set-lt (i + 1) es i e' (omega arith) in
      let front : take (i + 1) (set es i e') ≡ take i es ++ e' ∷ [] = take_more_set es i e' h in
      let tail = drop (i + 1) es in
      record {
        recorded = λ hs.
            ap (λ (ys : List Entry). history k v' (calls ys) (recorded (take (i + 1) (set es i e')) hs)) rest
            ∙ ap (λ (ys : List Entry). history k v' (calls tail) (recorded ys hs)) front
            ∙ ap (history k v' (calls tail)) (recorded_more (take i es) e' hs ∙ nt (recorded (take i es) hs))
            ∙ ap (λ (u : VolumeModel). history k u (calls tail) (event k v (call_of (line e)) ∷ recorded (take i es) hs)) af
            ∙ sym (at_drop_more (λ (ys : List Entry). history k v (calls ys) (recorded (take i es) hs)) es i x h)
            ∙ d.recorded hs;
        answered =
            ap (λ (ys : List Entry). map line (take (i + 1) (set es i e')) ++ played k v' ys) rest
            ∙ ap (λ (ys : List Entry). map line ys ++ played k v' tail) front
            ∙ lines_more (take i es) e' (played k v' tail)
            ∙ ap (λ (l : Line). map line (take i es) ++ (l ∷ played k v' tail)) la
            ∙ ap (λ (u : VolumeModel). map line (take i es) ++ (answered k v (line e) ∷ played k u tail)) af
            ∙ sym (at_drop_more (λ (ys : List Entry). map line (take i es) ++ played k v ys) es i x h)
            ∙ d.answered;
        after =
            ap (λ (ys : List Entry). run k v' (calls ys)) rest
            ∙ ap (λ (u : VolumeModel). run k u (calls tail)) af
            ∙ sym (at_drop_more (λ (ys : List Entry). run k v (calls ys)) es i x h)
            ∙ d.after;
      }

  module _ (v : VolumeModel) (es : List Entry) (i : ℕ) (h : length es ≤ i) (d : Done k v₀ v start es i) where
    pub all_recorded : (hs : History) → recorded es hs ≡ history k v₀ (calls start) hs
    all_recorded hs =
        ap (λ (ys : List Entry). recorded ys hs) (sym (take_all i es h)) ∙ sym (at_drop_all (λ (ys : List Entry). history k v (calls ys) (recorded (take i es) hs)) es i h) ∙ d.recorded hs

    pub all_answered : map line es ≡ played k v₀ start
    all_answered =
        sym (append-nil (map line es)) ∙ ap (λ (ys : List Entry). map line ys ++ []) (sym (take_all i es h)) ∙ sym (at_drop_all (λ (ys : List Entry). map line (take i es) ++ played k v ys) es i h) ∙ d.answered

    pub all_after : v ≡ run k v₀ (calls start)
    all_after = sym (at_drop_all (λ (ys : List Entry). run k v (calls ys)) es i h) ∙ d.after
