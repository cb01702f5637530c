-- What the code writes to a place.
use Rattle.std.proofs.Common.{◌≡◌, ℕ, suc, ◌+◌, ◌-◌, ◌≤◌, List, [], ◌∷◌, ◌++◌, length, drop, sym, ap, ◌∙◌, arith}
use Rattle.std.proofs.lemmas.List.{take-append-drop, drop-append-le, append_assoc, length-take-le}
use Rattle.std.specs.Array.{IsFirstChunk}
use borrow.Rule.Slice.PartMut.{put_mid, post_of}
use Rattle.jobs.specs.Answers.{written}

-- three bytes, then a row of bytes
pub written_after : (high low : ℕ) (bs place : List ℕ) → 3 ≤ length place →
    put_mid 3 (3 + length bs - 3) (2 ∷ high ∷ low ∷ post_of 0 3 place) bs ≡ 2 ∷ high ∷ low ∷ (bs ++ drop (suc (suc (suc (length bs)))) place)
written_after high low bs [] room = absurd (omega arith)
written_after high low bs (x ∷ []) room = absurd (omega arith)
written_after high low bs (x ∷ y ∷ []) room = absurd (omega arith)
written_after high low bs (x ∷ y ∷ z ∷ place) room =
    let same : 3 + length bs - 3 ≡ length bs = omega arith in
    ap (λ (n : ℕ). 2 ∷ high ∷ low ∷ (bs ++ drop n place)) same

-- an answer, written to the first 4,099 bytes of a place
pub written_front : (answer front place : List ℕ) → length answer ≤ 4099 → IsFirstChunk place front 4099 → written answer front ++ drop 4099 place ≡ written answer place
written_front answer front place few chunk =
    let rest = drop 4099 place in
    let all : length front ≡ 4099 = ap length chunk.same ∙ length-take-le 4099 place chunk.enough in
    let whole : front ++ rest ≡ place = ap (λ (xs : List ℕ). xs ++ rest) chunk.same ∙ take-append-drop 4099 place in
    append_assoc answer (drop (length answer) front) rest
    ∙ ap (λ (xs : List ℕ). answer ++ xs) (sym (drop-append-le (length answer) front rest (omega (arith, few, all))))
    ∙ ap (written answer) whole
