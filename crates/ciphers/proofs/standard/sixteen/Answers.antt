use Rattle.std.proofs.Common.{◌≡◌, ℕ, ◌<◌, ◌≢◌, true, false, ◌&&◌, List, length, get_or, Some, None, Option, MatchOption, MatchResult, ap, subst, ne_eqb, rules}
use Rattle.std.specs.Array.{IsWholeChunk}
use Rattle.std.specs.Option.{ok_or}
use denote.Ref.{Bor}
use Rattle.rings.specs.Rows.{all_bytes, row}
use Rattle.rings.proofs.Rows.{row_array}
use Rattle.ciphers.specs.declared.KeyFault.TheVariants.{WrongLength}
use Rattle.ciphers.proofs.standard.sixteen.Goals as goal

module _ (key : List ℕ) (bytes : (i : ℕ) → get_or key i 0 < 256) where
  told : (o : Option (Bor (List ℕ))) → MatchOption o (length key ≢ 16) (λ k. IsWholeChunk key k.now 16)
      → MatchResult (ok_or o WrongLength) (λ k. (row 16 key ≡ true) × (k.now ≡ key)) (λ _. row 16 key ≡ false)
  told None other = ap (λ b. b && all_bytes key) (ne_eqb (length key) 16 other)
  told (Some k) is = (row_array 16 key is.long bytes, is.same)

pub returns : goal.returns
returns c =
    let key = c.args.key.now in
    let cases : MatchOption c.as_array.result (length key ≢ 16) (λ k. IsWholeChunk key k.now 16) =
    subst (λ (l : List ℕ). MatchOption c.as_array.result (length l ≢ 16) (λ k. IsWholeChunk l k.now 16)) (search rules) c.as_array.ensures.cases in
    rw c.ok_or.ensures.value (told key (λ i. (c.type_inv.key i).fits) c.as_array.result cases)
