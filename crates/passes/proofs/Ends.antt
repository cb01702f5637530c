-- The pad of bytes and the tail of a row.
use Rattle.std.proofs.Common.{◌≡◌, ℕ, ◌+◌, ◌-◌, ◌*◌, ◌/◌, ◌%◌, ◌<◌, ◌≤◌, List, [], ◌∷◌, ◌++◌, length, drop, replicate, sym, refl, ap, ◌∙◌, subst, append_assoc, mod-eq_of_lt, arith, length-drop}
use lib.Bits.{bit_xor, xor_zero_r}
use Rattle.std.specs.Int.Digits.{number_from_digits, AllBelowBase}
use Rattle.std.proofs.lemmas.Nat.{div-add-mod', mod_below}
use Rattle.std.proofs.lemmas.Int.Digits.{number_push}
use Rattle.std.proofs.ByRecursion.{All-drop}
use Rattle.std.proofs.lemmas.List.{get_or_past, replicate_more}
use Rattle.rings.specs.Ring.{RingKind, size}
use Rattle.rings.specs.Blocks.{bytes_of}
use Rattle.rings.proofs.Bytes.{mod_shift, length_bytes_of}
use Rattle.passes.specs.Passes.{pad, tail_block, mixed_at}
use Rattle.passes.proofs.Stages.{pad_below}

-- a pad, one zero more
pub pad_more : (bs : List ℕ) (i n : ℕ) → (number_from_digits 256 (bs ++ (128 ∷ replicate i 0)) % n * 256 + 0) % n ≡ number_from_digits 256 (bs ++ (128 ∷ replicate (i + 1) 0)) % n
pad_more bs i n =
    let so_far : List ℕ = bs ++ (128 ∷ replicate i 0) in
    mod_shift (number_from_digits 256 so_far) 0 n
    ∙ ap (λ x. x % n) (sym (number_push 256 so_far 0))
    ∙ ap (λ l. number_from_digits 256 l % n) (append_assoc bs (128 ∷ replicate i 0) (0 ∷ []) ∙ ap (λ l. bs ++ (128 ∷ l)) (replicate_more {X = ℕ} i 0))

tail_is_pad : (r : RingKind) (ys : List ℕ) → 0 < length ys → tail_block r ys ≡ pad r ys
tail_is_pad r [] h = absurd (omega arith)
tail_is_pad r (y ∷ ys) h = refl

short_tail : (r : RingKind) (bs : List ℕ) → length (drop (length bs / r.width * r.width) bs) < r.width
short_tail r bs = rw (length-drop (length bs / r.width * r.width) bs) (omega (arith, div-add-mod' (length bs) r.width, mod_below (length bs) r.width r.some))

-- a tail
pub tail_some : (r : RingKind) (bs : List ℕ) → AllBelowBase 256 bs → (v : ℕ) → v ≡ r.width → (ys : List ℕ) → ys ≡ drop (length bs - length bs % v) bs → 0 < length ys
    → pad r ys % size r ≡ tail_block r (drop (length bs / r.width * r.width) bs)
tail_some r bs under v e ys cut some =
    let n = length bs / r.width * r.width in
    let at : length bs - length bs % v ≡ n = omega (arith, div-add-mod' (length bs) r.width, ap (λ w. length bs % w) e) in
    let is : ys ≡ drop n bs = cut ∙ ap (λ k. drop k bs) at in
    ap (λ l. pad r l % size r) is
    ∙ mod-eq_of_lt (pad_below r (drop n bs) (All-drop (λ d. d < 256) n bs under) (short_tail r bs))
    ∙ sym (tail_is_pad r (drop n bs) (subst (λ l. 0 < length l) is some))

-- past a block nothing is mixed in
pub mixed_past : (r : RingKind) (u i b : ℕ) → r.width ≤ i → mixed_at r u i b ≡ b
mixed_past r u i b h =
    let past : length (bytes_of r.width u) ≤ i = rw (length_bytes_of r.width u) h in
    ap (bit_xor b) (get_or_past (bytes_of r.width u) i 0 past) ∙ xor_zero_r b
