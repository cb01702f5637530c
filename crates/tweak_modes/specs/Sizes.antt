-- A sector size that TET or HEH takes is at most 4,096 bytes.
use Rattle.std.specs.Prelude.{◌≡◌, ℕ, ◌≤◌, Bool, true, false, cond, List, Some, None, Option, nat_le, refl}
use Rattle.std.proofs.Common.{arith}
use Rattle.std.proofs.lemmas.Bool.{and_parts, leb-true}
use Rattle.ciphers.specs.Cipher.{CipherKind, fits}
use Rattle.modes.specs.declared.ModeFault.{ModeFault}
use Rattle.tet_theory.specs.Tet as tet
use Rattle.tet_theory.specs.State as tet-mode
use Rattle.heh_theory.specs.Heh as heh
use Rattle.heh_theory.specs.State as heh-mode
use Rattle.heh_theory.proofs.Undoing.{size_parts}

-- where a key and a size are not refused, the size fits
size_taken : (good fit : Bool) (x : Option ModeFault) (y z : ModeFault) → cond good (cond fit x (Some y)) (Some z) ≡ None → fit ≡ true
size_taken true true x y z e = refl
size_taken true false x y z e = cc
size_taken false fit x y z e = cc

pub tet_bounded : (k : CipherKind) (key : List ℕ) (ℓ : ℕ) → tet-mode.refusal k key ℓ ≡ None → ℓ ≤ 4096
tet_bounded k key ℓ e =
    let fit = size_taken (tet.key_fits k key) (tet.size_fits k.ring ℓ) _ _ _ e in
    let low = leb-true ℓ k.ring.longest (and_parts (nat_le k.ring.width ℓ) (nat_le ℓ k.ring.longest) fit).1 in
    omega (arith, low, k.ring.bounded)

pub heh_bounded : (k : CipherKind) (key : List ℕ) (ℓ : ℕ) → heh-mode.refusal k key ℓ ≡ None → ℓ ≤ 4096
heh_bounded k key ℓ e =
    let fit = size_taken (fits k key) (heh.size_fits k.ring ℓ) _ _ _ e in
    omega (arith, (size_parts k.ring ℓ fit).most, k.ring.bounded)
