-- One sector through each transition.
use Rattle.std.proofs.Common.{◌≡◌, ℕ, ◌^◌, ◌<◌, Bool, true, false, ◌&&◌, eqb, List, [], length, Some, None, Option, sym, refl, ap, ◌∙◌, subst, arith}
use Rattle.std.proofs.lemmas.Bool.{cond-false}
use Rattle.rings.specs.Rows.{all_bytes, row}
use Rattle.devices.specs.Device.{Sector, live, faulty, bytes_of}
use Rattle.modes.specs.Mode.{ModeKind, Keyed}
use Rattle.modes.specs.Total.{enciphering, deciphering}
use Rattle.modes.proofs.Total.{undone, redone}
use Rattle.volumes.specs.Volume.{enciphered_by, deciphered_by, reciphered_if, rekeyed}
use Rattle.runs.specs.History.{Sweep, or_else, pair, plain}
use Rattle.runs.specs.Law.{Enciphers, StoredAs}
use Rattle.runs.proofs.Keys.{key_in}

-- a mode holds this key, which fits
abbrev pub Holds : ModeKind → ℕ → Option Keyed → Option (List ℕ) → Type 0
Holds k size s (Some key) = (s ≡ Some (pair size key)) × (k.refusal key size ≡ None)
Holds k size s None = ⊥

-- a sector as the law has it; before the open, as it was
abbrev pub Kept : ModeKind → ℕ → ℕ → Option (List ℕ) → List Sweep → Option (List ℕ) → ℕ → Sector → Sector → Type 0
Kept k n size None ws wr i old x = (x ≡ old) × (wr ≡ None)
Kept k n size (Some first) ws wr i old x = StoredAs k size i (key_in n (Some first) ws i) (or_else wr (plain k size i (Some first) old)) old x

module _ (k : ModeKind) (size i : ℕ) (low : i < 2 ^ 32) where
  pub opened_sector : (n : ℕ) (key : List ℕ) (wr : Option (List ℕ)) (old x : Sector) → k.refusal key size ≡ None → x ≡ old → wr ≡ None → Kept k n size (Some key) [] wr i old x
  opened_sector n key wr (live bytes) x fit e w =
      subst (λ u. Enciphers k size i (Some key) (or_else u (Some (deciphering k (pair size key) i bytes))) x) (sym w) (e ∙ ap live (sym (redone k (pair size key) fit i low bytes)))
  opened_sector n key wr (faulty f) x fit e w = e

  -- where one size is held by both modes, a sector of another length stays, as it does under the maps
  same_size : (s t : List ℕ) (bytes : List ℕ) (b : Bool) → eqb (length bytes) size ≡ b
      → reciphered_if (b && b) k (Some (pair size s)) (Some (pair size t)) i bytes ≡ enciphering k (pair size t) i (deciphering k (pair size s) i bytes)
  same_size s t bytes true e = refl
  same_size s t bytes false e =
      let none : row size bytes ≡ false = ap (λ (b : Bool). b && all_bytes bytes) e in
      sym (ap (enciphering k (pair size t) i) (cond-false (row size bytes) (k.decipher s size i bytes) bytes none) ∙ cond-false (row size bytes) (k.encipher t size i bytes) bytes none)

  pub stepped_sector : (key : List ℕ) (current bs : Option (List ℕ)) (a b : Option Keyed) (old x : Sector) → Holds k size a current → Holds k size b (Some key)
      → StoredAs k size i current bs old x → StoredAs k size i (Some key) bs old (rekeyed k a b i x)
  stepped_sector key None bs a b old x ha hb h = absurd ha
  stepped_sector key (Some was) None a b (live old) x ha hb h = absurd h
  stepped_sector key (Some was) (Some bytes) a b (live old) x ha hb h =
      ap (rekeyed k a b i) h
      ∙ ap (λ (s : Option Keyed). rekeyed k s b i (live (enciphering k (pair size was) i bytes))) ha.0
      ∙ ap (λ (s : Option Keyed). rekeyed k (Some (pair size was)) s i (live (enciphering k (pair size was) i bytes))) hb.0
      ∙ ap live
      (same_size was key (enciphering k (pair size was) i bytes) (eqb (length (enciphering k (pair size was) i bytes)) size) refl
      ∙ ap (enciphering k (pair size key) i) (undone k (pair size was) ha.1 i low bytes))
  stepped_sector key (Some was) bs a b (faulty f) x ha hb h = ap (rekeyed k a b i) h

  pub written_sector : (key wr : Option (List ℕ)) (bytes under : List ℕ) (a : Option Keyed) (old x : Sector) → Holds k size a key → x ≡ live under
      → StoredAs k size i key wr old x → StoredAs k size i key (Some bytes) old (live (enciphered_by k a i bytes))
  written_sector None wr bytes under a old x ha e h = absurd ha
  written_sector (Some key) wr bytes under a (live old) x ha e h = ap (λ (s : Option Keyed). live (enciphered_by k s i bytes)) ha.0
  written_sector (Some key) wr bytes under a (faulty f) x ha e h = let z : ◌≡◌ {A = ℕ} 0 1 = cc in absurd (omega arith)

  pub read_sector : (key bs : Option (List ℕ)) (under : List ℕ) (a : Option Keyed) (old x : Sector) → Holds k size a key → x ≡ live under → StoredAs k size i key bs old x → Some (deciphered_by k a i under) ≡ bs
  read_sector None bs under a old x ha e h = absurd ha
  read_sector (Some key) None under a (live old) x ha e h = absurd h
  read_sector (Some key) (Some bytes) under a (live old) x ha e h =
      let is : under ≡ enciphering k (pair size key) i bytes = ap bytes_of (sym e ∙ h) in
      ap Some (ap (λ (s : Option Keyed). deciphered_by k s i under) ha.0 ∙ ap (deciphering k (pair size key) i) is ∙ undone k (pair size key) ha.1 i low bytes)
  read_sector (Some key) bs under a (faulty f) x ha e h = let z : ◌≡◌ {A = ℕ} 0 1 = cc in absurd (omega arith)
