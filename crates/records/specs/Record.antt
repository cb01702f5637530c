-- What a record reads as.
use Rattle.std.specs.Prelude.{ℕ, ◌+◌, ◌*◌, ◌/◌, ◌%◌, ◌^◌, Bool, true, false, cond, ◌&&◌, List, [], ◌∷◌, length, take, drop, Some, None, Option, ◌==◌, nat_le, nat_lt}
use Rattle.records.specs.declared.Mode.{Mode}
use Rattle.records.specs.declared.Cipher.{Cipher}
use Rattle.records.specs.declared.Direction.{Direction}
use Rattle.records.specs.Codes.{mode_named, cipher_named, direction_named}

-- what a record asks for
pub record Task : Type 0 where
  pub mode : Mode
  pub cipher : Cipher
  pub direction : Direction
  pub key : List ℕ
  pub tweak : List ℕ
  pub sector : List ℕ

-- ---- one part of a record, with the bytes after it

pub record Part (X : Type 0) : Type 0 where
  pub value : X
  pub rest : List ℕ

-- a code of one byte, or the code that counts where it is absent
abbrev pub code : Bool → ℕ → List ℕ → Option (Part ℕ)
code false absent bs = Some (record { value = absent; rest = bs })
code true absent [] = None
code true absent (c ∷ bs) = Some (record { value = c; rest = bs })

-- as many bytes as there are to be, if there are
abbrev pub split : ℕ → List ℕ → Option (Part (List ℕ))
split n bs = cond (nat_le n (length bs)) (Some (record { value = take n bs; rest = drop n bs })) None

-- a length in two bytes, the first the higher, and so many bytes; no bytes where it is absent
abbrev pub field : Bool → List ℕ → Option (Part (List ℕ))
field false bs = Some (record { value = []; rest = bs })
field true [] = None
field true (h ∷ []) = None
field true (h ∷ l ∷ bs) = split (h * 256 + l) bs

-- ---- the whole of it

-- one part after the other; none where one is missing
abbrev pub after : {X Y : Type 0} → Option (Part X) → (X → List ℕ → Option Y) → Option Y
after None f = None
after (Some p) f = f p.value p.rest

-- does this bit of the map stand?
abbrev pub stands : ℕ → ℕ → Bool
stands i map = map / 2 ^ i % 2 == 1

-- the task, where each code names something
abbrev pub named : Option Mode → Option Cipher → Option Direction → List ℕ → List ℕ → List ℕ → Option Task
named None c d key tweak sector = None
named (Some m) None d key tweak sector = None
named (Some m) (Some c) None key tweak sector = None
named (Some m) (Some c) (Some d) key tweak sector =
    Some (record { mode = m; cipher = c; direction = d; key = key; tweak = tweak; sector = sector })

-- the task, where no bytes are left
abbrev pub ended : List ℕ → Option Task → Option Task
ended [] task = task
ended (b ∷ bs) task = None

-- the fields whose bits stand, lowest first, and nothing after them
abbrev pub fields : ℕ → List ℕ → Option Task
fields map bs =
    after (code (stands 0 map) 1 bs) (λ mode bs.
    after (code (stands 1 map) 1 bs) (λ cipher bs.
    after (code (stands 2 map) 0 bs) (λ direction bs.
    after (field (stands 3 map) bs) (λ key bs.
    after (field (stands 4 map) bs) (λ tweak bs.
    after (field (stands 5 map) bs) (λ sector bs.
    ended bs (named (mode_named mode) (cipher_named cipher) (direction_named direction) key tweak sector)))))))

-- bits 6 and 7 do not stand; those of key and sector do
abbrev pub map_fits : ℕ → Bool
map_fits map = nat_lt map 64 && stands 3 map && stands 5 map

-- a map and its fields
abbrev pub mapped : List ℕ → Option Task
mapped [] = None
mapped (map ∷ bs) = cond (map_fits map) (fields map bs) None

-- the task of a record, or none; a record has at most 16,384 bytes
abbrev pub read : List ℕ → Option Task
read bs = cond (nat_le (length bs) 16384) (mapped bs) None
