-- TET over any block ring and any cipher. Blocks are numbers, + is bit_xor, α is the block 2, and H is `hash_sum`.
use Rattle.std.specs.Prelude.{ℕ, ◌-◌, ◌*◌, ◌/◌, Bool, cond, ◌&&◌, List, [], ◌∷◌, length, take, drop, Some, None, Option, ◌==◌, bit_xor, nat_le}
use Rattle.std.specs.Int.Digits.{number_from_digits}
use Rattle.rings.specs.Blocks.{first_blocks}
use Rattle.rings.specs.Ring.{RingKind, times}
use Rattle.rings.specs.Sums.{hash_sum, sigma}
use Rattle.ciphers.specs.Cipher.{CipherKind, fits}
use Rattle.passes.specs.Passes.{added, whitened, mapped, pad, tail_block, mixed}
use Rattle.passes.specs.Sector.{Sector, rowwise}

-- ---- the hash key of a sector size

pub record HashKey : Type 0 where
  pub τ : ℕ
  pub σ : ℕ
  pub «1/σ» : ℕ

-- sizes run from one block to the greatest length
abbrev pub size_fits : RingKind → ℕ → Bool
size_fits r ℓ = nat_le r.width ℓ && nat_le ℓ r.longest

module _ (r : RingKind) where
  -- none where σ has no inverse
  abbrev pub hash_with : ℕ → ℕ → Option ℕ → Option HashKey
  hash_with τ σ None = None
  hash_with τ σ (Some ι) = Some (record { τ = τ; σ = σ; «1/σ» = ι })

  -- σ = 1 + τ + .. + τ^m
  abbrev pub hash_of : ℕ → ℕ → Option HashKey
  hash_of τ m = hash_with τ (sigma r τ m) (r.inverse (sigma r τ m))

  -- with E = E_K1: τ = E(α·E(0)), and m = ℓ div w
  abbrev pub hash_key : (ℕ → ℕ) → ℕ → Option HashKey
  hash_key E ℓ = cond (size_fits r ℓ) (hash_of (E (times r 2 (E 0))) (ℓ / r.width)) None

-- ---- β, with E = E_K1

module _ (r : RingKind) (E : ℕ → ℕ) where
  -- V_i = E(V_(i-1) + T_i)
  unfoldable pub chained : ℕ → List ℕ → ℕ
  chained V [] = V
  chained V (T ∷ Ts) = chained (E (bit_xor V T)) Ts

  -- k - 1, the blocks of a tweak before its last, which may be shorter and, of no bytes, is all of an empty tweak
  abbrev pub ahead : List ℕ → ℕ
  ahead tweak = (length tweak - 1) / r.width

  -- E(α·X + V + T) for a whole block T, else E(α²·X + V + pad(T))
  abbrev pub last_step : ℕ → ℕ → List ℕ → ℕ
  last_step X V T =
      cond (length T == r.width)
      (E (bit_xor (bit_xor (times r 2 X) V) (number_from_digits 256 T)))
      (E (bit_xor (bit_xor (times r 2 (times r 2 X)) V) (pad r T)))

  -- X = E(L) with L = 8ℓ, V = V_(k-1) from V_0 = 0, and T = T_k
  abbrev pub beta : ℕ → List ℕ → ℕ
  beta ℓ tweak = last_step (E (8 * ℓ)) (chained 0 (first_blocks r.width (ahead tweak) tweak)) (drop (ahead tweak * r.width) tweak)

-- ---- the stages

-- X_m
unfoldable pub last : List ℕ → ℕ
last [] = 0
last (x ∷ []) = x
last (x ∷ y ∷ ys) = last (y ∷ ys)

-- f on X_m alone
unfoldable pub on_last : (ℕ → ℕ) → List ℕ → List ℕ
on_last f [] = []
on_last f (x ∷ []) = f x ∷ []
on_last f (x ∷ y ∷ ys) = x ∷ on_last f (y ∷ ys)

module _ (r : RingKind) where
  -- X_i + H(τ;X)·(1/σ) + p, with p the pad of the tail, or 0
  abbrev pub blended : HashKey → Sector → Sector
  blended h X = added (bit_xor (times r (hash_sum r h.τ X.blocks) h.«1/σ») (tail_block r X.tail)) X

  -- X_i + H(τ;X) + σ·p, with p the pad of the tail, or 0
  abbrev pub unblended : HashKey → Sector → Sector
  unblended h X = added (bit_xor (hash_sum r h.τ X.blocks) (times r h.σ (tail_block r X.tail))) X

  -- with a tail, f(U) for the last block U, and U's first bytes added to the tail
  abbrev pub crypted_tail_of : (ℕ → ℕ) → List ℕ → List ℕ → Sector
  crypted_tail_of f Us [] = record { blocks = Us; tail = [] }
  crypted_tail_of f Us (y ∷ ys) = record { blocks = on_last f Us; tail = mixed r (last Us) (y ∷ ys) }

  -- the same on a sector
  abbrev pub crypted_tail : (ℕ → ℕ) → Sector → Sector
  crypted_tail f X = crypted_tail_of f X.blocks X.tail

  -- f(X_i) for each block, and then the tail
  abbrev pub crypted : (ℕ → ℕ) → Sector → Sector
  crypted f X = crypted_tail f (mapped f X)

  -- with E = E_K2, from P to C
  abbrev pub enciphered : (ℕ → ℕ) → HashKey → ℕ → Sector → Sector
  enciphered E h β P =
      -- A_i = P_i + H(τ;P)·(1/σ) + p + α^(i-1)·β
      let A : Sector = whitened r β (blended h P) in
      -- B_i = E(A_i); with a tail, U = E(A_m), B_m = E(U)
      let B : Sector = crypted E A in
      -- Q_i = B_i + α^(i-1)·β
      let Q : Sector = whitened r β B in
      -- C_i = Q_i + H(τ;Q)·(1/σ) + q
      blended h Q

  -- with D = D_K2, from C to P
  abbrev pub deciphered : (ℕ → ℕ) → HashKey → ℕ → Sector → Sector
  deciphered D h β C =
      -- Q_i = C_i + H(τ;C) + σ·q, B_i = Q_i + α^(i-1)·β
      let B : Sector = whitened r β (unblended h C) in
      -- A_i = D(B_i); with a tail, U = D(B_m), A_m = D(U)
      let A : Sector = crypted D B in
      -- R_i = A_i + α^(i-1)·β
      let R : Sector = whitened r β A in
      -- P_i = R_i + H(τ;R) + σ·p
      unblended h R

-- ---- keys and rows of bytes

-- K1 then K2
abbrev pub first_key : List ℕ → List ℕ
first_key key = take (length key / 2) key

abbrev pub second_key : List ℕ → List ℕ
second_key key = drop (length key / 2) key

module _ (k : CipherKind) where
  abbrev pub key_fits : List ℕ → Bool
  key_fits key = fits k (first_key key) && fits k (second_key key)

  -- the hash key of a key and a size, where they fit
  abbrev pub hash_for : List ℕ → ℕ → Option HashKey
  hash_for key ℓ = cond (key_fits key) (hash_key k.ring (k.encipher (first_key key)) ℓ) None

  -- a map of sectors on rows of bytes; a row stays where there is no hash key
  abbrev pub on_rows : (HashKey → Sector → Sector) → Option HashKey → List ℕ → List ℕ
  on_rows f None bs = bs
  on_rows f (Some h) bs = rowwise k.ring.width (f h) bs

  -- for a key, a size and a tweak
  abbrev pub encipher : List ℕ → ℕ → List ℕ → List ℕ → List ℕ
  encipher key ℓ tweak =
      on_rows (λ h. enciphered k.ring (k.encipher (second_key key)) h (beta k.ring (k.encipher (first_key key)) ℓ tweak)) (hash_for key ℓ)

  abbrev pub decipher : List ℕ → ℕ → List ℕ → List ℕ → List ℕ
  decipher key ℓ tweak =
      on_rows (λ h. deciphered k.ring (k.decipher (second_key key)) h (beta k.ring (k.encipher (first_key key)) ℓ tweak)) (hash_for key ℓ)
