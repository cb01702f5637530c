-- HEH, over any block ring and any cipher. Blocks are numbers, + is bit_xor, α is the block 2.
use Rattle.std.specs.Prelude.{ℕ, ◌-◌, ◌*◌, ◌%◌, Bool, cond, ◌&&◌, List, [], ◌∷◌, ◌++◌, map, length, take, ◌==◌, bit_xor, nat_le, slice_index}
use Rattle.std.specs.Int.Digits.{number_from_digits}
use Rattle.rings.specs.Blocks.{bytes_of}
use Rattle.rings.specs.Ring.{RingKind, size, times}
use Rattle.rings.specs.Rows.{row}
use Rattle.rings.specs.Sums.{power, hash_sum}
use Rattle.ciphers.specs.Cipher.{CipherKind, fits}
use Rattle.passes.specs.Passes.{placewise}
use Rattle.passes.specs.Sector.{Sector, rowwise}

-- X_1..X_(m-1)
abbrev pub front : List ℕ → List ℕ
front xs = take (length xs - 1) xs

-- X_m
abbrev pub last : List ℕ → ℕ
last xs = slice_index xs (length xs - 1)

module _ (r : RingKind) where
  -- x + Y + α^i·β
  abbrev pub offset_at : ℕ → ℕ → ℕ → ℕ → ℕ
  offset_at y β i x = bit_xor (bit_xor x y) (times r (power r 2 i) β)

  -- X_i + Y + α^i·β, for i from 1
  abbrev pub offset : ℕ → ℕ → List ℕ → List ℕ
  offset y β xs = placewise (offset_at y β) 1 xs

  -- Y = X_m + H(τ; X_1..X_(m-1))
  abbrev pub middle : ℕ → List ℕ → ℕ
  middle τ xs = bit_xor (last xs) (hash_sum r τ (front xs))

  -- Ψ with β: Z_i = X_i + Y + α^i·β for i < m, and Z_m = Y + β
  abbrev pub psi : ℕ → ℕ → List ℕ → List ℕ
  psi τ β xs = offset (middle τ xs) β (front xs) ++ (bit_xor (middle τ xs) β ∷ [])

  -- Y = Z_m + β
  abbrev pub middle_back : ℕ → List ℕ → ℕ
  middle_back β zs = bit_xor (last zs) β

  -- X_i = Z_i + Y + α^i·β for i < m
  abbrev pub front_back : ℕ → List ℕ → List ℕ
  front_back β zs = offset (middle_back β zs) β (front zs)

  -- the inverse of Ψ with β: these X_i, and X_m = Y + H(τ; X_1..X_(m-1))
  abbrev pub psi_back : ℕ → ℕ → List ℕ → List ℕ
  psi_back τ β zs = front_back β zs ++ (bit_xor (middle_back β zs) (hash_sum r τ (front_back β zs)) ∷ [])

  -- Ψ with β, f on each block, then the inverse of Ψ with β'
  abbrev pub wrapped : (ℕ → ℕ) → ℕ → ℕ → ℕ → List ℕ → List ℕ
  wrapped f τ β β' xs = psi_back τ β' (map f (psi τ β xs))

-- E and D are the cipher's maps under the key, T is the tweak, ℓ the length in bytes
module _ (r : RingKind) (E : ℕ → ℕ) where
  -- τ = E_K(T)
  abbrev pub tau : ℕ → ℕ
  tau T = E T

  -- β_1 = E_K(τ + L), L = 8ℓ
  abbrev pub beta1 : ℕ → ℕ → ℕ
  beta1 T ℓ = E (bit_xor (tau T) (8 * ℓ))

  -- β_2 = α·β_1
  abbrev pub beta2 : ℕ → ℕ → ℕ
  beta2 T ℓ = times r 2 (beta1 T ℓ)

  abbrev pub enciphered : ℕ → ℕ → List ℕ → List ℕ
  enciphered T ℓ = wrapped r E (tau T) (beta1 T ℓ) (beta2 T ℓ)

  abbrev pub deciphered : (ℕ → ℕ) → ℕ → ℕ → List ℕ → List ℕ
  deciphered D T ℓ = wrapped r D (tau T) (beta2 T ℓ) (beta1 T ℓ)

-- a map of blocks, on a sector
abbrev pub on_blocks : (List ℕ → List ℕ) → Sector → Sector
on_blocks f s = record { blocks = f s.blocks; tail = s.tail }

-- is ℓ a multiple of w, from w to the greatest length?
abbrev pub size_fits : RingKind → ℕ → Bool
size_fits r ℓ = ℓ % r.width == 0 && nat_le r.width ℓ && nat_le ℓ r.longest

module _ (k : CipherKind) where
  -- do key, size and tweak fit, and is it a row of that size?
  abbrev pub taken : List ℕ → ℕ → List ℕ → List ℕ → Bool
  taken key ℓ tweak bs = fits k key && size_fits k.ring ℓ && row k.ring.width tweak && row ℓ bs

  abbrev pub encipher : List ℕ → ℕ → List ℕ → List ℕ → List ℕ
  encipher key ℓ tweak bs =
      cond (taken key ℓ tweak bs) (rowwise k.ring.width (on_blocks (enciphered k.ring (k.encipher key) (number_from_digits 256 tweak) ℓ)) bs) bs

  abbrev pub decipher : List ℕ → ℕ → List ℕ → List ℕ → List ℕ
  decipher key ℓ tweak bs =
      cond (taken key ℓ tweak bs) (rowwise k.ring.width (on_blocks (deciphered k.ring (k.encipher key) (k.decipher key) (number_from_digits 256 tweak) ℓ)) bs) bs

-- the tweak of sector s: s modulo 2^n, as a block
abbrev pub sector_tweak : RingKind → ℕ → List ℕ
sector_tweak r s = bytes_of r.width (s % size r)

module _ (k : CipherKind) where
  abbrev pub encipher_sector : List ℕ → ℕ → ℕ → List ℕ → List ℕ
  encipher_sector key ℓ s = encipher k key ℓ (sector_tweak k.ring s)

  abbrev pub decipher_sector : List ℕ → ℕ → ℕ → List ℕ → List ℕ
  decipher_sector key ℓ s = decipher k key ℓ (sector_tweak k.ring s)
