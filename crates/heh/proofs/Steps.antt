-- A sector enciphered, and deciphered, as the maps of bytes.
use Rattle.std.proofs.Common.{◌≡◌, ℕ, ◌%◌, ◌<◌, true, List, length, get_or, sym, ◌∙◌, subst, mod-eq_of_lt}
use Rattle.std.specs.Int.Digits.{number_from_digits}
use Rattle.std.proofs.lemmas.Bool.{cond-true}
use Rattle.rings.specs.Ring.{RingKind, size}
use Rattle.rings.specs.Rows.{row}
use Rattle.rings.proofs.Bytes.{pow_bytes}
use Rattle.rings.proofs.Rows.{row_array, row_block, number_bytes_of}
use Rattle.rings.proofs.Total.{rest_below}
use Rattle.ciphers.specs.Cipher.{CipherKind, fits}
use Rattle.passes.specs.Sector.{rowwise}
use Rattle.heh_theory.specs.Heh.{size_fits, on_blocks, enciphered, deciphered, taken, encipher, decipher, sector_tweak}
use Rattle.heh_theory.proofs.Undoing.{taken_from}

-- the block of a tweak of bytes, and of a sector's
pub tweak_block : (r : RingKind) (tweak : List ℕ) → row r.width tweak ≡ true → number_from_digits 256 tweak % size r ≡ number_from_digits 256 tweak
tweak_block r tweak good = mod-eq_of_lt (row_block r.width tweak good)

pub sector_block : (r : RingKind) (s : ℕ) → s % size r ≡ number_from_digits 256 (sector_tweak r s)
sector_block r s = sym (number_bytes_of r.width (s % size r) (subst (λ (n : ℕ). s % size r < n) (sym (pow_bytes r.width)) (rest_below r s)))

-- a key and a size that fit, a tweak of one block, a sector of that size, and the tweak's block T
module _ (k : CipherKind) (key : List ℕ) (ℓ : ℕ) (tweak bs : List ℕ) (r : RingKind) (over : k.ring ≡ r) (T : ℕ)
    (good : fits k key ≡ true) (fit : size_fits k.ring ℓ ≡ true) (block : row k.ring.width tweak ≡ true) (long : length bs ≡ ℓ) (low : (i : ℕ) → get_or bs i 0 < 256)
    (T-is : T ≡ number_from_digits 256 tweak) where
  all_taken : taken k key ℓ tweak bs ≡ true
  all_taken = taken_from k key ℓ tweak bs (record { key_fit = good; size_fit = fit; tweak_row = block; bytes_row = row_array ℓ bs long low })

  pub encipher_is : rowwise r.width (on_blocks (enciphered r (k.encipher key) T (length bs))) bs ≡ encipher k key ℓ tweak bs
  encipher_is =
      (λ t. rowwise (sym over t).width (on_blocks (enciphered (sym over t) (k.encipher key) (T-is t) (long t))) bs)
      ∙ sym (cond-true (taken k key ℓ tweak bs) _ bs all_taken)

  pub decipher_is : rowwise r.width (on_blocks (deciphered r (k.encipher key) (k.decipher key) T (length bs))) bs ≡ decipher k key ℓ tweak bs
  decipher_is =
      (λ t. rowwise (sym over t).width (on_blocks (deciphered (sym over t) (k.encipher key) (k.decipher key) (T-is t) (long t))) bs)
      ∙ sym (cond-true (taken k key ℓ tweak bs) _ bs all_taken)
