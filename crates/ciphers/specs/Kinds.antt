-- The kinds of the ciphers here.
use Rattle.std.specs.Prelude.{ℕ, ◌*◌, List, bit_xor}
use Rattle.std.proofs.lemmas.Nat.{xor_lt}
use Rattle.std.specs.Int.Digits.{number_from_digits}
use Rattle.aes.specs.Aes.{encipher as aes_encipher, decipher as aes_decipher}
use Rattle.aes.proofs.Blocks.{undoing}
use Rattle.polynomials.proofs.Xor.{cancel}
use Rattle.rings.specs.Ring.{RingKind}
use Rattle.rings.specs.Rings.{ring8, ring16}
use Rattle.rings.proofs.Rows.{row_block, row_parts}
use Rattle.xtea.specs.Xtea.{encipher as xtea_encipher, decipher as xtea_decipher}
use Rattle.xtea.proofs.Undoing.{encipher_lt, decipher_lt, undone, redone}
use Rattle.ciphers.specs.Cipher.{CipherKind}

-- the block plus the key
abbrev pub masked : List ℕ → ℕ → ℕ
masked key x = bit_xor x (number_from_digits 256 key)

-- the mask over a ring: both maps add the key
abbrev pub mask : RingKind → CipherKind
mask r = record {
  ring = r;
  key_length = r.width;
  encipher = masked;
  decipher = masked;
  encipher_block = λ key x good small. xor_lt (8 * r.width) x (number_from_digits 256 key) small (row_block r.width key good);
  decipher_block = λ key x good small. xor_lt (8 * r.width) x (number_from_digits 256 key) small (row_block r.width key good);
  undone = λ key x _ _. cancel x (number_from_digits 256 key);
  redone = λ key x _ _. cancel x (number_from_digits 256 key);
}

abbrev pub xtea : CipherKind
xtea = record {
  ring = ring8;
  key_length = 16;
  encipher = xtea_encipher;
  decipher = xtea_decipher;
  encipher_block = λ key x _ small. encipher_lt key x small;
  decipher_block = λ key x _ small. decipher_lt key x small;
  undone = λ key x _ small. undone key x small;
  redone = λ key x _ small. redone key x small;
}

abbrev pub aes128 : CipherKind
aes128 = record {
  ring = ring16;
  key_length = 16;
  encipher = aes_encipher;
  decipher = aes_decipher;
  encipher_block = λ key x good small. undoing.closed key x (row_parts 16 key good) small;
  decipher_block = λ key x good small. undoing.closed_back key x (row_parts 16 key good) small;
  undone = λ key x good small. undoing.undone key x (row_parts 16 key good) small;
  redone = λ key x good small. undoing.redone key x (row_parts 16 key good) small;
}
