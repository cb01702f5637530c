-- Block rings. A block of w bytes is a number below 2^(8w), and the sum of two blocks is bit_xor.
use Rattle.std.specs.Prelude.{◌≡◌, ℕ, ◌*◌, ◌%◌, ◌^◌, ◌<◌, ◌≤◌, Some, None, Option, ◌≢◌, bit_xor}

-- a is a block of w bytes
abbrev pub Block : ℕ → ℕ → Type 0
Block w a = a < 2 ^ (8 * w)

-- a kind of block ring: what it names, and what it shows
pub record RingKind : Type 0 where
  -- w, the bytes of a block, and the greatest length of a sector in bytes
  pub width : ℕ
  pub longest : ℕ
  pub product : ℕ → ℕ → ℕ
  pub inverse : ℕ → Option ℕ
  -- bounds
  pub some : 1 ≤ width
  pub reach : width ≤ longest
  pub bounded : longest ≤ 4096
  pub counted : 8 * longest < 2 ^ (8 * width)
  -- laws, of blocks
  pub closed : (a b : ℕ) → Block width a → Block width b → Block width (product a b)
  pub comm : (a b : ℕ) → Block width a → Block width b → product a b ≡ product b a
  pub assoc : (a b c : ℕ) → Block width a → Block width b → Block width c → product (product a b) c ≡ product a (product b c)
  pub distrib : (a b c : ℕ) → Block width a → Block width b → Block width c → product a (bit_xor b c) ≡ bit_xor (product a b) (product a c)
  pub unit : (a : ℕ) → Block width a → product a 1 ≡ a
  -- an inverse where there is one, and none where no block is
  pub inverts : (a b : ℕ) → Block width a → inverse a ≡ Some b → Block width b × (product a b ≡ 1)
  pub exact : (a b : ℕ) → Block width a → Block width b → inverse a ≡ None → product a b ≢ 1

-- how many blocks there are
abbrev pub size : RingKind → ℕ
size r = 2 ^ (8 * r.width)

-- the product of any two numbers: that of their remainders, which are blocks
abbrev pub times : RingKind → ℕ → ℕ → ℕ
times r a b = r.product (a % size r) (b % size r)
