-- What is shown of the product and the inverse, for every modulus x^n + r, irreducible or not.
use Rattle.std.specs.Prelude.{◌≡◌, ℕ, ◌+◌, ◌-◌, ◌*◌, ◌^◌, ◌<◌, Some, None, ◌≢◌, bit_xor}
use Rattle.polynomials.specs.Inverse.{inverse}
use Rattle.polynomials.specs.Polynomial.{clmul, coefficient, product, total}

-- the product is what the books say
pub record ProductIsRemainder : Type 0 where
  -- the coefficient of x^k in the carry-less product is b_0·a_k + b_1·a_(k-1) + .. + b_k·a_0
  pub coefficients : (k a b : ℕ) → coefficient k (clmul a b) ≡ total (λ i. coefficient i b * coefficient (k - i) a) k
  -- the product differs from it by a multiple of the modulus
  pub multiple : (n r a b : ℕ) → (q : ℕ) × (bit_xor (clmul a b) (product n r a b) ≡ clmul q (2 ^ n + r))
  -- it has a degree below n
  pub short : (n r a b : ℕ) → 0 < n → r < 2 ^ n → product n r a b < 2 ^ n
  -- and no other polynomial of a degree below n differs by a multiple
  pub only : (n r a b c q : ℕ) → 0 < n → r < 2 ^ n → c < 2 ^ n → bit_xor (clmul a b) c ≡ clmul q (2 ^ n + r) → c ≡ product n r a b

-- the polynomials of a degree below n are a commutative ring with unit
pub record Ring (n r : ℕ) : Type 0 where
  pub closed : (a b : ℕ) → product n r a b < 2 ^ n
  pub comm : (a b : ℕ) → product n r a b ≡ product n r b a
  pub assoc : (a b c : ℕ) → product n r (product n r a b) c ≡ product n r a (product n r b c)
  pub distrib : (a b c : ℕ) → product n r a (bit_xor b c) ≡ bit_xor (product n r a b) (product n r a c)
  pub unit : (a : ℕ) → a < 2 ^ n → product n r a 1 ≡ a

-- the inverse is found exactly where there is one
pub record Inverts (n r : ℕ) : Type 0 where
  pub found : (a b : ℕ) → a < 2 ^ n → inverse n r a ≡ Some b → (b < 2 ^ n) × (product n r a b ≡ 1)
  pub none : (a b : ℕ) → a < 2 ^ n → inverse n r a ≡ None → product n r a b ≢ 1

pub record Arithmetic : Type 0 where
  pub remainder : ProductIsRemainder
  pub ring : (n r : ℕ) → 0 < n → r < 2 ^ n → Ring n r
  pub inverses : (n r : ℕ) → 0 < n → r < 2 ^ n → Inverts n r
