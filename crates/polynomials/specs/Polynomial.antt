-- Polynomials over the field of two elements, held as numbers: bit k of a number is the coefficient of x^k.
-- The sum of two polynomials is bit_xor. A modulus x^n + r is given by n and by r, which has a degree below n.
use Rattle.std.specs.Prelude.{ℕ, zero, suc, ◌+◌, ◌*◌, ◌/◌, ◌%◌, ◌^◌, bit_xor}

-- the coefficient of x^k in a
unfoldable pub coefficient : ℕ → ℕ → ℕ
coefficient k a = a / 2 ^ k % 2

-- the sum of f 0, f 1, .. f k
unfoldable pub total : (ℕ → ℕ) → ℕ → ℕ
total f zero = f 0
total f (suc k) = bit_xor (total f k) (f (suc k))

-- b_0·a + X(b_1·a + X(b_2·a + ..)), with at most `turns` coefficients of b
unfoldable pub action_in : (ℕ → ℕ) → ℕ → ℕ → ℕ → ℕ
action_in X zero b a = 0
action_in X (suc turns) zero a = 0
action_in X (suc turns) (suc b) a = bit_xor ((suc b % 2) * a) (X (action_in X turns (suc b / 2) a))

-- b(X) at a, for a linear map X: the sum of b_k·X^k(a)
unfoldable pub action : (ℕ → ℕ) → ℕ → ℕ → ℕ
action X b a = action_in X b b a

-- x·a
abbrev pub times_x : ℕ → ℕ
times_x a = 2 * a

-- the carry-less product a·b: the sum of b_k·x^k·a
unfoldable pub clmul : ℕ → ℕ → ℕ
clmul a b = action times_x b a

-- x·a modulo x^n + r, for a of a degree below n: the modulus is taken away where x^n stands in x·a
unfoldable pub xtime : ℕ → ℕ → ℕ → ℕ
xtime n r a = bit_xor (2 * a) ((2 * a / 2 ^ n % 2) * (2 ^ n + r))

-- the remainder of c modulo x^n + r: the sum of c_k·x^k, worked out modulo x^n + r
unfoldable pub remainder : ℕ → ℕ → ℕ → ℕ
remainder n r c = action (xtime n r) c 1

-- the product of a and b modulo x^n + r
unfoldable pub product : ℕ → ℕ → ℕ → ℕ → ℕ
product n r a b = remainder n r (clmul a b)
