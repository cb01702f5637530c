-- What the ring laws need of exclusive or.
use Rattle.std.proofs.Common.{◌≡◌, ℕ, zero, suc, ◌*◌, ◌/◌, ◌%◌, ◌<◌, sym, ap, ◌∙◌, ap₂, le_of_suc-le-suc, not-suc-le-zero, add-zero, mod-lt, zero-lt-suc, mul_comm, one-mul, div-add-mod', zero-mul}
use lib.Bits.{bit_xor, xor_comm, xor_assoc, xor_self, xor_zero_r, xor_block, xor_shifted}

-- (a + b) + (c + d) = (a + c) + (b + d)
pub swap4 : (a b c d : ℕ) → bit_xor (bit_xor a b) (bit_xor c d) ≡ bit_xor (bit_xor a c) (bit_xor b d)
swap4 a b c d =
    xor_assoc a b (bit_xor c d)
    ∙ ap (bit_xor a) (sym (xor_assoc b c d) ∙ ap (λ (x : ℕ). bit_xor x d) (xor_comm b c) ∙ xor_assoc c b d)
    ∙ sym (xor_assoc a c (bit_xor b d))

-- (a + b) + b = a
pub cancel : (a b : ℕ) → bit_xor (bit_xor a b) b ≡ a
cancel a b = xor_assoc a b b ∙ ap (bit_xor a) (xor_self b) ∙ xor_zero_r a

pub times_x_xor : (a b : ℕ) → 2 * bit_xor a b ≡ bit_xor (2 * a) (2 * b)
times_x_xor a b =
    mul_comm 2 (bit_xor a b) ∙ sym (add-zero (bit_xor a b * 2))
    ∙ sym (xor_block 1 a b 0 0 (zero-lt-suc 1) (zero-lt-suc 1))
    ∙ ap₂ bit_xor (add-zero (a * 2) ∙ mul_comm a 2) (add-zero (b * 2) ∙ mul_comm b 2)

-- a number is its lowest bit and the rest
pub low_high : (b : ℕ) → bit_xor (b % 2) (2 * (b / 2)) ≡ b
low_high b =
    xor_comm (b % 2) (2 * (b / 2)) ∙ ap (λ (x : ℕ). bit_xor x (b % 2)) (mul_comm 2 (b / 2))
    ∙ xor_shifted (b / 2) 1 (b % 2) (mod-lt b (zero-lt-suc 1)) ∙ div-add-mod' b 2

not-bit {ℓ} : {A : Type ℓ} {x : ℕ} → suc (suc x) < 2 → A
not-bit h = absurd (not-suc-le-zero (le_of_suc-le-suc (le_of_suc-le-suc h)))

-- a bit times a number, over a sum of bits
pub bit_xor_mul : (x y a : ℕ) → x < 2 → y < 2 → bit_xor x y * a ≡ bit_xor (x * a) (y * a)
bit_xor_mul zero y a hx hy = sym (ap (λ (z : ℕ). bit_xor z (y * a)) (zero-mul a))
bit_xor_mul (suc zero) zero a hx hy = sym (ap (bit_xor (1 * a)) (zero-mul a) ∙ xor_zero_r (1 * a))
bit_xor_mul (suc zero) (suc zero) a hx hy = zero-mul a ∙ sym (xor_self (1 * a))
bit_xor_mul (suc zero) (suc (suc y)) a hx hy = not-bit hy
bit_xor_mul (suc (suc x)) y a hx hy = not-bit hx

-- a linear map at a bit times a number
pub bit_over : (f : ℕ → ℕ) → f 0 ≡ 0 → (x a : ℕ) → x < 2 → f (x * a) ≡ x * f a
bit_over f f0 zero a h = ap f (zero-mul a) ∙ f0 ∙ sym (zero-mul (f a))
bit_over f f0 (suc zero) a h = ap f (one-mul a) ∙ sym (one-mul (f a))
bit_over f f0 (suc (suc x)) a h = not-bit h

pub xor_bit : (x a b : ℕ) → x < 2 → x * bit_xor a b ≡ bit_xor (x * a) (x * b)
xor_bit zero a b h = zero-mul (bit_xor a b) ∙ sym (ap₂ bit_xor (zero-mul a) (zero-mul b))
xor_bit (suc zero) a b h = one-mul (bit_xor a b) ∙ sym (ap₂ bit_xor (one-mul a) (one-mul b))
xor_bit (suc (suc x)) a b h = not-bit h
