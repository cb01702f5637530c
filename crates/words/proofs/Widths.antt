-- What the machine's operations do to a word of n bits.
use Rattle.std.proofs.Common.{◌≡◌, ℕ, ◌+◌, ◌-◌, ◌*◌, ◌/◌, ◌%◌, ◌^◌, ◌≤◌, sym, ap, ◌∙◌, lt_of_lt_of_le, mod-lt, mul_left_comm, arith, pow_pos, pow-add}
use native.Mathlib.Nat.{zero-mod, mul-mod_right, div-eq_of_lt, pow-le-pow_right}

-- nothing is left of a word that is shifted past its width
pub shifted_out : (n a by : ℕ) → n ≤ by → 0 % 2 ^ n ≡ a * 2 ^ by % 2 ^ n
shifted_out n a by h =
    let e : n + (by - n) ≡ by = omega arith in
    zero-mod (2 ^ n)
    ∙ sym (ap (λ (x : ℕ). a * x % 2 ^ n) (sym (ap (λ (x : ℕ). 2 ^ x) e) ∙ pow-add 2 n (by - n))
    ∙ ap (λ (x : ℕ). x % 2 ^ n) (mul_left_comm a (2 ^ n) (2 ^ (by - n))) ∙ mul-mod_right (2 ^ n) (a * 2 ^ (by - n)))

pub lowered_out : (n a by : ℕ) → n ≤ by → 0 ≡ a % 2 ^ n / 2 ^ by
lowered_out n a by h = sym (div-eq_of_lt (lt_of_lt_of_le (mod-lt a (pow_pos n)) (pow-le-pow_right (omega arith) h)))
