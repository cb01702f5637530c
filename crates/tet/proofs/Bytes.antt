-- The bytes of a number, the highest first.
use Rattle.std.proofs.Common.{◌≡◌, ℕ, zero, suc, ◌/◌, ◌%◌, ◌^◌, [], ◌∷◌, ◌++◌, sym, refl, ap, ◌∙◌, ap₂, pow-suc, mul_comm}
use Rattle.std.proofs.Math.Nat.{div-div-eq-div-mul}
use Rattle.std.specs.Int.{byte_at, bytes_high_first}
use Rattle.rings.specs.Blocks.{bytes_of}

-- byte i + 1 of n is byte i of n without its lowest byte
byte_higher : (i n : ℕ) → byte_at (suc i) n ≡ byte_at i (n / 256)
byte_higher zero n = refl
byte_higher (suc i) n = ap (λ (m : ℕ). n / m % 256) (pow-suc 256 (suc i) ∙ mul_comm (256 ^ suc i) 256) ∙ ap (λ (m : ℕ). m % 256) (sym (div-div-eq-div-mul n 256 (256 ^ suc i)))

lowest_last : (k n : ℕ) → bytes_high_first (suc k) n ≡ bytes_high_first k (n / 256) ++ (n % 256 ∷ [])
lowest_last zero n = refl
lowest_last (suc k) n = ap₂ ◌∷◌ (byte_higher k n) (lowest_last k n)

pub bytes_high_first_is : (k n : ℕ) → bytes_high_first k n ≡ bytes_of k n
unfolding bytes_of
bytes_high_first_is zero n = refl
bytes_high_first_is (suc k) n = lowest_last k n ∙ ap (λ l. l ++ (n % 256 ∷ [])) (bytes_high_first_is k (n / 256))
