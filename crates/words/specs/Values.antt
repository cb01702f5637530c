-- What an answer holds, as a number.
use Rattle.std.specs.Prelude.{ℕ, Some, None, Option}

abbrev pub valued : {A : Type 0} → (A → ℕ) → Option A → Option ℕ
valued value None = None
valued value (Some x) = Some (value x)
