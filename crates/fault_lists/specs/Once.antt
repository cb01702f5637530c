-- Lists that have no number twice.
use Rattle.std.specs.Prelude.{ℕ, ◌<◌, List, length, ◌≢◌, slice_index}

-- no number stands at two places
abbrev pub Once : List ℕ → Type 0
Once xs = (i j : ℕ) → i < j → j < length xs → slice_index xs i ≢ slice_index xs j
