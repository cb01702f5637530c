-- The answer to a record, and the place that it is written to.
use Rattle.std.specs.Prelude.{ℕ, ◌/◌, ◌%◌, cond, List, [], ◌∷◌, ◌++◌, length, drop, Ok, Err, Result, nat_le}
use Rattle.modes.specs.Faults.{mode_fault_number}
use Rattle.records.specs.Codes.{record_fault_number}
use Rattle.jobs.specs.Outcome.{outcome}
use Rattle.jobs.specs.declared.refusal.PlaceFault.{PlaceFault}
use Rattle.jobs.specs.declared.refusal.PlaceFault.TheVariants.{Short}
use Rattle.jobs.specs.declared.refusal.Refusal.{Refusal}
use Rattle.jobs.specs.declared.refusal.Refusal.TheVariants.{Record, Mode}

-- the number of a refusal; the record's and the mode's keep their own
abbrev pub refusal_number : Refusal → ℕ
refusal_number (Record fault) = record_fault_number fault
refusal_number (Mode fault) = mode_fault_number fault

-- the number of a refused call
abbrev pub place_fault_number : PlaceFault → ℕ
place_fault_number Short = 14

-- 02, the length in two bytes, the first the higher, and the sector; or 01 and the refusal's number
abbrev pub answer_of : Result (List ℕ) Refusal → List ℕ
answer_of (Ok sector) = 2 ∷ length sector / 256 ∷ length sector % 256 ∷ sector
answer_of (Err refusal) = 1 ∷ refusal_number refusal ∷ []

-- the answer to a record
abbrev pub answer : List ℕ → List ℕ
answer bytes = answer_of (outcome bytes)

-- a place with bytes written to its front; those past them stay
abbrev pub written : List ℕ → List ℕ → List ℕ
written bytes place = bytes ++ drop (length bytes) place

-- the count of bytes written, or 14 where the place has fewer than 4,099 bytes
abbrev pub count : List ℕ → List ℕ → Result ℕ PlaceFault
count bytes place = cond (nat_le 4099 (length place)) (Ok (length (answer bytes))) (Err Short)

-- the place afterwards
abbrev pub place_after : List ℕ → List ℕ → List ℕ
place_after bytes place = cond (nat_le 4099 (length place)) (written (answer bytes) place) place
