-- What a job gives.
use Rattle.std.specs.Prelude.{ℕ, cond, List, length, Some, None, Ok, Err, Option, Result}
use Rattle.arrayvec.specs.ArrayVec.{ArrayVec}
use Rattle.modes.specs.declared.ModeFault.{ModeFault}
use Rattle.modes.specs.declared.ModeFault.TheVariants.{WrongTweak}
use Rattle.records.specs.declared.Direction.{Direction}
use Rattle.records.specs.declared.Direction.TheVariants.{Encipher, Decipher}
use Rattle.records.specs.declared.RecordFault.TheVariants.{Malformed}
use Rattle.records.specs.Record.{Task, read}
use Rattle.jobs.specs.Names.{cipher_of, mode_over}
use Rattle.tweak_modes.specs.Tweaked.{TweakKind}
use Rattle.jobs.specs.declared.refusal.Refusal.{Refusal}
use Rattle.jobs.specs.declared.refusal.Refusal.TheVariants.{Record, Mode}

-- the map of a direction
abbrev pub map_of : TweakKind → Direction → List ℕ → ℕ → List ℕ → List ℕ → List ℕ
map_of k Encipher = k.encipher
map_of k Decipher = k.decipher

-- refused, or what comes of it
abbrev pub refused_or : {X : Type 0} → Option ModeFault → Result X ModeFault → Result X ModeFault
refused_or None r = r
refused_or (Some fault) r = Err fault

-- the sector that a task gives with a mode, keyed for the sector's length; refused by 5, 6, 7, then 12
abbrev pub given : TweakKind → Task → Result (List ℕ) ModeFault
given k t =
    refused_or (k.refusal t.key (length t.sector))
    (cond (k.tweak_fits t.tweak) (Ok (map_of k t.direction t.key (length t.sector) t.tweak t.sector)) (Err WrongTweak))

-- a refusal of the mode is carried whole
abbrev pub carried : Result (List ℕ) ModeFault → Result (List ℕ) Refusal
carried (Ok sector) = Ok sector
carried (Err fault) = Err (Mode fault)

-- a record that is no task is refused by 13
abbrev pub of_task : Option Task → Result (List ℕ) Refusal
of_task None = Err (Record Malformed)
of_task (Some t) = carried (given (mode_over t.mode (cipher_of t.cipher)) t)

-- what a record gives
abbrev pub outcome : List ℕ → Result (List ℕ) Refusal
outcome bytes = of_task (read bytes)

-- the sector that a fixed vector holds after a call, or why there is none
abbrev pub put_in : {E : Type 0} → ArrayVec ℕ → Result (Unit {0}) E → Result (List ℕ) E
put_in v (Ok done) = Ok v.items
put_in v (Err fault) = Err fault
