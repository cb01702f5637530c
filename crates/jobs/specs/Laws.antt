-- What is shown of jobs.
use Rattle.std.specs.Prelude.{◌≡◌, ℕ, true, List, Some, Ok}
use Rattle.rings.specs.Rows.{all_bytes}
use Rattle.records.specs.declared.Direction.{Direction}
use Rattle.records.specs.declared.Direction.TheVariants.{Encipher, Decipher}
use Rattle.records.specs.Record.{Task, read}
use Rattle.records.specs.Writing.{record_of}
use Rattle.jobs.specs.Outcome.{outcome}

-- the other direction
abbrev pub turned : Direction → Direction
turned Encipher = Decipher
turned Decipher = Encipher

-- the task the other way round, on another sector
abbrev pub back : Task → List ℕ → Task
back t sector =
    record { mode = t.mode; cipher = t.cipher; direction = turned t.direction; key = t.key; tweak = t.tweak; sector = sector }

-- where a job gives a sector, the way back on that sector gives the job's own sector
pub record Returning : Type 0 where
  -- whatever the two records that read as them
  pub of_records :
      (first second : List ℕ) (t : Task) (sector : List ℕ) → all_bytes t.sector ≡ true → read first ≡ Some t → outcome first ≡ Ok sector →
      read second ≡ Some (back t sector) → outcome second ≡ Ok t.sector
  -- and of their records with all six fields
  pub of_tasks : (t : Task) (sector : List ℕ) → all_bytes t.sector ≡ true → outcome (record_of t) ≡ Ok sector → outcome (record_of (back t sector)) ≡ Ok t.sector
