-- What the code's parts and jobs are, in the words of the definition.
use Rattle.std.specs.Prelude.{ℕ, List, Option, Result}
use Rattle.std.specs.Option.{option_map}
use Rattle.std.specs.Result.{result_ok}
use Rattle.records.specs.declared.Job.{Job}
use Rattle.records.specs.declared.RecordFault.{RecordFault}
use Rattle.records.specs.Record.{Part, Task}

-- a part that was taken off the front of these bytes
abbrev pub before : {X : Type 0} → List ℕ → X → Part X
before rest x = record { value = x; rest = rest }

-- what a job asks for
abbrev pub task_of : Job → Task
task_of j = record { mode = j.mode; cipher = j.cipher; direction = j.direction; key = j.key.now; tweak = j.tweak.now; sector = j.sector.now }

-- the task of a job, or none where the record is no job
abbrev pub job_or : Result Job RecordFault → Option Task
job_or r = option_map task_of (result_ok r)
