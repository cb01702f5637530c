-- Several steps, as far as the first that is refused.
use Rattle.std.specs.Prelude.{ℕ, zero, suc, Ok, Err}
use Rattle.modes.specs.Mode.{ModeKind}
use Rattle.volumes.specs.declared.fault.CallName.TheVariants as names
use Rattle.volumes.specs.Faults.{CallAnswer, named}
use Rattle.volumes.specs.Volume.{VolumeModel, step_answer, after_step}

-- what they answer
unfoldable pub steps_answer : ModeKind → VolumeModel → ℕ → CallAnswer
steps_answer k v zero = Ok tt
steps_answer k v (suc n) = elim (step_answer v) [ Ok u ↦ steps_answer k (after_step k v) n | Err refusal ↦ named names.Step (Err refusal) ]

-- the volume after them
unfoldable pub after_steps : ModeKind → VolumeModel → ℕ → VolumeModel
after_steps k v zero = v
after_steps k v (suc n) = elim (step_answer v) [ Ok u ↦ after_steps k (after_step k v) n | Err refusal ↦ v ]
