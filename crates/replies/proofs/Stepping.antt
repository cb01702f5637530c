-- One step of several.
use Rattle.std.proofs.Common.{◌≡◌, ℕ, suc, Ok, Err, Result, refl}
use Rattle.modes.specs.Mode.{ModeKind}
use Rattle.volumes.specs.declared.fault.CallName.TheVariants as names
use Rattle.volumes.specs.declared.fault.Refusal.{Refusal}
use Rattle.volumes.specs.declared.fault.VolumeFault.{VolumeFault}
use Rattle.volumes.specs.declared.phase.Phase.{Phase}
use Rattle.volumes.specs.declared.phase.Phase.TheVariants.{Closed, Open, Sweeping}
use Rattle.volumes.specs.Faults.{CallAnswer, named}
use Rattle.volumes.specs.Volume.{VolumeModel, step_answer_in, step_answer, after_step_in, after_step}
use Rattle.replies.specs.Steps.{steps_answer, after_steps}

accepted : {X : Type 0} (o : Result (Unit {0}) Refusal) (x : X) (y : Refusal → X) → named names.Step o ≡ Ok tt → elim o [ Ok u ↦ x | Err refusal ↦ y refusal ] ≡ x
accepted (Ok u) x y h = refl
accepted (Err refusal) x y h = cc h

told : (o : Result (Unit {0}) Refusal) (x : CallAnswer) (fault : VolumeFault) → named names.Step o ≡ Err fault → ◌≡◌ {A = CallAnswer} (elim o [ Ok u ↦ x | Err refusal ↦ named names.Step (Err refusal) ]) (Err fault)
told (Ok u) x fault h = cc h
told (Err refusal) x fault h = h

left : {X : Type 0} (o : Result (Unit {0}) Refusal) (x y : X) (fault : VolumeFault) → named names.Step o ≡ Err fault → elim o [ Ok u ↦ x | Err refusal ↦ y ] ≡ y
left (Ok u) x y fault h = cc h
left (Err refusal) x y fault h = refl

-- a refused step changes nothing
stays : (p : Phase) (k : ModeKind) (v : VolumeModel) (fault : VolumeFault) → named names.Step (step_answer_in p) ≡ Err fault → after_step_in p k v ≡ v
stays Closed k v fault h = refl
stays Open k v fault h = refl
stays (Sweeping mark) k v fault h = cc h

module _ (k : ModeKind) (v : VolumeModel) where
  pub none : (steps_answer k v 0 ≡ Ok tt) × (after_steps k v 0 ≡ v)
  unfolding steps_answer after_steps
  none = (refl, refl)

  pub more : (n : ℕ) → named names.Step (step_answer v) ≡ Ok tt → (steps_answer k v (suc n) ≡ steps_answer k (after_step k v) n) × (after_steps k v (suc n) ≡ after_steps k (after_step k v) n)
  unfolding steps_answer after_steps
  more n h = (accepted (step_answer v) _ _ h, accepted (step_answer v) _ _ h)

  pub refused : (n : ℕ) (fault : VolumeFault) → named names.Step (step_answer v) ≡ Err fault → (steps_answer k v (suc n) ≡ Err fault) × (after_steps k v (suc n) ≡ v) × (after_step k v ≡ v)
  unfolding steps_answer after_steps
  refused n fault h = (told (step_answer v) _ fault h, left (step_answer v) _ v fault h, stays v.phase k v fault h)
