-- What a report tells of a phase.
use Rattle.std.specs.Prelude.{ℕ}
use Rattle.volumes.specs.declared.phase.Phase.{Phase}
use Rattle.volumes.specs.declared.phase.Phase.TheVariants.{Closed, Open, Sweeping}

-- the number of each phase
abbrev pub phase_number : Phase → ℕ
phase_number Closed = 0
phase_number Open = 1
phase_number (Sweeping mark) = 2

-- the mark of a sweep, 0 unless sweeping
abbrev pub phase_mark : Phase → ℕ
phase_mark Closed = 0
phase_mark Open = 0
phase_mark (Sweeping mark) = mark
