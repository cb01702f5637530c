-- A device whose every sector has the same standing fault.
use Rattle.std.specs.Prelude.{ℕ, min}
use Rattle.std.proofs.Common.{arith}
use Rattle.devices.specs.declared.fault.Fault.{Fault}
use Rattle.devices.specs.Device.{DeviceMeaning, Sound, faulty, device_of}
use Rattle.devices.proofs.Sectors.{sound_of}

-- so many sectors of one byte, all faulty
abbrev pub broken_of : ℕ → Fault → DeviceMeaning
broken_of count f = device_of 1 (min count 4294967295) (λ _. faulty f)

pub sounds : (count : ℕ) (f : Fault) → Sound (broken_of count f)
sounds count f = sound_of 1 (min count 4294967295) (λ _. faulty f) (omega arith) (omega arith) (omega arith) (λ _ _. tt)
