-- A broken device refuses every call.
use Rattle.std.proofs.Common.{◌≡◌, ℕ, ◌<◌, min, length, Ok, Err, sym, ap, ◌∙◌, arith}
use Rattle.devices.specs.declared.fault.Fault.{Fault}
use Rattle.devices.specs.Faults.{checked}
use Rattle.devices.specs.Device.{faulty, standing, answer}
use Rattle.devices.proofs.Answers.{allows, stands}
use Rattle.devices.proofs.Sectors.{sectors_counted, sector_of}
use Rattle.piles.specs.Broken.{broken_of}

pub count_is : (count : ℕ) (f : Fault) → length (broken_of count f).sectors ≡ min count 4294967295
count_is count f = sectors_counted 1 (min count 4294967295) (λ _. faulty f)

pub refuses : (count : ℕ) (f : Fault) (s len : ℕ) → Ok tt ≡ checked (length (broken_of count f).sectors) 1 s len → Err f ≡ answer (broken_of count f) s len
refuses count f s len ok =
    let below : s < min count 4294967295 = omega (arith, (allows _ _ s len ok).below, count_is count f) in
    ap standing (sym (sector_of 1 (min count 4294967295) (λ _. faulty f) s below)) ∙ stands (broken_of count f) s len ok
