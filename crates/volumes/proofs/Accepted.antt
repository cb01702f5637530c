-- What an accepted call of a device shows.
use Rattle.std.proofs.Common.{◌≡◌, ℕ, length, Ok, Err, refl, arith}
use Rattle.devices.specs.Faults.{Answer, checked, and_then}
use Rattle.devices.specs.Device.{DeviceMeaning, Sector, live, faulty, sector_at, standing, bytes_of, answer}

-- two checks passed, each did
pub both : (a b : Answer) → Ok tt ≡ and_then a b → (Ok tt ≡ a) × (Ok tt ≡ b)
both (Ok u) b h = (refl, h)
both (Err f) b h = let z : ◌≡◌ {A = ℕ} 0 1 = cc in absurd (omega arith)

pub lives : (x : Sector) → Ok tt ≡ standing x → x ≡ live (bytes_of x)
lives (live bytes) e = refl
lives (faulty f) e = let z : ◌≡◌ {A = ℕ} 0 1 = cc in absurd (omega arith)

-- the checks passed, and the sector is live
pub accepted : (m : DeviceMeaning) (i len : ℕ) → Ok tt ≡ answer m i len → (Ok tt ≡ checked (length m.sectors) m.size i len) × (sector_at m i ≡ live (bytes_of (sector_at m i)))
accepted m i len h =
    let p = both (checked (length m.sectors) m.size i len) (standing (sector_at m i)) h in
    (p.0, lives (sector_at m i) p.1)
