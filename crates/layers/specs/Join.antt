-- Two devices end to end.
use Rattle.std.specs.Prelude.{ℕ, ◌+◌, ◌-◌, min, cond, List, length, ◌==◌, nat_lt}
use Rattle.devices.specs.Faults.{Answer}
use Rattle.devices.specs.Device.{DeviceMeaning, Sector, sector_at, shown, written_if, device_of}

-- how many sectors a second device adds: none where its sectors have another size
abbrev pub added : DeviceMeaning → DeviceMeaning → ℕ
added first second = cond (first.size == second.size) (length second.sectors) 0

-- how many sectors a join has, up to the greatest count
abbrev pub join_count : DeviceMeaning → DeviceMeaning → ℕ
join_count first second = min (length first.sectors + added first second) 4294967295

-- a sector of the first device, or of the second past the end of the first
abbrev pub join_sector : DeviceMeaning → DeviceMeaning → ℕ → Sector
join_sector first second sector =
    cond (nat_lt sector (length first.sectors)) (shown (sector_at first sector)) (shown (sector_at second (sector - length first.sectors)))

-- the join of two devices
abbrev pub join_of : DeviceMeaning → DeviceMeaning → DeviceMeaning
join_of first second = device_of first.size (join_count first second) (join_sector first second)

-- the first device after a write to the join that was so answered
abbrev pub first_after : Answer → DeviceMeaning → ℕ → List ℕ → DeviceMeaning
first_after call first sector buffer = cond (nat_lt sector (length first.sectors)) (written_if call first sector buffer) first

-- the second device after it
abbrev pub second_after : Answer → DeviceMeaning → DeviceMeaning → ℕ → List ℕ → DeviceMeaning
second_after call first second sector buffer =
    cond (nat_lt sector (length first.sectors)) second (written_if call second (sector - length first.sectors) buffer)
