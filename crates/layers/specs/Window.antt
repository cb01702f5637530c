-- A part of a device.
use Rattle.std.specs.Prelude.{ℕ, ◌+◌, ◌-◌, min, length}
use Rattle.devices.specs.Device.{DeviceMeaning, Sector, sector_at, shown, device_of}

-- how many sectors a window shows: none from a start at or past the end
abbrev pub window_count : ℕ → ℕ → DeviceMeaning → ℕ
window_count start wanted m = min wanted (length m.sectors - start)

-- the sectors of a device from a start on
abbrev pub window_sector : ℕ → DeviceMeaning → ℕ → Sector
window_sector start m sector = shown (sector_at m (start + sector))

-- the window on a device
abbrev pub window_of : ℕ → ℕ → DeviceMeaning → DeviceMeaning
window_of start wanted m = device_of m.size (window_count start wanted m) (window_sector start m)
