-- A device some of whose sectors are held in a fault list.
use Rattle.std.specs.Prelude.{ℕ, cond, List, length}
use Rattle.devices.specs.declared.fault.Reason.TheVariants.{Listed}
use Rattle.devices.specs.Faults.{own}
use Rattle.devices.specs.Device.{DeviceMeaning, Sector, faulty, sector_at, shown, device_of}
use Rattle.fault_lists.specs.Held.{is_held}

-- a sector that is held has a fault of the list's own, before any from below
abbrev pub list_sector : List ℕ → DeviceMeaning → ℕ → Sector
list_sector held m sector = cond (is_held held sector) (faulty (own Listed sector)) (shown (sector_at m sector))

-- the fault list over a device
abbrev pub fault_list_of : List ℕ → DeviceMeaning → DeviceMeaning
fault_list_of held m = device_of m.size (length m.sectors) (list_sector held m)
