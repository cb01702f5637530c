-- Bytes as a row of sectors.
use Rattle.std.specs.Prelude.{ℕ, ◌+◌, ◌*◌, ◌/◌, min, max, List, ◌++◌, length, take, drop}
use Rattle.devices.specs.Faults.{by_answer}
use Rattle.devices.specs.Device.{DeviceMeaning, live, answer, device_of}

-- the size of a sector, from the size that is wanted
abbrev pub size_of : ℕ → ℕ
size_of wanted = max 1 (min wanted 4096)

-- how many whole sectors the bytes give
abbrev pub count_of : ℕ → List ℕ → ℕ
count_of size bytes = min (length bytes / size) 4294967295

-- the bytes of one sector
abbrev pub slice : ℕ → List ℕ → ℕ → List ℕ
slice size bytes sector = take size (drop (sector * size) bytes)

-- the bytes cut into sectors of a size
abbrev pub cut : ℕ → List ℕ → DeviceMeaning
cut size bytes = device_of size (count_of size bytes) (λ sector. live (slice size bytes sector))

-- the device over the bytes, at the size that is wanted
abbrev pub image_of : ℕ → List ℕ → DeviceMeaning
image_of wanted bytes = cut (size_of wanted) bytes

-- the bytes with others in the place of one sector
abbrev pub placed : ℕ → List ℕ → ℕ → List ℕ → List ℕ
placed size bytes sector buffer = take (sector * size) bytes ++ buffer ++ drop (sector * size + size) bytes

-- all the bytes after a write
abbrev pub stored_of : ℕ → List ℕ → ℕ → List ℕ → List ℕ
stored_of wanted bytes sector buffer = by_answer (answer (image_of wanted bytes) sector (length buffer)) (placed (size_of wanted) bytes sector buffer) bytes
