-- An image is a sound device.
use Rattle.std.specs.Prelude.{ℕ, suc, ◌+◌, ◌*◌, ◌/◌, ◌<◌, ◌≤◌, List, length, drop}
use Rattle.std.proofs.Common.{arith, suc-mul, mul-le-mul_right, div-mul-le_self}
use Rattle.std.proofs.lemmas.List.{length-take-le, length-drop}
use Rattle.devices.specs.Device.{Sound, live}
use Rattle.devices.proofs.Sectors.{sound_of}
use Rattle.images.specs.Image.{size_of, count_of, slice, cut, image_of}

module _ (size : ℕ) (bytes : List ℕ) where
  pub inside : (i : ℕ) → i < count_of size bytes → i * size + size ≤ length bytes
  inside i h =
      let p : suc i ≤ length bytes / size = omega arith in
      omega (arith, suc-mul i size, mul-le-mul_right size p, div-mul-le_self (length bytes) size)

  sound_at : 1 ≤ size → size ≤ 4096 → Sound (cut size bytes)
  sound_at a b =
      sound_of size (count_of size bytes) (λ sector. live (slice size bytes sector)) a b (omega arith)
      (λ i h. length-take-le size (drop (i * size) bytes) (omega (arith, inside i h, length-drop (i * size) bytes)))

pub sounds : (wanted : ℕ) (bytes : List ℕ) → Sound (image_of wanted bytes)
sounds wanted bytes = sound_at (size_of wanted) bytes (omega arith) (omega arith)
