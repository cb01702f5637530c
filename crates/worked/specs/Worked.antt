-- Cases worked by hand, each an equation about the definitions.
use Rattle.std.specs.Prelude.{◌≡◌, List, [], ◌∷◌, ◌++◌, replicate, Some, None, Ok, Err}
use Rattle.polynomials.specs.Inverse.{inverse}
use Rattle.rings.specs.Rings.{ring1, ring8}
use Rattle.ciphers.specs.Kinds.{mask}
use Rattle.modes.specs.declared.ModeFault.TheVariants.{NoInverse}
use Rattle.tet_theory.specs.State.{refusal}
use Rattle.tet_theory.specs.Tet as tet
use Rattle.tet.specs.Kind.{kind_over}
use Rattle.heh_theory.specs.Heh as heh
use Rattle.images.specs.Image.{image_of}
use Rattle.modes.specs.Mode.{ModeKind}
use Rattle.volumes.specs.declared.fault.CallName.TheVariants.{Step}
use Rattle.volumes.specs.declared.fault.Refusal.TheVariants.{NoSweep}
use Rattle.volumes.specs.Volume.{VolumeModel, fresh}
use Rattle.runs.specs.History.{reads, steps}
use Rattle.runs.specs.Runs.{Call, opening, reading, writing, beginning, stepping, event, run}
use Rattle.jobs.specs.Answers.{answer}

-- the ring of one byte
pub record ByteRing : Type 0 where
  pub product : ring1.product 0x57 0x83 ≡ 0xC1
  pub inverse : ring1.inverse 0x02 ≡ Some 0x8D
  pub zero : ring1.inverse 0x00 ≡ None

-- a modulus that is not irreducible: x^8 + 1 = (x + 1)^8
pub record Reducible : Type 0 where
  pub unit : inverse 8 0x01 0x02 ≡ Some 0x80
  pub divisor : inverse 8 0x01 0x03 ≡ None

-- TET with the mask
pub record Tet : Type 0 where
  -- w = 1, key 01 10, no tweak: 57 gives 5B
  pub byte : tet.encipher (mask ring1) (0x01 ∷ 0x10 ∷ []) 1 [] (0x57 ∷ []) ≡ 0x5B ∷ []
  -- w = 1, key F6 10: size 1 is refused, since σ has no inverse; size 2, tweak 00: 01 02 gives 11 12
  pub keyless : refusal (mask ring1) (0xF6 ∷ 0x10 ∷ []) 1 ≡ Some NoInverse
  pub pair : tet.encipher (mask ring1) (0xF6 ∷ 0x10 ∷ []) 2 (0x00 ∷ []) (0x01 ∷ 0x02 ∷ []) ≡ 0x11 ∷ 0x12 ∷ []
  -- w = 8, K1 0000000000000001, K2 zero, sector 0: 0000000000000002 00 gives 80C000000000000D 00
  pub tailed :
      (kind_over (mask ring8)).encipher (0 ∷ 0 ∷ 0 ∷ 0 ∷ 0 ∷ 0 ∷ 0 ∷ 1 ∷ 0 ∷ 0 ∷ 0 ∷ 0 ∷ 0 ∷ 0 ∷ 0 ∷ 0 ∷ []) 9 0 (0 ∷ 0 ∷ 0 ∷ 0 ∷ 0 ∷ 0 ∷ 0 ∷ 2 ∷ 0 ∷ [])
      ≡ 0x80 ∷ 0xC0 ∷ 0 ∷ 0 ∷ 0 ∷ 0 ∷ 0 ∷ 0x0D ∷ 0 ∷ []
  -- w = 8, both keys zero, 15 zero bytes: without a tweak they give 8000000000000100 80000000000001, under a tweak of 8 zero bytes
  -- they stay
  pub untweaked :
      tet.encipher (mask ring8) (replicate 16 0) 15 [] (replicate 15 0) ≡ 0x80 ∷ 0 ∷ 0 ∷ 0 ∷ 0 ∷ 0 ∷ 1 ∷ 0 ∷ 0x80 ∷ 0 ∷ 0 ∷ 0 ∷ 0 ∷ 0 ∷ 1 ∷ []
  pub tweaked : tet.encipher (mask ring8) (replicate 16 0) 15 (replicate 8 0) (replicate 15 0) ≡ replicate 15 0

-- HEH with the mask, w = 1, key 01, tweak 05: 01 02 gives 40 23
pub record Heh : Type 0 where
  pub pair : heh.encipher (mask ring1) (0x01 ∷ []) 2 (0x05 ∷ []) (0x01 ∷ 0x02 ∷ []) ≡ 0x40 ∷ 0x23 ∷ []

-- a volume with TET and the mask of one byte, on an image 00 00 00 with sectors of one byte, after these calls
abbrev pub tet_byte : ModeKind
tet_byte = kind_over (mask ring1)

abbrev pub volume_after : List Call → VolumeModel
volume_after calls = run tet_byte (fresh (image_of 1 (0 ∷ 0 ∷ 0 ∷ [])) None None) calls

-- opened with 01 10, 57 written to sector 1
abbrev pub opened : List Call
opened = opening (0x01 ∷ 0x10 ∷ []) ∷ writing 1 (0x57 ∷ []) ∷ []

-- then the key change to 02 10 begun, one step, 01 written to sector 0
abbrev pub begun : List Call
begun = opened ++ (beginning (0x02 ∷ 0x10 ∷ []) ∷ stepping ∷ [])

abbrev pub rewritten : List Call
rewritten = begun ++ (writing 0 (0x01 ∷ []) ∷ [])

-- then two steps more, which end it
abbrev pub swept : List Call
swept = rewritten ++ (stepping ∷ stepping ∷ [])

pub record Volume : Type 0 where
  pub after_write : (volume_after opened).device ≡ image_of 1 (0x00 ∷ 0x5B ∷ 0x00 ∷ [])
  pub after_step : (volume_after begun).device ≡ image_of 1 (0xA8 ∷ 0x5B ∷ 0x00 ∷ [])
  pub below_the_mark : (volume_after rewritten).device ≡ image_of 1 (0x94 ∷ 0x5B ∷ 0x00 ∷ [])
  pub at_the_mark : event tet_byte (volume_after rewritten) (reading 1 1) ≡ reads 1 1 (Ok (0x57 ∷ []))
  pub after_sweep : (volume_after swept).device ≡ image_of 1 (0x94 ∷ 0xC6 ∷ 0xA8 ∷ [])
  pub unwritten : event tet_byte (volume_after swept) (reading 2 1) ≡ reads 2 1 (Ok (0x20 ∷ []))
  pub no_step_more : event tet_byte (volume_after swept) stepping ≡ steps (Err (record { call = Step; refusal = NoSweep }))

-- jobs
pub record Job : Type 0 where
  -- TET, the mask with w = 1, key 01 10, sector 57: the sector 5B
  pub byte : answer (0x2A ∷ 0x03 ∷ 0x00 ∷ 0x02 ∷ 0x01 ∷ 0x10 ∷ 0x00 ∷ 0x01 ∷ 0x57 ∷ []) ≡ 0x02 ∷ 0x00 ∷ 0x01 ∷ 0x5B ∷ []
  -- all six fields, and the way back
  pub back :
      answer (0x3F ∷ 0x01 ∷ 0x03 ∷ 0x01 ∷ 0x00 ∷ 0x02 ∷ 0x01 ∷ 0x10 ∷ 0x00 ∷ 0x00 ∷ 0x00 ∷ 0x01 ∷ 0x5B ∷ []) ≡ 0x02 ∷ 0x00 ∷ 0x01 ∷ 0x57 ∷ []
  -- one byte more is too long; a key of one byte is refused
  pub long : answer (0x2A ∷ 0x03 ∷ 0x00 ∷ 0x02 ∷ 0x01 ∷ 0x10 ∷ 0x00 ∷ 0x01 ∷ 0x57 ∷ 0x00 ∷ []) ≡ 0x01 ∷ 13 ∷ []
  pub keyless : answer (0x2A ∷ 0x03 ∷ 0x00 ∷ 0x01 ∷ 0x01 ∷ 0x00 ∷ 0x01 ∷ 0x57 ∷ []) ≡ 0x01 ∷ 5 ∷ []

pub record Worked : Type 0 where
  pub byte_ring : ByteRing
  pub reducible : Reducible
  pub in_tet : Tet
  pub in_heh : Heh
  pub of_volume : Volume
  pub in_jobs : Job
