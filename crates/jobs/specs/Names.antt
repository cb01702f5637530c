-- What the names of a record mean.
use Rattle.rings.specs.Rings.{ring1, ring8, ring16}
use Rattle.ciphers.specs.Cipher.{CipherKind}
use Rattle.ciphers.specs.Kinds.{aes128, xtea, mask}
use Rattle.records.specs.declared.Mode.{Mode}
use Rattle.records.specs.declared.Mode.TheVariants.{Tet, Heh}
use Rattle.records.specs.declared.Cipher.{Cipher}
use Rattle.records.specs.declared.Cipher.TheVariants.{Aes128, Xtea, Mask1, Mask8, Mask16}
use Rattle.tweak_modes.specs.Kinds.{tet_over, heh_over}
use Rattle.tweak_modes.specs.Tweaked.{TweakKind}

-- the cipher of a name
abbrev pub cipher_of : Cipher → CipherKind
cipher_of Aes128 = aes128
cipher_of Xtea = xtea
cipher_of Mask1 = mask ring1
cipher_of Mask8 = mask ring8
cipher_of Mask16 = mask ring16

-- the mode of a name, over a cipher
abbrev pub mode_over : Mode → CipherKind → TweakKind
mode_over Tet k = tet_over k
mode_over Heh k = heh_over k
