-- The fixed words of the language.
use Rattle.std.specs.Prelude.{ℕ, cond, List, Some, None, codes, Option}
use Rattle.std.specs.Str.{bytes_eq}
use Rattle.commands.specs.declared.names.Verb.{Verb}
use Rattle.commands.specs.declared.names.Verb.TheVariants as verbs
use Rattle.records.specs.declared.Mode.{Mode}
use Rattle.records.specs.declared.Mode.TheVariants.{Tet, Heh}
use Rattle.records.specs.declared.Cipher.{Cipher}
use Rattle.records.specs.declared.Cipher.TheVariants.{Aes128, Xtea, Mask1, Mask8, Mask16}
use Rattle.commands.specs.declared.names.CallWord.{CallWord}
use Rattle.commands.specs.declared.names.CallWord.TheVariants as calls

-- one answer where the word is this name, else another
abbrev pub named : {X : Type 0} → List ℕ → List ℕ → X → Option X → Option X
named word name x other = cond (bytes_eq word name) (Some x) other

abbrev pub verb_of : List ℕ → Option Verb
verb_of word =
    named word (codes "image") verbs.Image
    (named word (codes "load") verbs.Load
    (named word (codes "fault") verbs.Fault
    (named word (codes "volume") verbs.Volume
    (named word (codes "open") verbs.Open
    (named word (codes "read") verbs.Read
    (named word (codes "write") verbs.Write
    (named word (codes "begin") verbs.Begin
    (named word (codes "step") verbs.Step
    (named word (codes "report") verbs.Report
    (named word (codes "show") verbs.Show
    (named word (codes "save") verbs.Save
    (named word (codes "help") verbs.Help None))))))))))))

abbrev pub mode_of : List ℕ → Option Mode
mode_of word = named word (codes "tet") Tet (named word (codes "heh") Heh None)

abbrev pub cipher_of : List ℕ → Option Cipher
cipher_of word =
    named word (codes "aes-128") Aes128
    (named word (codes "xtea") Xtea
    (named word (codes "mask-1") Mask1
    (named word (codes "mask-8") Mask8
    (named word (codes "mask-16") Mask16 None))))

abbrev pub call_word : CallWord → List ℕ
call_word calls.Fault = codes "fault"
call_word calls.Open = codes "open"
call_word calls.Begin = codes "begin"
call_word calls.Step = codes "step"
