-- The text of an answer.
use Rattle.std.specs.Prelude.{ℕ, List, ◌++◌, codes, decimal}
use Rattle.commands.specs.declared.answer.Answer.{Answer}
use Rattle.commands.specs.declared.answer.Answer.TheVariants.{Done, Bytes, Refused, Faulted, Reported, Wrong, Help}
use Rattle.commands.specs.declared.command.Wrong as wrong
use Rattle.commands.specs.declared.command.Wrong.TheVariants.{NoSuchCommand, WrongWords, NotANumber, NotHexadecimal, NoSuchMode, NoSuchCipher, NoImage, NoVolume, FaultAfterVolume, NoSuchFile, NotSaved, NoMemory}
use Rattle.texts.specs.Hexadecimal.{written}
use Rattle.commands.specs.Names.{call_word}

abbrev pub wrong_text : wrong.Wrong → List ℕ
wrong_text NoSuchCommand = codes "no such command; try help"
wrong_text WrongWords = codes "too few words or too many"
wrong_text NotANumber = codes "not a number below 4294967296"
wrong_text NotHexadecimal = codes "not bytes in hexadecimal"
wrong_text NoSuchMode = codes "the modes are tet and heh"
wrong_text NoSuchCipher = codes "the ciphers are aes-128, xtea, mask-1, mask-8 and mask-16"
wrong_text NoImage = codes "there is no image"
wrong_text NoVolume = codes "there is no volume"
wrong_text FaultAfterVolume = codes "faults come before the volume"
wrong_text NoSuchFile = codes "the file cannot be read"
wrong_text NotSaved = codes "the file cannot be written"
wrong_text NoMemory = codes "there is not enough memory"

abbrev pub help_text : List ℕ
help_text = codes "image SIZE HEX; load SIZE PATH; fault N; volume tet|heh aes-128|xtea|mask-1|mask-8|mask-16; open KEY; read N; write N HEX; begin KEY; step [COUNT]; report; show; save PATH; help"

abbrev pub bytes_text : List ℕ → List ℕ
bytes_text bytes = codes "ok " ++ written bytes

abbrev pub text_of : {B : Type 0} → (B → List ℕ) → Answer B → List ℕ
text_of f Done = codes "ok"
text_of f (Bytes bytes) = bytes_text (f bytes)
text_of f (Refused call number) = codes "refused " ++ (call_word call ++ (codes " " ++ decimal number))
text_of f (Faulted number sector depth) = codes "fault " ++ (decimal number ++ (codes " sector " ++ (decimal sector ++ (codes " depth " ++ decimal depth))))
text_of f (Reported phase mark) = codes "report " ++ (decimal phase ++ (codes " " ++ decimal mark))
text_of f (Wrong w) = codes "? " ++ wrong_text w
text_of f Help = help_text
