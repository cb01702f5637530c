-- Which command a line stands for.
use Rattle.std.specs.Prelude.{◌≡◌, ◌⊎◌, IsOk, ℕ, cond, List, length, Some, None, Ok, Err, Option, Result, ◌==◌}
use Rattle.commands.specs.declared.command.Command.{Command}
use Rattle.commands.specs.declared.command.Command.TheVariants.{Image, Load, Fault, Volume, Open, Read, Write, Begin, Step, Report, Show, Save, Help}
use Rattle.commands.specs.declared.command.Wrong.{Wrong}
use Rattle.commands.specs.declared.command.Wrong.TheVariants.{NoSuchCommand, WrongWords, NotANumber, NotHexadecimal, NoSuchMode, NoSuchCipher, NoMemory}
use Rattle.commands.specs.declared.names.Verb.{Verb}
use Rattle.commands.specs.declared.names.Verb.TheVariants as verbs
use Rattle.texts.specs.Words.{word_of, after_word}
use Rattle.texts.specs.Numbers.{number_of}
use Rattle.texts.specs.Hexadecimal.{bytes_of}
use Rattle.commands.specs.Names.{verb_of, mode_of, cipher_of}

-- a line's command, or what is wrong with it
abbrev pub Reading : Type 0
Reading = Result (Command (List ℕ)) Wrong

-- a command with its bytes as lists
abbrev pub listed : {B : Type 0} → (B → List ℕ) → Command B → Command (List ℕ)
listed f (Image size bytes) = Image size (f bytes)
listed f (Load size path) = Load size (f path)
listed f (Fault sector) = Fault sector
listed f (Volume mode cipher) = Volume mode cipher
listed f (Open key) = Open (f key)
listed f (Read sector) = Read sector
listed f (Write sector bytes) = Write sector (f bytes)
listed f (Begin key) = Begin (f key)
listed f (Step count) = Step count
listed f Report = Report
listed f Show = Show
listed f (Save path) = Save (f path)
listed f Help = Help

-- a result with its value seen as another
abbrev pub reading : {X Y : Type 0} → (X → Y) → Result X Wrong → Result Y Wrong
reading f (Ok x) = Ok (f x)
reading f (Err wrong) = Err wrong

-- it reads as this, or there was no memory for what it reads as; what is wrong takes none
abbrev pub ReadAs : {X Y : Type 0} → (X → Y) → Result X Wrong → Result Y Wrong → Type 0
ReadAs f result wanted = ((result ≡ Err NoMemory) × IsOk wanted) ⊎ (reading f result ≡ wanted)

-- a word that must be a number, bytes, a mode or a cipher
abbrev pub needs : {X : Type 0} → Wrong → Option X → (X → Reading) → Reading
needs wrong None next = Err wrong
needs wrong (Some x) next = next x

-- a command with no word behind it: a step alone is one step
abbrev pub bare : Verb → Reading
bare verbs.Step = Ok (Step 1)
bare verbs.Report = Ok Report
bare verbs.Show = Ok Show
bare verbs.Help = Ok Help
bare verb = Err WrongWords

-- with one word
abbrev pub with_one : Verb → List ℕ → Reading
with_one verbs.Fault a = needs NotANumber (number_of a) (λ n. Ok (Fault n))
with_one verbs.Open a = needs NotHexadecimal (bytes_of a) (λ key. Ok (Open key))
with_one verbs.Read a = needs NotANumber (number_of a) (λ n. Ok (Read n))
with_one verbs.Begin a = needs NotHexadecimal (bytes_of a) (λ key. Ok (Begin key))
with_one verbs.Step a = needs NotANumber (number_of a) (λ n. Ok (Step n))
with_one verbs.Save a = Ok (Save a)
with_one verb a = Err WrongWords

-- with two words
abbrev pub with_two : Verb → List ℕ → List ℕ → Reading
with_two verbs.Image a b = needs NotANumber (number_of a) (λ n. needs NotHexadecimal (bytes_of b) (λ bytes. Ok (Image n bytes)))
with_two verbs.Load a b = needs NotANumber (number_of a) (λ n. Ok (Load n b))
with_two verbs.Volume a b = needs NoSuchMode (mode_of a) (λ m. needs NoSuchCipher (cipher_of b) (λ c. Ok (Volume m c)))
with_two verbs.Write a b = needs NotANumber (number_of a) (λ n. needs NotHexadecimal (bytes_of b) (λ bytes. Ok (Write n bytes)))
with_two verb a b = Err WrongWords

-- one of two where a word is empty, that is, where there is none
abbrev pub if_none : {X : Type 0} → List ℕ → X → X → X
if_none word x y = cond (length word == 0) x y

-- by the number of words, of which a third is one too many
abbrev pub with_words : Verb → List ℕ → List ℕ → List ℕ → Reading
with_words verb a b more = if_none a (bare verb) (if_none b (with_one verb a) (if_none more (with_two verb a b) (Err WrongWords)))

-- with the rest of the line behind it
abbrev pub with_rest : Verb → List ℕ → Reading
with_rest verb rest = with_words verb (word_of rest) (word_of (after_word rest)) (word_of (after_word (after_word rest)))

-- the command of a line
abbrev pub parsed : List ℕ → Reading
parsed line = needs NoSuchCommand (verb_of (word_of line)) (λ verb. with_rest verb (after_word line))
