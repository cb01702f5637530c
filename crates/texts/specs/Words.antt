-- The words of a line.
use Rattle.std.specs.Prelude.{ℕ, Bool, true, false, cond, not, ◌||◌, List, take, drop, ◌==◌}
use Rattle.std.specs.List.{prefix_len}

-- a space, a tab or a carriage return
abbrev pub is_blank : ℕ → Bool
is_blank c = c == 32 || (c == 9 || c == 13)

-- is the byte a blank, or is it none?
abbrev pub suits : Bool → ℕ → Bool
suits blank c = cond blank (is_blank c) (not (is_blank c))

-- how many bytes at the front are blanks, or are none
abbrev pub front : Bool → List ℕ → ℕ
front blank text = prefix_len (suits blank) text

abbrev pub unindented : List ℕ → List ℕ
unindented text = drop (front true text) text

-- the first word, which is empty where there is none
abbrev pub word_of : List ℕ → List ℕ
word_of text = take (front false (unindented text)) (unindented text)

-- what stands behind it
abbrev pub after_word : List ℕ → List ℕ
after_word text = drop (front false (unindented text)) (unindented text)
