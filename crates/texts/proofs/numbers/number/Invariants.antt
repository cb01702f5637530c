use Rattle.std.proofs.Common.{◌≡◌, drop}
use Rattle.texts.specs.Numbers.{read_on}
use Rattle.texts.proofs.numbers.number.Given as goal

abbrev pub invariant-loop-c : goal.invariant-loop-c
invariant-loop-c l = read_on 0 l.word ≡ read_on l.value (drop l.c-index l.word)
