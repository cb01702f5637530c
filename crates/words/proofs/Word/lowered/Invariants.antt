use Rattle.std.proofs.Common.{◌≡◌, ◌/◌, ◌^◌}
use Rattle.words.proofs.Word.lowered.Given as goal

abbrev pub invariant-loop : goal.invariant-loop
invariant-loop g l = g.Self.Word.value l.low ≡ g.Self.Word.value l.fn.self / 2 ^ l.counter
