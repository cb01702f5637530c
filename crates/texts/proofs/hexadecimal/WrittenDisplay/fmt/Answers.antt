use Rattle.std.proofs.Common.{[], get_or, take, ap, sym, refl, ◌∙◌}
use Rattle.std.proofs.Output.{has_written_append, has_written_of_eq}
use Rattle.std.proofs.lemmas.List.{take_more, flat_map_more}
use Rattle.std.specs.List.{flat_map}
use Rattle.texts.specs.Hexadecimal.{two_digits}
use Rattle.texts.proofs.hexadecimal.WrittenDisplay.fmt.Goals as goal

pub loop-byte-preserved : goal.loop-byte-preserved
loop-byte-preserved g c = λ p.
    let bytes = c.args.self.now.0.now in
    let i = c.loop-byte.byte-index in
    let before = c.loop-byte.invariant p in
    let high = has_written_of_eq _ _ _ _ _ c.digit.ensures (c.in_ok-write_str.ensures.writes before.plain refl) in
    let low = has_written_of_eq _ _ _ _ _ c.digit-in-loop-byte.ensures (c.in_ok-write_str-2.ensures.writes high.plain refl) in
    has_written_of_eq _ _ _ _ _
    (flat_map_more two_digits [] (take i bytes) (get_or bytes i 0) ∙ ap (flat_map two_digits) (sym (take_more bytes i 0 c.loop-byte-test.true)))
    (has_written_append _ _ _ _ _ _ before (has_written_append _ _ _ _ _ _ high low))
