use Rattle.std.proofs.Common.{slice_index, rules, ap, ◌∙◌}
use Rattle.aes.specs.Aes.{add_round_key}
use Rattle.aes.specs.Columns.{mixed, state}
use Rattle.aes.proofs.Rounds.{each_back, inv_mixed_shifted}
use Rattle.aes.proofs.States.{same_state}
use Rattle.aes.proofs.columns.Columns.inv_round.Goals as goal

pub returns : goal.returns
returns c =
    let table = c.inv_round-table.result.now in
    let s = state c.args.self in
    c.add_round_key.ensures ∙ ap (add_round_key c.args.key.now 0)
    (same_state _ (each_back (mixed (slice_index table)) s) (search rules) (search rules) (search rules) (search rules) ∙ inv_mixed_shifted table s c.inv_round-table.ensures)
