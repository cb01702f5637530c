use Rattle.std.proofs.Common.{ap, ◌∙◌}
use Rattle.volumes.specs.Volume.{mode_answer}
use Rattle.volumes.proofs.Serving.{answer_is, deciphered_is}
use Rattle.volumes.proofs.serve.decipher.Goals as goal

pub returns : goal.returns
returns g c =
    let s = g.M.WideMode.state c.args.mode.now in
    let i = c.args.sector in
    let bytes = c.args.buffer.now in
    record {
      call_is_answered = c.sector_answer.ensures ∙ ap (λ r. mode_answer r i) c.decipher.ensures.answer ∙ answer_is s bytes i;
      buffer_is_deciphered = c.decipher.ensures.buffer_is_deciphered ∙ deciphered_is g.M.WideMode.kind i bytes c.holds_bytes.ensures s;
    }
