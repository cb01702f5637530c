use Rattle.std.proofs.Common.{ap, ◌∙◌}
use Rattle.volumes.specs.Volume.{mode_answer}
use Rattle.volumes.proofs.Serving.{answer_is, enciphered_is}
use Rattle.volumes.proofs.serve.encipher.Goals as goal

pub returns : goal.returns
returns g c =
    let s = g.M.WideMode.state c.args.mode.now in
    let i = c.args.sector in
    let bytes = c.args.buffer.now in
    record {
      call_is_answered = c.sector_answer.ensures ∙ ap (λ r. mode_answer r i) c.encipher.ensures.answer ∙ answer_is s bytes i;
      buffer_is_enciphered = c.encipher.ensures.buffer_is_enciphered ∙ enciphered_is g.M.WideMode.kind i bytes c.holds_bytes.ensures s;
    }
