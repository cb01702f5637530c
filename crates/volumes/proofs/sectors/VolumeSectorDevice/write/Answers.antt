use Rattle.std.proofs.Common.{◌≡◌, ◌^◌, ◌<◌, length, Ok, Err, sym, ap, ◌∙◌, arith, rules}
use Rattle.devices.specs.Faults.{Answer, passed_up, by_answer}
use Rattle.devices.specs.Device.{written, answer}
use Rattle.devices.proofs.Answers.{write_refused}
use Rattle.volumes.specs.Sounds.{serving_fits}
use Rattle.volumes.specs.Volume.{view, volume_of, with_device, serving, mode_check, enciphered_by}
use Rattle.volumes.proofs.Shown.{answer_is, below, below_answers, fits, refused_closed, refused_unready, told_below, passed_on, write_meaning}
use Rattle.volumes.proofs.sectors.VolumeSectorDevice.write.Goals as goal

pub returns-in_err-check_open : goal.returns-in_err-check_open
returns-in_err-check_open g c =
    let k = g.M.WideMode.kind in
    let v = view g.D.SectorDevice.meaning g.M.WideMode.state c.args.self.now in
    let i = c.args.sector in
    let buffer = c.args.buffer.now in
    let ok = c.in_ok-admit.ensures in
    let fault = c.in_err-check_open.field-0.0 in
    let said : c.from_residual-in_err-check_open.result ≡ Err fault = search rules in
    let told : Err fault ≡ answer (volume_of k v) i (length buffer) = refused_closed k v i fault c.in_err-check_open.ensures ∙ sym (answer_is k v i (length buffer) ok) in
    record {
      call_is_answered = said ∙ told;
      sector_is_written = write_refused (volume_of k v) i buffer fault told;
      enciphered_below = ap (λ (a : Answer). by_answer a (with_device v (written v.device i (enciphered_by k (serving v i) i buffer))) v) told;
    }

pub returns-in_err-encipher : goal.returns-in_err-encipher
returns-in_err-encipher g c =
    let k = g.M.WideMode.kind in
    let v = view g.D.SectorDevice.meaning g.M.WideMode.state c.args.self.now in
    let i = c.args.sector in
    let buffer = c.args.buffer.now in
    let ok = c.in_ok-admit.ensures in
    let bytes = c.copy_from_slice.new.self in
    let fault = c.in_err-encipher.field-0.0 in
    let said : c.from_residual-in_err-encipher.result ≡ Err fault = search rules in
    let long : length bytes ≡ length buffer = ap length c.copy_from_slice.ensures.after in
    let refused : Err fault ≡ mode_check (serving v i) v.device.size i =
    c.in_err-encipher.ensures.call_is_answered ∙ ap (λ s. mode_check s (length bytes) i) c.serving.ensures ∙ ap (λ n. mode_check (serving v i) n i) (long ∙ fits k v i (length buffer) ok) in
    let told : Err fault ≡ answer (volume_of k v) i (length buffer) = refused_unready k v i c.in_ok-check_open.ensures fault refused ∙ sym (answer_is k v i (length buffer) ok) in
    record {
      call_is_answered = said ∙ told;
      sector_is_written = write_refused (volume_of k v) i buffer fault told;
      enciphered_below = ap (λ (a : Answer). by_answer a (with_device v (written v.device i (enciphered_by k (serving v i) i buffer))) v) told;
    }

pub returns : goal.returns
returns g c =
    let k = g.M.WideMode.kind in
    let v = view g.D.SectorDevice.meaning g.M.WideMode.state c.args.self.now in
    let i = c.args.sector in
    let buffer = c.args.buffer.now in
    let ok = c.in_ok-admit.ensures in
    let bytes = c.copy_from_slice.new.self in
    let mid = c.encipher.new.buffer in
    let copied : bytes ≡ buffer = c.copy_from_slice.ensures.after in
    let long : length mid ≡ length buffer = search rules in
    let ready : Ok tt ≡ mode_check (serving v i) v.device.size i =
    c.in_ok-encipher.ensures.call_is_answered ∙ ap (λ s. mode_check s (length bytes) i) c.serving.ensures ∙ ap (λ n. mode_check (serving v i) n i) (ap length copied ∙ fits k v i (length buffer) ok) in
    let open? = c.in_ok-check_open.ensures in
    let is : mid ≡ enciphered_by k (serving v i) i buffer =
    c.encipher.ensures.buffer_is_enciphered ∙ ap (λ s. enciphered_by k s i bytes) c.serving.ensures ∙ ap (enciphered_by k (serving v i) i) copied in
    let low : i < 2 ^ 32 = omega (arith, below k v i (length buffer) ok, (g.D.SectorDevice.sound c.args.self.now.device).countable) in
    let fit = serving_fits k v (g.M.WideMode.fitting c.args.self.now.current) (g.M.WideMode.fitting c.args.self.now.next) i in
    let done = ap (with_device v) c.write.ensures.sector_is_written ∙ passed_on k v i buffer mid long is ok open? ready in
    record {
      call_is_answered =
          c.pass_up.ensures
          ∙ ap passed_up (c.write.ensures.call_is_answered ∙ ap (answer v.device i) long ∙ sym (below_answers k v i (length buffer) ok))
          ∙ told_below k v i open? ready
          ∙ sym (answer_is k v i (length buffer) ok);
      sector_is_written = ap (volume_of k) done ∙ write_meaning k v i buffer fit low ok;
      enciphered_below = done;
    }
