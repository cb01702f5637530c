use Rattle.std.proofs.Common.{◌≡◌, length, Ok, Err, sym, refl, ap, ◌∙◌, rules}
use Rattle.devices.specs.Faults.{Answer, passed_up, by_answer}
use Rattle.devices.specs.Device.{sector_at, bytes_of, answer}
use Rattle.devices.proofs.Answers.{read_refused, read_accepted}
use Rattle.volumes.specs.Volume.{view, volume_of, with_device, serving, mode_check, deciphered_by}
use Rattle.volumes.proofs.Shown.{answer_is, below_answers, fits, in_turn, read_is, refused_closed, refused_unready, told_below, unpassed}
use Rattle.volumes.proofs.sectors.VolumeSectorDevice.read.Goals as goal

pub returns-in_err-check_open : goal.returns-in_err-check_open
returns-in_err-check_open g c =
    let k = g.M.WideMode.kind in
    let v = view g.D.SectorDevice.meaning g.M.WideMode.state c.args.self.now in
    let i = c.args.sector in
    let buffer = c.args.buffer.now in
    let ok = c.in_ok-admit.ensures in
    let fault = c.in_err-check_open.field-0.0 in
    let said : c.from_residual-in_err-check_open.result ≡ Err fault = search rules in
    let told : Err fault ≡ answer (volume_of k v) i (length buffer) = refused_closed k v i fault c.in_err-check_open.ensures ∙ sym (answer_is k v i (length buffer) ok) in
    record { call_is_answered = said ∙ told; device_stays = refl; buffer_is_filled = read_refused (volume_of k v) i buffer fault told; volume_stays = refl }

pub returns-in_err-decipher : goal.returns-in_err-decipher
returns-in_err-decipher g c =
    let k = g.M.WideMode.kind in
    let v = view g.D.SectorDevice.meaning g.M.WideMode.state c.args.self.now in
    let i = c.args.sector in
    let buffer = c.args.buffer.now in
    let ok = c.in_ok-admit.ensures in
    let bytes = c.read-below.new.buffer in
    let fault = c.in_err-decipher.field-0.0 in
    let said : c.from_residual-in_err-decipher.result ≡ Err fault = search rules in
    let long : length bytes ≡ length buffer = search rules in
    let refused : Err fault ≡ mode_check (serving v i) v.device.size i =
    c.in_err-decipher.ensures.call_is_answered ∙ ap (λ s. mode_check s (length bytes) i) c.serving.ensures ∙ ap (λ n. mode_check (serving v i) n i) (long ∙ fits k v i (length buffer) ok) in
    let told : Err fault ≡ answer (volume_of k v) i (length buffer) = refused_unready k v i c.in_ok-check_open.ensures fault refused ∙ sym (answer_is k v i (length buffer) ok) in
    let stays = ap (with_device v) c.read-below.ensures.device_stays in
    record { call_is_answered = said ∙ told; device_stays = ap (volume_of k) stays; buffer_is_filled = read_refused (volume_of k v) i buffer fault told; volume_stays = stays }

pub returns-in_err-pass_up : goal.returns-in_err-pass_up
returns-in_err-pass_up g c =
    let k = g.M.WideMode.kind in
    let v = view g.D.SectorDevice.meaning g.M.WideMode.state c.args.self.now in
    let i = c.args.sector in
    let buffer = c.args.buffer.now in
    let ok = c.in_ok-admit.ensures in
    let bytes = c.read-below.new.buffer in
    let fault = c.in_err-pass_up.field-0.0 in
    let said : c.from_residual-in_err-pass_up.result ≡ Err fault = search rules in
    let long : length bytes ≡ length buffer = search rules in
    let ready : Ok tt ≡ mode_check (serving v i) v.device.size i =
    c.in_ok-decipher.ensures.call_is_answered ∙ ap (λ s. mode_check s (length bytes) i) c.serving.ensures ∙ ap (λ n. mode_check (serving v i) n i) (long ∙ fits k v i (length buffer) ok) in
    let below : c.read-below.result ≡ answer v.device i (length buffer) = c.read-below.ensures.call_is_answered ∙ ap (answer v.device i) (search rules) in
    let told : Err fault ≡ answer (volume_of k v) i (length buffer) =
    c.in_err-pass_up.ensures
    ∙ ap passed_up (below ∙ sym (below_answers k v i (length buffer) ok))
    ∙ told_below k v i c.in_ok-check_open.ensures ready
    ∙ sym (answer_is k v i (length buffer) ok) in
    let stays = ap (with_device v) c.read-below.ensures.device_stays in
    record { call_is_answered = said ∙ told; device_stays = ap (volume_of k) stays; buffer_is_filled = read_refused (volume_of k v) i buffer fault told; volume_stays = stays }

pub returns : goal.returns
returns g c =
    let k = g.M.WideMode.kind in
    let v = view g.D.SectorDevice.meaning g.M.WideMode.state c.args.self.now in
    let i = c.args.sector in
    let buffer = c.args.buffer.now in
    let ok = c.in_ok-admit.ensures in
    let bytes = c.read-below.new.buffer in
    let long : length bytes ≡ length buffer = search rules in
    let ready : Ok tt ≡ mode_check (serving v i) v.device.size i =
    c.in_ok-decipher.ensures.call_is_answered ∙ ap (λ s. mode_check s (length bytes) i) c.serving.ensures ∙ ap (λ n. mode_check (serving v i) n i) (long ∙ fits k v i (length buffer) ok) in
    let done : Ok tt ≡ c.read-below.result = unpassed c.read-below.result c.in_ok-pass_up.ensures in
    let below : c.read-below.result ≡ answer v.device i (length buffer) = c.read-below.ensures.call_is_answered ∙ ap (answer v.device i) (search rules) in
    let all : Ok tt ≡ in_turn k v i =
    c.in_ok-pass_up.ensures ∙ ap passed_up (below ∙ sym (below_answers k v i (length buffer) ok)) ∙ told_below k v i c.in_ok-check_open.ensures ready in
    let stays = ap (with_device v) c.read-below.ensures.device_stays in
    record {
      call_is_answered = all ∙ sym (answer_is k v i (length buffer) ok);
      device_stays = ap (volume_of k) stays;
      buffer_is_filled =
          c.copy_from_slice.ensures.after
          ∙ c.decipher.ensures.buffer_is_deciphered
          ∙ ap (λ s. deciphered_by k s i bytes) c.serving.ensures
          ∙ ap (deciphered_by k (serving v i) i) (c.read-below.ensures.buffer_is_filled ∙ sym (read_accepted v.device i _ (done ∙ c.read-below.ensures.call_is_answered)))
          ∙ ap (λ (a : Answer). by_answer a (deciphered_by k (serving v i) i (bytes_of (sector_at v.device i))) buffer) all
          ∙ sym (read_is k v i buffer ok);
      volume_stays = stays;
    }
