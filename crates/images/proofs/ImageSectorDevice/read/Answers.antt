use Rattle.std.proofs.Common.{◌*◌, length, take, drop, refl, ap, ◌∙◌, arith}
use Rattle.images.specs.Image.{size_of}
use Rattle.images.specs.Sounds.{inside}
use Rattle.images.proofs.Slices.{below, fits, accepted, reads}
use Rattle.images.proofs.ImageSectorDevice.read.Goals as goal

pub copy_out-requires : goal.copy_out-requires
copy_out-requires c =
    let k = size_of c.args.self.now.wanted in
    let bytes = c.args.self.now.bytes.now in
    let s = c.args.sector in
    let len = length c.args.buffer.now in
    let ok = c.in_ok-admit.ensures in
    omega (arith, c.start.ensures, inside k bytes s (below k bytes s len ok), fits k bytes s len ok)

pub returns : goal.returns
returns c =
    let k = size_of c.args.self.now.wanted in
    let bytes = c.args.self.now.bytes.now in
    let s = c.args.sector in
    let buffer = c.args.buffer.now in
    let len = length buffer in
    let ok = c.in_ok-admit.ensures in
    record {
      call_is_answered = accepted k bytes s len ok;
      device_stays = refl;
      buffer_is_filled =
          c.copy_out.ensures
          ∙ ap (λ n. take len (drop n bytes)) c.start.ensures
          ∙ ap (λ n. take n (drop (s * k) bytes)) (fits k bytes s len ok)
          ∙ reads k bytes s buffer ok;
      bytes_stay = refl;
      size_stays = refl;
      same_loan = refl;
    }
