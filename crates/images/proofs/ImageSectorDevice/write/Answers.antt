use Rattle.std.proofs.Common.{◌*◌, length, ap, ◌∙◌, arith}
use borrow.Rule.Slice.PartMut.{put_mid}
use Rattle.images.specs.Image.{size_of, cut}
use Rattle.images.specs.Sounds.{inside}
use Rattle.images.proofs.Slices.{below, fits, accepted, writes, stores}
use Rattle.images.proofs.ImageSectorDevice.write.Goals as goal

pub copy_in-requires : goal.copy_in-requires
copy_in-requires c =
    let k = size_of c.args.self.now.wanted in
    let bytes = c.args.self.now.bytes.now in
    let s = c.args.sector in
    let len = length c.args.buffer.now in
    let ok = c.in_ok-admit.ensures in
    omega (arith, c.start.ensures, inside k bytes s (below k bytes s len ok), fits k bytes s len ok)

pub returns : goal.returns
returns c =
    let k = size_of c.args.self.now.wanted in
    let bytes = c.args.self.now.bytes.now in
    let s = c.args.sector in
    let buffer = c.args.buffer.now in
    let ok = c.in_ok-admit.ensures in
    let put = c.copy_in.ensures in
    let after = c.copy_in.new.self.bytes.now in
    let is =
    put.bytes_are_put
    ∙ ap (λ n. put_mid n (length buffer) bytes buffer) c.start.ensures
    ∙ ap (λ n. put_mid (s * k) n bytes buffer) (fits k bytes s (length buffer) ok)
    in
    record {
      call_is_answered = accepted k bytes s (length buffer) ok;
      sector_is_written =
          ap (λ n. cut (size_of n) after) put.size_stays ∙ writes k bytes s buffer ok after put.length_stays is;
      bytes_are_written = stores k bytes s buffer ok after put.length_stays is;
      size_stays = put.size_stays;
      same_loan = put.same_loan;
    }
