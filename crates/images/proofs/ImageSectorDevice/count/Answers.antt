use Rattle.std.proofs.Common.{◌/◌, min, length, sym, ap, ◌∙◌}
use Rattle.images.specs.Image.{size_of}
use Rattle.images.proofs.Slices.{capped, count_is}
use Rattle.images.proofs.ImageSectorDevice.count.Goals as goal

pub returns : goal.returns
returns c =
    let bytes = c.args.self.now.bytes.now in
    c.unwrap_or.ensures
    ∙ capped c.try_from.result _ c.try_from.ensures
    ∙ ap (λ n. min (length bytes / n) 4294967295) c.sector_size-size.ensures
    ∙ sym (count_is (size_of c.args.self.now.wanted) bytes)
