use Rattle.std.proofs.Common.{◌∙◌, ap}
use Rattle.rings.specs.Blocks.{bytes_of}
use Rattle.tet.proofs.Bytes.{bytes_high_first_is}
use Rattle.tet.proofs.tweak_of.Goals as goal

pub returns : goal.returns
returns c = c.to_be_bytes.ensures ∙ bytes_high_first_is 8 c.from.result ∙ ap (bytes_of 8) c.from.ensures
