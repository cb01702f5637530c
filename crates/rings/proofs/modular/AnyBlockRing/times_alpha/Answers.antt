use Rattle.std.proofs.Common.{◌%◌, ◌^◌, sym, ap, ◌∙◌, mod-lt, pow_pos}
use Rattle.num_traits.specs.Laws.{bit_len}
use Rattle.words.specs.Widths.{bits_some}
use Rattle.polynomials.specs.Polynomial.{product}
use Rattle.polynomials.proofs.Quotient.{product_alpha}
use Rattle.rings.proofs.modular.AnyBlockRing.times_alpha.Goals as goal

pub returns : goal.returns
returns g c =
    let word = g.T.FixedWidth in
    let n = bit_len word.width in
    let low = word.bits_of c.LOW.result in
    let a = word.bits_of c.args.self in
    c.xtime.ensures
    ∙ sym (g.met.T.Modulus.product_is 2 (a % 2 ^ n) ∙ ap (λ r. product n (word.bits_of r % 2 ^ n) 2 (a % 2 ^ n)) (sym c.LOW.ensures)
    ∙ product_alpha n (low % 2 ^ n) (bits_some word.width) (mod-lt low (pow_pos n)) (a % 2 ^ n) (mod-lt a (pow_pos n)))
