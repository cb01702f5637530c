use Rattle.std.proofs.Common.{◌≡◌, ℕ, ◌*◌, ◌%◌, ◌<◌, ap, ap₂, sym, subst, ◌∙◌, mod-lt, zero-lt-suc, arith}
use Rattle.std.specs.Prelude.{◌*ℤ◌, pos}
use Rattle.words.proofs.Bounds.{natural, lowest, same_low, scaled, spread}
use Rattle.words.proofs.machine.AnyWord.masked.Given as given
use Rattle.words.proofs.machine.AnyWord.masked.Goals as goal
use Rattle.words.proofs.machine.AnyWord.masked.Goals.{After-ones}

module _ (g : given.Over) where
  value_is : (x : _) → g.T.Number.value x ≡ pos (g.T.FixedWidth.bits_of x)
  value_is x = natural (g.T.Number.value x) (g.T.FixedWidth.bits_of x) (g.met.T.Unsigned.unsigned_law x) (g.met.T.FixedWidth.bits_of_natural_law x)

  module _ (c : After-ones g) where
    bit_is : g.T.FixedWidth.bits_of c.bitand.result ≡ g.T.FixedWidth.bits_of c.args.bit % 2
    bit_is =
        let b = g.T.FixedWidth in
        let single = ap b.bits_of c.one.ensures ∙ g.met.T.FixedWidth.bits_of_natural_law g.T.One.one 1 (g.met.T.One.one_law g.met.T.Integral.exact_law) in
        lowest b.width b.bits_of b.of_bits b.bits_round_trip_law c.bitand.result _ (b.bits_of c.one.result) single
        (g.met.T.PrimInt.bitand_law _ _ _ c.bitand.ensures)
        ∙ same_low b.width _ (b.bits_of c.args.bit) (omega arith)

    fits : g.T.Number.fits (g.T.Number.value c.bitand.result *ℤ g.T.Number.value c.ones.result)
    fits =
        let b = g.T.FixedWidth in
        let n = g.T.Number in
        scaled n.fits (b.bits_of c.bitand.result) (b.bits_of c.ones.result) (n.value c.bitand.result) (n.value c.ones.result)
        (subst (λ (m : ℕ). m < 2) (sym bit_is) (mod-lt (b.bits_of c.args.bit) (zero-lt-suc 1)))
        (g.met.T.Zero.zero_fits_law g.met.T.Integral.exact_law) c.ones.ensures.range (value_is c.bitand.result) (value_is c.ones.result)

pub mul-requires : goal.mul-requires
mul-requires g c = g.met.T.One.can_mul_law c.bitand.result c.ones.result (λ _. fits g c)

pub returns : goal.returns
returns g c =
    let b = g.T.FixedWidth in
    let before = (goal.at.returns g c).After-ones in
    let product = g.met.T.One.mul_law c.bitand.result c.ones.result c.mul.result c.mul.ensures g.met.T.Integral.exact_law (fits g before)
    ∙ ap₂ ◌*ℤ◌ (value_is g c.bitand.result) (value_is g c.ones.result) in
    spread b.width b.bits_of b.of_bits b.bits_round_trip_law c.bitand-2.result (b.bits_of c.args.self) (b.bits_of c.args.bit) (b.bits_of c.bitand.result) (b.bits_of c.mul.result)
    (bit_is g before)
    (g.met.T.FixedWidth.bits_of_natural_law c.mul.result _ product ∙ ap (λ (x : ℕ). b.bits_of c.bitand.result * x) c.ones.ensures.bits)
    (g.met.T.PrimInt.bitand_law _ _ _ c.bitand-2.ensures)
