use Rattle.std.proofs.Common.{sym, ◌∙◌, arith}
use Rattle.layers.proofs.Joins.{count_same, count_apart}
use Rattle.layers.proofs.join.JoinSectorDevice.count.Goals as goal

pub returns-then-size : goal.returns-then-size
returns-then-size g c =
    let a = g.D.SectorDevice.meaning c.args.self.now.first in
    let b = g.E.SectorDevice.meaning c.args.self.now.second in
    c.count-first.ensures ∙ count_apart a b (λ e. c.if-size.true (c.size.ensures ∙ e ∙ sym c.size-2.ensures)) (omega (arith, (g.D.SectorDevice.sound c.args.self.now.first).countable))

pub returns : goal.returns
returns g c =
    let a = g.D.SectorDevice.meaning c.args.self.now.first in
    let b = g.E.SectorDevice.meaning c.args.self.now.second in
    omega (arith, count_same a b (sym c.size.ensures ∙ c.if-size.false ∙ c.size-2.ensures), c.saturating_add.ensures, c.count-first.ensures, c.count.ensures)
