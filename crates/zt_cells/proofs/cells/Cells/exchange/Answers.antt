use Rattle.std.proofs.Common.{◌≡◌, true, subst, sym}
use Rattle.zt_cells.specs.CellsView.{CellsView}
use Rattle.zt_cells.specs.TableSizes.{has_place}
use Rattle.zt_cells.proofs.CellsLaws.{place-there, cells-exchanged, seen-exchanged, out-exchanged}
use Rattle.zt_cells.proofs.cells.Cells.exchange.Goals as goal

pub exchange-requires : goal.exchange-requires
exchange-requires c =
    place-there _ c.args.key (subst (λ (s : CellsView). has_place s.sizes c.args.key ≡ true) (sym c.self.view_is) c.requires.placed)

pub invariant_of-self : goal.invariant_of-self
invariant_of-self c =
    cells-exchanged _ _ c.args.key _ _ c.self.inside.places c.exchange.ensures c.requires.suited c.self.invariant

pub returns-clause-put : goal.returns-clause-put
returns-clause-put c =
    seen-exchanged c.self.inside.tables c.exchange.new.self c.args.self.now c.args.key _ _ c.self.view_is c.exchange.ensures

pub returns-clause-was : goal.returns-clause-was
returns-clause-was c =
    out-exchanged c.self.inside.tables c.exchange.new.self c.args.self.now c.args.key _ _ c.self.view_is c.exchange.ensures
