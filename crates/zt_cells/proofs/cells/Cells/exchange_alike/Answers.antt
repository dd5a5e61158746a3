use Rattle.std.proofs.Common.{◌≡◌, true, subst, sym}
use Rattle.zt_rows.specs.declared.keys.RowKey.TheVariants as key
use Rattle.zt_cells.specs.CellsView.{CellsView}
use Rattle.zt_cells.specs.ProofsOnly.RowTables.{sizes_of}
use Rattle.zt_cells.specs.TableSizes.{has_place}
use Rattle.zt_cells.proofs.AlikeLaws.{cells-either}
use Rattle.zt_cells.proofs.CellsLaws.{out-exchanged, place-there, seen-exchanged}
use Rattle.zt_cells.proofs.cells.Cells.exchange_alike.Goals as goal

pub exchange_alike-requires : goal.exchange_alike-requires
unfolding sizes_of
exchange_alike-requires c =
    place-there _ (key.Object c.args.koid) (subst (λ (s : CellsView). has_place s.sizes (key.Object c.args.koid) ≡ true) (sym c.self.view_is) c.requires)

pub invariant_of-self : goal.invariant_of-self
invariant_of-self c =
    cells-either c.self.inside.tables c.exchange_alike.new.self c.args.koid _ _ c.self.inside.places c.exchange_alike.result c.exchange_alike.ensures.done (λ e. (c.exchange_alike.ensures.same e).0) c.self.invariant

pub returns-clause-done : goal.returns-clause-done
returns-clause-done c =
    λ t. record {
      put = seen-exchanged c.self.inside.tables c.exchange_alike.new.self c.args.self.now (key.Object c.args.koid) _ _ c.self.view_is (c.exchange_alike.ensures.done t);
      was = out-exchanged c.self.inside.tables c.exchange_alike.new.self c.args.self.now (key.Object c.args.koid) _ _ c.self.view_is (c.exchange_alike.ensures.done t);
      alike = c.exchange_alike.ensures.alike t;
    }
