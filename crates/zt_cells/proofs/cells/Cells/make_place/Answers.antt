use Rattle.std.proofs.Common.{◌≡◌, true, subst, refl, arith}
use Rattle.zt_cells.specs.ProofsOnly.RowTables.{sizes_of}
use Rattle.zt_cells.specs.CellsView.{CellsView}
use Rattle.zt_cells.specs.TableSizes.{has_place}
use Rattle.zt_cells.proofs.CellsLaws.{seen_as, there-place, length_at-few, state-widened, kept-widened, objects-made, waits-made}
use Rattle.zt_cells.proofs.PacketPlaces.{packets-made}
use Rattle.zt_cells.proofs.cells.Cells.make_place.Goals as goal

pub returns-then-place-len-clause-made : goal.returns-then-place-len-clause-made
returns-then-place-len-clause-made c =
    let there : has_place (sizes_of c.self.inside.tables) c.args.key ≡ true = there-place (sizes_of c.self.inside.tables) c.args.key (omega arith) in
    subst (λ (s : CellsView). has_place s.sizes c.args.key ≡ true) c.self.view_is there

pub grow-requires-clause-near : goal.grow-requires-clause-near
grow-requires-clause-near c =
    let few = length_at-few c.self.inside.tables c.args.key in
    let counted = c.self.invariant.counted in
    omega arith

pub returns-in_err-grow-clause-state : goal.returns-in_err-grow-clause-state
returns-in_err-grow-clause-state c =
    state-widened c.self.inside.tables c.grow.new.self c.args.self.now (seen_as c.grow.new.self) c.self.view_is refl c.grow.ensures.widened

pub returns-in_err-grow-clause-kept : goal.returns-in_err-grow-clause-kept
returns-in_err-grow-clause-kept c =
    kept-widened c.self.inside.tables c.grow.new.self c.args.self.now c.self.view_is c.grow.ensures.widened

pub returns-clause-state : goal.returns-clause-state
returns-clause-state c =
    state-widened c.self.inside.tables c.grow.new.self c.args.self.now (seen_as c.grow.new.self) c.self.view_is refl c.grow.ensures.widened

pub returns-clause-kept : goal.returns-clause-kept
returns-clause-kept c =
    kept-widened c.self.inside.tables c.grow.new.self c.args.self.now c.self.view_is c.grow.ensures.widened

pub returns-clause-made : goal.returns-clause-made
returns-clause-made c =
    let there = c.in_ok-grow.ensures.ok.there in
    there-place (sizes_of c.grow.new.self) c.args.key (omega arith)

pub returns-in_err-grow-clause-waits : goal.returns-in_err-grow-clause-waits
returns-in_err-grow-clause-waits c = waits-made c.self.inside.tables c.grow.new.self c.args.self.now c.args.key c.self.view_is c.grow.ensures.waits

pub returns-clause-waits : goal.returns-clause-waits
returns-clause-waits c = waits-made c.self.inside.tables c.grow.new.self c.args.self.now c.args.key c.self.view_is c.grow.ensures.waits

pub returns-in_err-grow-clause-objects : goal.returns-in_err-grow-clause-objects
returns-in_err-grow-clause-objects c = objects-made c.self.inside.tables c.grow.new.self c.args.self.now c.args.key c.self.view_is c.grow.ensures.objects

pub returns-clause-objects : goal.returns-clause-objects
returns-clause-objects c = objects-made c.self.inside.tables c.grow.new.self c.args.self.now c.args.key c.self.view_is c.grow.ensures.objects

pub returns-in_err-grow-clause-packets : goal.returns-in_err-grow-clause-packets
returns-in_err-grow-clause-packets c = packets-made c.self.inside.tables c.grow.new.self c.args.self.now c.args.key c.self.view_is c.grow.ensures.packets

pub returns-clause-packets : goal.returns-clause-packets
returns-clause-packets c = packets-made c.self.inside.tables c.grow.new.self c.args.self.now c.args.key c.self.view_is c.grow.ensures.packets
