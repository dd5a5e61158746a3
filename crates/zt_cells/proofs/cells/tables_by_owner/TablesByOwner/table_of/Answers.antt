use Rattle.std.proofs.Common.{[], get_or, sym, ap, ◌∙◌, arith}
use Rattle.std.proofs.lemmas.List.{get_or_past}
use Rattle.zt_cells.specs.ProofsOnly.NumberedTables.{no_table}
use Rattle.zt_cells.specs.ProofsOnly.TablePlaces.{table}
use Rattle.zt_cells.proofs.NumberLaws.{table-seen}
use Rattle.zt_cells.proofs.cells.tables_by_owner.TablesByOwner.table_of.Goals as goal

pub returns-in-Some : goal.returns-in-Some
returns-in-Some c =
    let n = c.in-Some.number.now in
    let at = c.in-Some.ensures.lookup.4 (omega arith) no_table ∙ ap (λ ns. get_or ns c.args.owner no_table) c.deref.ensures.value in
    c.get-in-Some.ensures.lookup.4 (omega arith) []
    ∙ ap (λ ts. get_or ts n []) c.deref-in-Some.ensures.value
    ∙ ap (table c.self.inside.tables.items) at
    ∙ table-seen c.self.inside.numbers.items c.self.inside.tables.items c.args.self.now c.args.owner c.self.invariant c.self.view_is

pub returns-in-None : goal.returns-in-None
returns-in-None c =
    let at = c.in-None.ensures.lookup.4 (omega arith) no_table ∙ ap (λ ns. get_or ns c.args.owner no_table) c.deref.ensures.value in
    sym (get_or_past c.self.inside.tables.items no_table [] c.self.invariant.few)
    ∙ ap (table c.self.inside.tables.items) at
    ∙ table-seen c.self.inside.numbers.items c.self.inside.tables.items c.args.self.now c.args.owner c.self.invariant c.self.view_is
