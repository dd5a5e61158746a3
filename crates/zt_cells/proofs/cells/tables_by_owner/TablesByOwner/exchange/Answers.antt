use Rattle.std.proofs.Common.{◌<◌, List, [], Option, length, set, sym, ap, ◌∙◌, arith, subst}
use Rattle.zt_rows.specs.declared.rows.Row.{Row}
use Rattle.zt_cells.specs.RowSlots.{row_in}
use Rattle.zt_cells.specs.ProofsOnly.TablePlaces.{cell, table}
use Rattle.zt_cells.proofs.NumberLaws.{number-read, number-seen, owner-numbered, put-there, was-old}
use Rattle.zt_cells.proofs.cells.tables_by_owner.TablesByOwner.exchange.Goals as goal

pub index-requires : goal.index-requires
index-requires c =
    let n = number-seen c.self.inside.numbers.items c.self.inside.tables.items c.args.self.now c.args.owner c.args.index c.self.invariant c.self.view_is c.requires in
    let h = owner-numbered c.self.inside.numbers.items c.args.owner (length c.self.inside.tables.items) c.self.invariant.few n in
    omega (arith, h)

pub index_mut-table-requires : goal.index_mut-table-requires
index_mut-table-requires c =
    let n = number-seen c.self.inside.numbers.items c.self.inside.tables.items c.args.self.now c.args.owner c.args.index c.self.invariant c.self.view_is c.requires in
    let at = number-read c.self.inside.numbers.items c.args.owner (length c.self.inside.tables.items) _ c.self.invariant.few n c.index.ensures in
    omega (arith, n, at)

pub exchange-requires : goal.exchange-requires
exchange-requires c =
    let n = number-seen c.self.inside.numbers.items c.self.inside.tables.items c.args.self.now c.args.owner c.args.index c.self.invariant c.self.view_is c.requires in
    let at = number-read c.self.inside.numbers.items c.args.owner (length c.self.inside.tables.items) c.index.result.now c.self.invariant.few n c.index.ensures in
    let was = was-old c.args.self.now c.self.inside.numbers.items c.self.inside.tables.items c.args.owner c.index.result.now c.index_mut-table.result.now [] c.self.invariant at (omega (arith, n, at)) (λ y. ap (λ t. table t y) c.self.view_is) c.index_mut-table.ensures.value in
    subst (λ (t : List (Option Row)). c.args.index < length t) (sym was) c.requires

pub returns-clause-put : goal.returns-clause-put
returns-clause-put c =
    let n = number-seen c.self.inside.numbers.items c.self.inside.tables.items c.args.self.now c.args.owner c.args.index c.self.invariant c.self.view_is c.requires in
    let at = number-read c.self.inside.numbers.items c.args.owner (length c.self.inside.tables.items) c.index.result.now c.self.invariant.few n c.index.ensures in
    let there : c.index.result.now < length c.self.inside.tables.items = omega (arith, n, at) in
    let was = was-old c.args.self.now c.self.inside.numbers.items c.self.inside.tables.items c.args.owner c.index.result.now c.index_mut-table.result.now [] c.self.invariant at there (λ y. ap (λ t. table t y) c.self.view_is) c.index_mut-table.ensures.value in
    put-there c.args.self.now c.self.inside.numbers.items c.self.inside.tables.items c.args.owner c.index.result.now c.index_mut-table.result.now c.exchange.new.self c.self.invariant at there (λ y. ap (λ t. table t y) c.self.view_is) c.index_mut-table.ensures.value
    ∙ ap (λ g. set g c.args.owner c.exchange.new.self) c.self.view_is
    ∙ ap (set c.args.self.now c.args.owner) (c.exchange.ensures.put ∙ ap (λ t. set t c.args.index (row_in c.args.kept.now)) was)

pub returns-clause-was : goal.returns-clause-was
returns-clause-was c =
    let n = number-seen c.self.inside.numbers.items c.self.inside.tables.items c.args.self.now c.args.owner c.args.index c.self.invariant c.self.view_is c.requires in
    let at = number-read c.self.inside.numbers.items c.args.owner (length c.self.inside.tables.items) c.index.result.now c.self.invariant.few n c.index.ensures in
    let was = was-old c.args.self.now c.self.inside.numbers.items c.self.inside.tables.items c.args.owner c.index.result.now c.index_mut-table.result.now [] c.self.invariant at (omega (arith, n, at)) (λ y. ap (λ t. table t y) c.self.view_is) c.index_mut-table.ensures.value in
    c.exchange.ensures.was ∙ ap (λ t. cell t c.args.index) was
