use Rattle.std.proofs.Common.{◌≤◌, ◌+◌, List, [], Option, length, subst, ap, sym, ◌∙◌}
use Rattle.std.specs.List.{sum}
use Rattle.std.specs.Prelude.{Result, Ok, Err, OnErr}
use Rattle.std.proofs.lemmas.Result.{on_ok_weaker, on_err_weaker}
use Rattle.zt_rows.specs.declared.rows.Row.{Row}
use Rattle.zt_cells.specs.ProofsOnly.TablePlaces.{table, lengths}
use Rattle.zt_cells.proofs.NumberLaws.{was-old, table-at, table-others, cells-there, lengths-there, sum-kept, sum-there, sum-same}
use Rattle.zt_cells.proofs.cells.tables_by_owner.TablesByOwner.grow.Goals as goal

on_err : {T E P : Type 0} (r : Result T E) → P → OnErr r P
on_err (Ok _) p = tt
on_err (Err _) p = p

pub returns-in_err-number-clause-err : goal.returns-in_err-number-clause-err
returns-in_err-number-clause-err c =
    on_err c.from_residual.result (sum-same _ c.args.self.now (λ y. c.make_table.ensures.same y ∙ ap (λ t. table t y) c.self.view_is))

pub grow-requires : goal.grow-requires
grow-requires c =
    let was = was-old c.args.self.now c.make_table.new.numbers.items c.make_table.new.tables.items c.args.owner c.in_ok-number.number c.index_mut-table.result.now [] c.make_table.ensures.numbers c.in_ok-number.ensures.at c.in_ok-number.ensures.there (λ y. c.make_table.ensures.same y ∙ ap (λ t. table t y) c.self.view_is) c.index_mut-table.ensures.value in
    subst (λ (t : List (Option Row)). length t ≤ c.args.len) (sym was) c.requires

pub returns-clause-cells : goal.returns-clause-cells
returns-clause-cells c =
    cells-there c.args.self.now c.make_table.new.numbers.items c.make_table.new.tables.items c.args.owner c.in_ok-number.number c.index_mut-table.result.now c.grow.new.self c.make_table.ensures.numbers c.in_ok-number.ensures.at c.in_ok-number.ensures.there (λ y. c.make_table.ensures.same y ∙ ap (λ t. table t y) c.self.view_is) c.index_mut-table.ensures.value c.grow.ensures.cells

pub returns-clause-longer : goal.returns-clause-longer
returns-clause-longer c =
    lengths-there c.args.self.now c.make_table.new.numbers.items c.make_table.new.tables.items c.args.owner c.in_ok-number.number c.index_mut-table.result.now c.grow.new.self c.make_table.ensures.numbers c.in_ok-number.ensures.at c.in_ok-number.ensures.there (λ y. c.make_table.ensures.same y ∙ ap (λ t. table t y) c.self.view_is) c.index_mut-table.ensures.value c.grow.ensures.longer

pub returns-clause-others : goal.returns-clause-others
returns-clause-others c =
    table-others c.args.self.now c.make_table.new.numbers.items c.make_table.new.tables.items c.args.owner c.in_ok-number.number c.index_mut-table.result.now c.grow.new.self c.make_table.ensures.numbers c.in_ok-number.ensures.at c.in_ok-number.ensures.there (λ y. c.make_table.ensures.same y ∙ ap (λ t. table t y) c.self.view_is) c.index_mut-table.ensures.value

pub returns-clause-bound : goal.returns-clause-bound
returns-clause-bound c =
    let at = table-at c.args.self.now c.make_table.new.numbers.items c.make_table.new.tables.items c.args.owner c.in_ok-number.number c.index_mut-table.result.now c.grow.new.self c.make_table.ensures.numbers c.in_ok-number.ensures.at c.in_ok-number.ensures.there (λ y. c.make_table.ensures.same y ∙ ap (λ t. table t y) c.self.view_is) c.index_mut-table.ensures.value in
    subst (λ (t : List (Option Row)). length t ≤ c.args.len) (sym at) c.grow.ensures.bound

pub returns-clause-ok : goal.returns-clause-ok
returns-clause-ok c =
    let at = table-at c.args.self.now c.make_table.new.numbers.items c.make_table.new.tables.items c.args.owner c.in_ok-number.number c.index_mut-table.result.now c.grow.new.self c.make_table.ensures.numbers c.in_ok-number.ensures.at c.in_ok-number.ensures.there (λ y. c.make_table.ensures.same y ∙ ap (λ t. table t y) c.self.view_is) c.index_mut-table.ensures.value in
    on_ok_weaker c.grow.result (λ h. ap length at ∙ h) c.grow.ensures.ok

pub returns-clause-counted : goal.returns-clause-counted
returns-clause-counted c =
    let s = sum-there c.args.self.now c.make_table.new.numbers.items c.make_table.new.tables.items c.args.owner c.in_ok-number.number c.index_mut-table.result.now c.grow.new.self c.make_table.ensures.numbers c.in_ok-number.ensures.at c.in_ok-number.ensures.there (λ y. c.make_table.ensures.same y ∙ ap (λ t. table t y) c.self.view_is) c.index_mut-table.ensures.value in
    on_ok_weaker c.grow.result (λ h. s ∙ ap (λ n. sum (lengths c.args.self.now) + n) h) c.grow.ensures.ok

pub returns-clause-err : goal.returns-clause-err
returns-clause-err c =
    let s = sum-there c.args.self.now c.make_table.new.numbers.items c.make_table.new.tables.items c.args.owner c.in_ok-number.number c.index_mut-table.result.now c.grow.new.self c.make_table.ensures.numbers c.in_ok-number.ensures.at c.in_ok-number.ensures.there (λ y. c.make_table.ensures.same y ∙ ap (λ t. table t y) c.self.view_is) c.index_mut-table.ensures.value in
    let was = was-old c.args.self.now c.make_table.new.numbers.items c.make_table.new.tables.items c.args.owner c.in_ok-number.number c.index_mut-table.result.now [] c.make_table.ensures.numbers c.in_ok-number.ensures.at c.in_ok-number.ensures.there (λ y. c.make_table.ensures.same y ∙ ap (λ t. table t y) c.self.view_is) c.index_mut-table.ensures.value in
    on_err_weaker c.grow.result (λ h. sum-kept _ _ _ _ s (ap length (h ∙ was))) c.grow.ensures.err
