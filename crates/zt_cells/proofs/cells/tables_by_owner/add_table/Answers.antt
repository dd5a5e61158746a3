use Rattle.std.proofs.Common.{◌≡◌, ◌<◌, length, set, ap, ◌∙◌, arith}
use Rattle.zt_cells.specs.ProofsOnly.NumberedTables.{no_table, numbered}
use Rattle.zt_cells.specs.ProofsOnly.TablePlaces.{table}
use Rattle.zt_cells.proofs.NumberLaws.{numbers-same, table-same, table-added}
use Rattle.zt_cells.proofs.cells.tables_by_owner.add_table.Goals as goal

pub returns-in_err-make_number-clause-same : goal.returns-in_err-make_number-clause-same
returns-in_err-make_number-clause-same c =
    λ x. table-same c.args.numbers.now.items c.make_number.new.numbers.items c.args.tables.now.items x c.requires.numbers.few c.make_number.ensures.same

pub returns-then-number-clause-same : goal.returns-then-number-clause-same
returns-then-number-clause-same c =
    λ x. table-same c.args.numbers.now.items c.make_number.new.numbers.items c.args.tables.now.items x c.requires.numbers.few c.make_number.ensures.same

pub returns-in_err-push-clause-same : goal.returns-in_err-push-clause-same
returns-in_err-push-clause-same c =
    λ x. ap (λ t. table (numbered c.make_number.new.numbers.items t) x) c.in_err-push.ensures.items
    ∙ table-same c.args.numbers.now.items c.make_number.new.numbers.items c.args.tables.now.items x c.requires.numbers.few c.make_number.ensures.same

pub returns-clause-same : goal.returns-clause-same
returns-clause-same c =
    let numbers = c.make_number.new.numbers.items in
    let tables = c.args.tables.now.items in
    let are = numbers-same c.args.numbers.now.items numbers (length tables) c.make_number.ensures.same c.requires.numbers in
    let len : c.len-number.result ≡ length tables = omega (arith, c.len-number.ensures) in
    let room : length tables < no_table = omega arith in
    let within : c.args.owner < length numbers = omega (arith, c.in_ok-make_number.ensures.there) in
    let none = c.make_number.ensures.same c.args.owner ∙ c.requires.none in
    λ x. ap (λ n. table (numbered (set numbers c.args.owner n) c.push.new.self.items) x) len
    ∙ ap (λ t. table (numbered (set numbers c.args.owner (length tables)) t) x) c.in_ok-push.ensures.items
    ∙ table-added numbers tables _ c.args.owner are room within none c.new.ensures x
    ∙ table-same c.args.numbers.now.items numbers tables x c.requires.numbers.few c.make_number.ensures.same
