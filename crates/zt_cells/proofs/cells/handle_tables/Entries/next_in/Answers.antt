use Rattle.std.proofs.Common.{None, refl, subst, arith}
use Rattle.zt_cells.specs.ProofsOnly.TablePlaces.{IsNextCell, IsNextCellAt}
use Rattle.zt_cells.proofs.NextValueLaws.{next-none, next-some, row-within, table-read}
use Rattle.zt_cells.proofs.cells.handle_tables.Entries.next_in.Goals as goal

pub overflow_mul-result : goal.overflow_mul-result
overflow_mul-result c =
    let at = table-read c.self.inside.sizes c.self.inside.sizes c.index-self-remainder.result c.args.remainder c.process.inside.0 c.args.process refl c.self.told c.requires c.process.view_is in
    let there = row-within _ c.in-Some.quotient (subst (λ t. IsNextCellAt t c.quotient_from-low.result c.in-Some.quotient) at c.in-Some.ensures).there in
    omega (arith, there, c.self.invariant c.args.remainder c.args.process)

pub overflow_add-result : goal.overflow_add-result
overflow_add-result c =
    let at = table-read c.self.inside.sizes c.self.inside.sizes c.index-self-remainder.result c.args.remainder c.process.inside.0 c.args.process refl c.self.told c.requires c.process.view_is in
    let there = row-within _ c.in-Some.quotient (subst (λ t. IsNextCellAt t c.quotient_from-low.result c.in-Some.quotient) at c.in-Some.ensures).there in
    omega (arith, there, c.self.invariant c.args.remainder c.args.process)

pub overflow_cast-result : goal.overflow_cast-result
overflow_cast-result c =
    let at = table-read c.self.inside.sizes c.self.inside.sizes c.index-self-remainder.result c.args.remainder c.process.inside.0 c.args.process refl c.self.told c.requires c.process.view_is in
    let there = row-within _ c.in-Some.quotient (subst (λ t. IsNextCellAt t c.quotient_from-low.result c.in-Some.quotient) at c.in-Some.ensures).there in
    omega (arith, there, c.self.invariant c.args.remainder c.args.process)

pub returns-in-Some : goal.returns-in-Some
returns-in-Some c =
    let at = table-read c.self.inside.sizes c.args.self.now c.index-self-remainder.result c.args.remainder c.process.inside.0 c.args.process c.self.view_is c.self.told c.requires c.process.view_is in
    next-some c.args.self.now c.args.process c.args.from c.args.remainder c.quotient_from-low.result c.requires c.quotient_from-low.ensures c.in-Some.quotient
    (subst (λ t. IsNextCellAt t c.quotient_from-low.result c.in-Some.quotient) at c.in-Some.ensures)

pub returns-in-None : goal.returns-in-None
returns-in-None c =
    let at = table-read c.self.inside.sizes c.args.self.now c.index-self-remainder.result c.args.remainder c.process.inside.0 c.args.process c.self.view_is c.self.told c.requires c.process.view_is in
    next-none c.args.self.now c.args.process c.args.from c.args.remainder c.quotient_from-low.result c.requires c.quotient_from-low.ensures
    (subst (λ t. IsNextCell t c.quotient_from-low.result None) at c.in-None.ensures)
