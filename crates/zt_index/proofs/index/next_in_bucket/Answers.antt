use Rattle.std.proofs.Common.{Some, sym, ◌∙◌, subst, length}
use Rattle.zt_index.specs.Chains.{IsNext}
use Rattle.zt_index.specs.ProofsOnly.Chains.{is_in}
use Rattle.zt_index.specs.ProofsOnly.IndexInvariant.{meets_criterion}
use Rattle.zt_index.proofs.ChainLaws.{in-below}
use Rattle.zt_index.proofs.IndexLaws.{passed-none, passed-found, passed-more, left-shorter}
use Rattle.zt_index.proofs.index.next_in_bucket.Goals as goal

pub numbers-init : goal.numbers-init
numbers-init c = passed-none (meets_criterion c.args.cells.now.state c.args.criterion) c.args.low

pub numbers-smaller : goal.numbers-smaller
numbers-smaller c =
    let next : IsNext (is_in c.args.chain.now c.args.bucket) c.numbers.at (Some c.in-Some.number) = subst (IsNext (is_in c.args.chain.now c.args.bucket) c.numbers.at) c.in-Some.is c.after.ensures in
    left-shorter (length c.args.chain.now) c.numbers.at c.in-Some.number next.0.0 (in-below c.args.chain.now c.args.bucket c.in-Some.number next.0.1)

pub numbers-preserved : goal.numbers-preserved
numbers-preserved c =
    passed-more (meets_criterion c.args.cells.now.state c.args.criterion) (is_in c.args.chain.now c.args.bucket) c.args.low c.numbers.at c.in-Some.number c.requires c.numbers.invariant
    (subst (IsNext (is_in c.args.chain.now c.args.bucket) c.numbers.at) c.in-Some.is c.after.ensures) (sym c.takes.ensures ∙ c.if-takes.false)

pub returns-then-takes : goal.returns-then-takes
returns-then-takes c =
    passed-found (meets_criterion c.args.cells.now.state c.args.criterion) (is_in c.args.chain.now c.args.bucket) c.args.low c.numbers.at c.in-Some.number c.requires c.numbers.invariant
    (subst (IsNext (is_in c.args.chain.now c.args.bucket) c.numbers.at) c.in-Some.is c.after.ensures) (sym c.takes.ensures ∙ c.if-takes.true)
