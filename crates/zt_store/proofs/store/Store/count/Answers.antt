use Rattle.std.proofs.Common.{ap, arith}
use Rattle.zt_index.proofs.SupportCountLaws.{small-at}
use Rattle.zt_index.proofs.Counts.{counted, bit-small}
use Rattle.zt_store.specs.StoreView.{Stored}
use Rattle.zt_store.proofs.store.Store.count.Goals as goal

pub tasks_kept-requires-clause-jobs : goal.tasks_kept-requires-clause-jobs
tasks_kept-requires-clause-jobs c =
    (small-at c.self.inside.cells.state c.self.inside.support_counts c.args.koid c.at-numbers.result c.at-numbers.ensures c.self.invariant.koid_counts c.self.invariant.few c.limits.ensures.few).jobs

pub tasks_kept-requires-clause-processes : goal.tasks_kept-requires-clause-processes
tasks_kept-requires-clause-processes c =
    (small-at c.self.inside.cells.state c.self.inside.support_counts c.args.koid c.at-numbers.result c.at-numbers.ensures c.self.invariant.koid_counts c.self.invariant.few c.limits.ensures.few).processes

pub overflow_add-result : goal.overflow_add-result
overflow_add-result c =
    let small = small-at c.self.inside.cells.state c.self.inside.support_counts c.args.koid c.at-numbers.result c.at-numbers.ensures c.self.invariant.koid_counts c.self.invariant.few c.limits.ensures.few in
    omega (arith, small.named, c.tasks_kept.ensures.few)

pub overflow_add-result-2 : goal.overflow_add-result-2
overflow_add-result-2 c =
    let small = small-at c.self.inside.cells.state c.self.inside.support_counts c.args.koid c.at-numbers.result c.at-numbers.ensures c.self.invariant.koid_counts c.self.invariant.few c.limits.ensures.few in
    omega (arith, small.named, c.tasks_kept.ensures.few, bit-small c.keeps_itself.result c.from-itself.result c.from-itself.ensures)

pub returns : goal.returns
returns c =
    counted c.self.inside.cells.state c.args.self.now.state c.self.inside.support_counts c.args.koid c.at-numbers.result c.object-object.result c.tasks_kept.result c.from-itself.result c.keeps_itself.result
    (ap (λ (s : Stored). s.state) c.self.view_is) c.self.invariant.koid_counts c.at-numbers.ensures c.object-object.ensures c.tasks_kept.ensures.count c.keeps_itself.ensures c.from-itself.ensures
