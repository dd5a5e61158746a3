-- One child after another, by rising koid.
use Rattle.std.proofs.Common.{ℕ, Bool, Some, sym, subst}
use Rattle.zt_rows.specs.State.{State}
use Rattle.zt_index.specs.Chains.{IsNext}
use Rattle.zt_index.specs.Criteria.{is_below, objects_where}
use Rattle.zt_queries.specs.ProofsOnly.NameSearch.{Widens}
use Rattle.zt_queries.proofs.NameSearchLaws.{widens-widens, widens-child, next-child, passed-more}
use Rattle.zt_queries.proofs.leak_graph.name_search.NameSearch.add_children.Goals as goal

pub loop-task-preserved : goal.loop-task-preserved
loop-task-preserved c =
    let S : State = c.args.store.now.state in
    let y : ℕ = c.args.koid in
    let passes : ℕ → Bool = objects_where S (is_below y) in
    let next : IsNext passes c.loop-task.low (Some c.in-Some.task) = subst (IsNext passes c.loop-task.low) c.in-Some.is c.task_below.ensures in
    let wider : Widens S y c.loop-task.self.ends.keys c.add_end.new.self.ends.keys =
    subst (Widens S y c.loop-task.self.ends.keys) (sym c.in_ok-add_end.ensures.ends) (widens-child S y c.in-Some.task c.loop-task.self.ends.keys (next-child S y c.loop-task.low c.in-Some.task next)) in
    record {
      wider = widens-widens S y c.args.self.now.ends.keys c.loop-task.self.ends.keys c.add_end.new.self.ends.keys c.loop-task.invariant.wider wider;
      passed = passed-more S y c.loop-task.low c.in-Some.task c.loop-task.self.ends.keys c.add_end.new.self.ends.keys next c.in_ok-add_end.ensures.ends c.loop-task.invariant.passed;
    }
