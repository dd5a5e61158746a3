-- What is reached is not leaked, what has a process below is not, nor what would be leaked with it; and what is there and not
-- leaked never was.
use Rattle.std.proofs.Common.{◌≡◌, ◌≤◌, ◌<◌, false, length, sym, ap, ◌∙◌, subst, arith}
use Rattle.zt_rows.specs.Settle.{is_child_process_of}
use Rattle.zt_rows.specs.State.{State}
use Rattle.zt_rows.specs.Tests.{count_row}
use Rattle.zt_rows.proofs.RowLaws.{true≢false, not_true}
use Rattle.zt_history.specs.Tree.{state_at}
use Rattle.zt_history.proofs.RunLaws.{moment-consistent}
use Rattle.zt_queries.specs.Leaks.{is_leaked}
use Rattle.zt_queries.proofs.JobLaws.{process-below}
use Rattle.zt_queries.proofs.NeverLaws.{stands-never}
use Rattle.zt_queries.proofs.leak_graph.name_search.told_by_entries.Goals as goal
use Rattle.zt_queries.proofs.leak_graph.name_search.told_by_entries.Goals.{then-child_processes-gt0, else-child_processes-gt0}

pub returns-then-is_entered : goal.returns-then-is_entered
returns-then-is_entered c =
    let S : State = state_at c.args.history.now.tree.made c.args.history.now.position in
    let within : c.args.history.now.position ≤ length c.args.history.now.tree.made = omega (arith, c.position.ensures.within, c.position.ensures.position) in
    let unleaked : is_leaked S c.args.named ≡ false = elim c.if-child_processes-gt0.branch [
      | then-child_processes-gt0 w ↦
          process-below S (moment-consistent c.args.history.now.tree.made c.position.ensures.tree.moments c.args.history.now.position within).sound c.args.named
          (subst (λ (T : State). 0 < count_row (is_child_process_of c.args.named) T) c.store-store.ensures.state (omega (arith, c.child_processes.ensures, w.if-child_processes-gt0.true)))
      | else-child_processes-gt0 w ↦ ap (λ (T : State). is_leaked T c.args.named) (sym c.store-store.ensures.state) ∙ w.is_entered.ensures (sym w.value-is ∙ c.if-is_entered.true)
    ] in
    stands-never c.args.history.now.tree.made c.position.ensures.tree.moments c.args.history.now.position c.args.koid within c.requires.there
    (not_true (is_leaked S c.args.koid) (λ t. true≢false (is_leaked S c.args.named) (c.requires.with t) unleaked))
