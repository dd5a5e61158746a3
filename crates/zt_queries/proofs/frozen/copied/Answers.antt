-- The rows of the store are the rows of their state, which is the store's.
use Rattle.std.proofs.Common.{◌≡◌, ◌∙◌}
use Rattle.zt_rows.specs.State.{state_of}
use Rattle.zt_history.specs.Tree.{state_at}
use Rattle.zt_queries.proofs.FrozenLaws.{rows_kept, state_kept}
use Rattle.zt_queries.proofs.frozen.copied.Goals as goal

pub invariant_of-result : goal.invariant_of-result
invariant_of-result c = rows_kept c.store.result.now.state c.shrink_to_fit.new.self.items (c.shrink_to_fit.ensures.items ∙ c.in_ok-rows.ensures)

pub returns : goal.returns
returns c =
    let state : state_of c.shrink_to_fit.new.self.items ≡ state_at c.args.history.now.tree.made c.args.history.now.position =
    state_kept c.store.result.now.state c.shrink_to_fit.new.self.items (c.shrink_to_fit.ensures.items ∙ c.in_ok-rows.ensures) ∙ c.store.ensures.state in
    λ i. record { moment = c.position.ensures.position i; state = state i; calls = c.in_ok-calls_to.ensures i }
