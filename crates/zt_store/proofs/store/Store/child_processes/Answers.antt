use Rattle.std.proofs.Common.{ap, ◌∙◌}
use Rattle.zt_index.proofs.Counts.{processes-counted}
use Rattle.zt_store.specs.StoreView.{Stored}
use Rattle.zt_store.proofs.store.Store.child_processes.Goals as goal

pub returns : goal.returns
returns c =
    c.from.ensures ∙ processes-counted c.self.inside.cells.state c.args.self.now.state c.self.inside.support_counts c.args.koid c.at.result (ap (λ (s : Stored). s.state) c.self.view_is) c.self.invariant.koid_counts c.at.ensures
