-- The position's path, run from the opening.
use Rattle.std.proofs.Common.{ap, ◌∙◌}
use Rattle.zt_store.specs.StoreView.{Stored}
use Rattle.zt_history.specs.Tree.{replies_to}
use Rattle.zt_history.proofs.KeptLaws.{kept-run}
use Rattle.zt_history.proofs.history.History.store.Goals as goal

pub returns-clause-run : goal.returns-clause-run
returns-clause-run c =
    ap (λ (s : Stored). (s.state, replies_to c.args.self.now.tree.made c.args.self.now.position)) c.store.ensures
    ∙ kept-run c.self.inside.store c.self.inside.moments c.self.inside.branches c.self.inside.position c.self.inside.undo c.args.self.now c.self.invariant.kept c.self.view_is
