-- The children first, then the endpoints.
use Rattle.std.proofs.Common.{subst}
use Rattle.zt_rows.specs.State.{State}
use Rattle.zt_history.specs.Tree.{state_at}
use Rattle.zt_queries.specs.ProofsOnly.NameSearch.{Widens}
use Rattle.zt_queries.proofs.NameSearchLaws.{on_ok, widens-widens}
use Rattle.zt_queries.proofs.leak_graph.name_search.NameSearch.find_all.Goals as goal

pub returns-clause-wider : goal.returns-clause-wider
returns-clause-wider c =
    let S : State = state_at c.args.history.now.tree.made c.args.history.now.position in
    on_ok c.find_names.result _ _ c.find_names.ensures.wider (λ more.
    widens-widens S c.args.koid c.args.self.now.ends.keys c.add_children.new.self.ends.keys c.find_names.new.self.ends.keys
    (subst (λ (T : State). Widens T c.args.koid c.args.self.now.ends.keys c.add_children.new.self.ends.keys) c.store-store.ensures.state c.in_ok-add_children.ensures.wider) more)
