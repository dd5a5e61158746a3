-- The search goes on from what is known of the later state to what is unleaked in the earlier one.
use Rattle.zt_history.specs.Tree.{state_at}
use Rattle.zt_look.proofs.UnleakedLaws.{start-consistent, start-open, start-inside, start-there-all, found-set, found-lost}
use Rattle.zt_look.proofs.unleaked_set.step_back.Goals as goal

pub go_on-requires-clause-consistent : goal.go_on-requires-clause-consistent
go_on-requires-clause-consistent c =
    start-consistent (state_at c.args.history.now.tree.made c.args.history.now.position) (state_at c.args.history.now.tree.made c.args.moment) c.store-store.result.now.state c.args.kept.now
    c.keys.result.now c.in_ok-search.search c.search_from.new.search c.store-store.ensures.state c.in_ok-search.ensures c.keys.ensures c.in_ok-search_from.ensures

pub go_on-requires-clause-opened : goal.go_on-requires-clause-opened
go_on-requires-clause-opened c =
    start-open (state_at c.args.history.now.tree.made c.args.history.now.position) (state_at c.args.history.now.tree.made c.args.moment) c.store-store.result.now.state c.args.kept.now
    c.keys.result.now c.in_ok-search.search c.search_from.new.search c.store-store.ensures.state c.in_ok-search.ensures c.keys.ensures c.in_ok-search_from.ensures

pub go_on-requires-clause-inside : goal.go_on-requires-clause-inside
go_on-requires-clause-inside c =
    start-inside (state_at c.args.history.now.tree.made c.args.history.now.position) (state_at c.args.history.now.tree.made c.args.moment) c.store-store.result.now.state c.args.kept.now
    c.keys.result.now c.in_ok-search.search c.search_from.new.search c.store-store.ensures.state c.in_ok-search.ensures c.keys.ensures c.in_ok-search_from.ensures

pub go_on-requires-clause-there : goal.go_on-requires-clause-there
go_on-requires-clause-there c =
    start-there-all (state_at c.args.history.now.tree.made c.args.history.now.position) (state_at c.args.history.now.tree.made c.args.moment) c.store-store.result.now.state c.args.kept.now
    c.keys.result.now c.in_ok-search.search c.search_from.new.search c.store-store.ensures.state c.in_ok-search.ensures c.keys.ensures c.in_ok-search_from.ensures

pub returns-clause-set : goal.returns-clause-set
returns-clause-set c =
    found-set (state_at c.args.history.now.tree.made c.args.history.now.position) (state_at c.args.history.now.tree.made c.args.moment) c.store-store.result.now.state c.args.kept.now
    c.keys.result.now c.in_ok-search.search c.search_from.new.search c.store-store.ensures.state c.in_ok-search.ensures c.keys.ensures c.in_ok-search_from.ensures
    c.go_on.new.search c.in_ok-go_on.ensures.searched c.in_ok-go_on.ensures.ended

pub returns-clause-leaked : goal.returns-clause-leaked
returns-clause-leaked c =
    found-lost (state_at c.args.history.now.tree.made c.args.history.now.position) (state_at c.args.history.now.tree.made c.args.moment) c.store-store.result.now.state c.args.kept.now
    c.keys.result.now c.in_ok-search.search c.search_from.new.search c.store-store.ensures.state c.in_ok-search.ensures c.keys.ensures c.in_ok-search_from.ensures
    c.go_on.new.search c.in_ok-go_on.ensures.searched c.in_ok-go_on.ensures.ended
