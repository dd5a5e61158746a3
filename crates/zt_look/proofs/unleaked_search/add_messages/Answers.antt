-- The messages at an endpoint have numbers below its next one.
use Rattle.zt_look.proofs.SearchLaws.{queue-between}
use Rattle.zt_look.proofs.unleaked_search.add_messages.Goals as goal

pub add_between-requires : goal.add_between-requires
add_between-requires c = queue-between c.args.store.now.state c.args.endpoint c.in-Some.first c.next_at-next.result c.requires c.in-Some.ensures.first.1 c.next_at-next.ensures
