-- The parent first, and then the queue.
use Rattle.zt_look.proofs.SearchLaws.{looked-into}
use Rattle.zt_look.proofs.unleaked_search.look_into.Goals as goal

pub returns : goal.returns
returns c =
    looked-into c.args.store.now.state c.args.kept.now c.args.search.now c.add_parent.new.search c.add_messages.new.search c.args.koid c.object.result c.object.ensures
    c.in_ok-add_parent.ensures c.in_ok-add_messages.ensures
