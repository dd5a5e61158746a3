-- What one row more gives stands behind the others.
use Rattle.zt_queries.specs.ProofsOnly.Holders.{supports_by}
use Rattle.zt_queries.proofs.FrozenLaws.{given_more}
use Rattle.zt_queries.proofs.support_list.add_listed.Goals as goal

pub loop-key-preserved : goal.loop-key-preserved
loop-key-preserved c =
    given_more (supports_by c.args.part c.args.koid) c.args.rows.now c.loop-key.key-index c.loop-key-item.result c.args.list.now.items c.loop-key.list.items c.add_given.new.list.items
    c.loop-key-test.true c.loop-key-item.is c.loop-key.invariant c.in_ok-add_given.ensures
