-- Where it is surely not leaked at the last place at which it is there, it never is.
use Rattle.zt_queries.proofs.FirstLeakLaws.{never-leaked}
use Rattle.zt_queries.proofs.leak_graph.first_leak.last_leaked.Goals as goal

pub returns-then-sure : goal.returns-then-sure
returns-then-sure c =
    never-leaked c.args.history.now c.args.ways.now.way.items c.args.ways.now.here.items c.args.ways.now.shared c.requires c.args.koid c.last_there-last.result.place
    c.last_there-last.ensures.last (c.last_there-last.ensures.sure c.if-sure.true)
