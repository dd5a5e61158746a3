-- What is taken waits no more.
use Rattle.std.proofs.Common.{◌≡◌}
use Rattle.zt_queries.proofs.ReachabilityLaws.{taken_weight}
use Rattle.zt_queries.proofs.leak_graph.reachability.look_into.Goals as goal

pub returns-in_ok-extend_from_slice-in-Some-clause-fewer : goal.returns-in_ok-extend_from_slice-in-Some-clause-fewer
returns-in_ok-extend_from_slice-in-Some-clause-fewer c =
    let same : c.args.endpoint ≡ c.endpoint.inside.0 = cc in
    taken_weight c.args.queues.now c.remove.new.self c.args.endpoint c.endpoint.inside.0 same c.remove.ensures.entries
