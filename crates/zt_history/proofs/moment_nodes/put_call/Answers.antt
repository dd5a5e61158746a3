-- It stands there already.
use Rattle.zt_history.specs.ProofsOnly.StoredNodes.{no_call}
use Rattle.zt_history.proofs.StoredLaws.{put-there}
use Rattle.zt_history.proofs.moment_nodes.put_call.Goals as goal

pub returns-in-Some : goal.returns-in-Some
returns-in-Some c = put-there no_call c.args.calls.now.items c.args.call.now c.in-Some.place c.in-Some.ensures
