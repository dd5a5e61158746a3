-- It stands there already.
use Rattle.zt_history.specs.ProofsOnly.StoredNodes.{no_reply}
use Rattle.zt_history.proofs.StoredLaws.{put-there}
use Rattle.zt_history.proofs.moment_nodes.put_reply.Goals as goal

pub returns-in-Some : goal.returns-in-Some
returns-in-Some c = put-there no_reply c.args.replies.now.items c.args.reply.now c.in-Some.place c.in-Some.ensures
