-- As many as nodes that lie in memory.
use Rattle.std.proofs.Common.{length, ap, arith}
use Rattle.zt_history.specs.ProofsOnly.StoredNodes.{NodeList}
use Rattle.zt_history.proofs.StoredLaws.{length-nodes}
use Rattle.zt_history.proofs.moment_nodes.MomentNodes.len.Goals as goal

pub returns : goal.returns
returns c =
    omega (arith, c.len.ensures, c.self.inside.nodes.ok.0, ap (λ (l : NodeList). length l.list) c.self.view_is, length-nodes c.self.inside.calls.items c.self.inside.replies.items c.self.inside.nodes.items c.self.inside.parents.items c.self.invariant.many)
