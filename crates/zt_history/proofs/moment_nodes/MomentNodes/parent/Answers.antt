-- The element of the list of the parents.
use Rattle.std.proofs.Common.{Some, None, ap}
use Rattle.zt_history.specs.ProofsOnly.StoredNodes.{NodeList}
use Rattle.zt_history.proofs.StoredLaws.{parent-got}
use Rattle.zt_history.proofs.moment_nodes.MomentNodes.parent.Goals as goal

pub returns-in-Some : goal.returns-in-Some
returns-in-Some c =
    parent-got c.self.inside.calls.items c.self.inside.replies.items c.self.inside.nodes.items c.self.inside.parents.items c.deref.result.now c.args.self.now.list c.args.place (Some c.in-Some.parent) c.in-Some.ensures.lookup c.deref.ensures.value c.self.invariant (ap (λ (l : NodeList). l.list) c.self.view_is)

pub returns-in-None : goal.returns-in-None
returns-in-None c =
    parent-got c.self.inside.calls.items c.self.inside.replies.items c.self.inside.nodes.items c.self.inside.parents.items c.deref.result.now c.args.self.now.list c.args.place None c.in-None.ensures.lookup c.deref.ensures.value c.self.invariant (ap (λ (l : NodeList). l.list) c.self.view_is)
