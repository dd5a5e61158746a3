-- As the node that lies in its place has it.
use Rattle.std.proofs.Common.{Some, None, refl, ap}
use Rattle.zt_history.specs.declared.moment_nodes.StoredNode.{StoredNode}
use Rattle.zt_history.specs.ProofsOnly.StoredNodes.{MomentNode, NodeList}
use Rattle.zt_history.proofs.StoredLaws.{node-got}
use Rattle.zt_history.proofs.moment_nodes.MomentNodes.depth.Goals as goal

pub returns-in-Some : goal.returns-in-Some
returns-in-Some c =
    node-got c.self.inside.calls.items c.self.inside.replies.items (λ (n : MomentNode). n.depth) (λ (n : StoredNode). n.depth) (λ n p. refl) c.self.inside.nodes.items c.deref.result.now c.self.inside.parents.items c.args.self.now.list c.args.place (Some c.in-Some.node) c.in-Some.ensures.lookup c.deref.ensures.value c.self.invariant (ap (λ (l : NodeList). l.list) c.self.view_is)

pub returns-in-None : goal.returns-in-None
returns-in-None c =
    node-got c.self.inside.calls.items c.self.inside.replies.items (λ (n : MomentNode). n.depth) (λ (n : StoredNode). n.depth) (λ n p. refl) c.self.inside.nodes.items c.deref.result.now c.self.inside.parents.items c.args.self.now.list c.args.place None c.in-None.ensures.lookup c.deref.ensures.value c.self.invariant (ap (λ (l : NodeList). l.list) c.self.view_is)
