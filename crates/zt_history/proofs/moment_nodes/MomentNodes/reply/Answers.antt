-- As the node that lies in its place has it.
use Rattle.std.proofs.Common.{Some, None, refl, ap, get_or, sym, ◌∙◌, arith}
use Rattle.zt_rows.specs.declared.calls.Reply.{Reply}
use Rattle.zt_history.specs.declared.moment_nodes.StoredNode.{StoredNode}
use Rattle.zt_history.specs.ProofsOnly.StoredNodes.{MomentNode, NodeList, no_reply}
use Rattle.zt_history.proofs.StoredLaws.{node-got, read-any, read-within}
use Rattle.zt_history.proofs.moment_nodes.MomentNodes.reply.Goals as goal

pub index-requires : goal.index-requires
index-requires c =
    let within = read-within c.self.inside.calls.items c.self.inside.replies.items c.self.inside.nodes.items c.deref.result.now c.self.inside.parents.items c.args.place c.in-Some.node c.in-Some.ensures.lookup c.deref.ensures.value c.self.invariant in
    omega (arith, within.1, c.self.inside.replies.ok.0)

pub returns-in-Some : goal.returns-in-Some
returns-in-Some c =
    let within = read-within c.self.inside.calls.items c.self.inside.replies.items c.self.inside.nodes.items c.deref.result.now c.self.inside.parents.items c.args.place c.in-Some.node c.in-Some.ensures.lookup c.deref.ensures.value c.self.invariant in
    ap (λ (r : Reply). Some r) (sym (read-any no_reply c.self.inside.replies.items c.in-Some.node.now.reply c.index.result.now within.1 c.index.ensures))
    ∙ node-got c.self.inside.calls.items c.self.inside.replies.items (λ (n : MomentNode). n.reply) (λ (n : StoredNode). get_or c.self.inside.replies.items n.reply no_reply) (λ n p. refl) c.self.inside.nodes.items c.deref.result.now c.self.inside.parents.items c.args.self.now.list c.args.place (Some c.in-Some.node) c.in-Some.ensures.lookup c.deref.ensures.value c.self.invariant (ap (λ (l : NodeList). l.list) c.self.view_is)

pub returns-in-None : goal.returns-in-None
returns-in-None c =
    node-got c.self.inside.calls.items c.self.inside.replies.items (λ (n : MomentNode). n.reply) (λ (n : StoredNode). get_or c.self.inside.replies.items n.reply no_reply) (λ n p. refl) c.self.inside.nodes.items c.deref.result.now c.self.inside.parents.items c.args.self.now.list c.args.place None c.in-None.ensures.lookup c.deref.ensures.value c.self.invariant (ap (λ (l : NodeList). l.list) c.self.view_is)
