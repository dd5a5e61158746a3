-- As the node that lies in its place has it.
use Rattle.std.proofs.Common.{◌≡◌, ℕ, Option, Some, None, refl, ap, get_or, sym, ◌∙◌, arith}
use Rattle.zt_rows.specs.declared.calls.Call.{Call}
use Rattle.zt_history.specs.declared.moment_nodes.StoredNode.{StoredNode}
use Rattle.zt_history.specs.ProofsOnly.StoredNodes.{NodeList, caller_of, no_call}
use Rattle.zt_history.proofs.StoredLaws.{node-got, read-any, read-within}
use Rattle.zt_history.proofs.moment_nodes.MomentNodes.call.Goals as goal

pub index-requires : goal.index-requires
index-requires c =
    let within = read-within c.self.inside.calls.items c.self.inside.replies.items c.self.inside.nodes.items c.deref.result.now c.self.inside.parents.items c.args.place c.in-Some.node c.in-Some.ensures.lookup c.deref.ensures.value c.self.invariant in
    omega (arith, within.0, c.self.inside.calls.ok.0)

pub returns-in-Some : goal.returns-in-Some
returns-in-Some c =
    let within = read-within c.self.inside.calls.items c.self.inside.replies.items c.self.inside.nodes.items c.deref.result.now c.self.inside.parents.items c.args.place c.in-Some.node c.in-Some.ensures.lookup c.deref.ensures.value c.self.invariant in
    let process : c.from.result ≡ c.in-Some.node.now.process = omega (arith, c.from.ensures) in
    let call = sym (read-any no_call c.self.inside.calls.items c.in-Some.node.now.call c.index.result.now within.0 c.index.ensures) in
    let read : ◌≡◌ {A = Option (ℕ × Call)} (Some (c.from.result, c.index.result.now)) (Some (c.in-Some.node.now.process, get_or c.self.inside.calls.items c.in-Some.node.now.call no_call)) = λ j. Some (process j, call j) in
    read
    ∙ node-got c.self.inside.calls.items c.self.inside.replies.items caller_of (λ (n : StoredNode). (n.process, get_or c.self.inside.calls.items n.call no_call)) (λ n p. refl) c.self.inside.nodes.items c.deref.result.now c.self.inside.parents.items c.args.self.now.list c.args.place (Some c.in-Some.node) c.in-Some.ensures.lookup c.deref.ensures.value c.self.invariant (ap (λ (l : NodeList). l.list) c.self.view_is)

pub returns-in-None : goal.returns-in-None
returns-in-None c =
    node-got c.self.inside.calls.items c.self.inside.replies.items caller_of (λ (n : StoredNode). (n.process, get_or c.self.inside.calls.items n.call no_call)) (λ n p. refl) c.self.inside.nodes.items c.deref.result.now c.self.inside.parents.items c.args.self.now.list c.args.place None c.in-None.ensures.lookup c.deref.ensures.value c.self.invariant (ap (λ (l : NodeList). l.list) c.self.view_is)
