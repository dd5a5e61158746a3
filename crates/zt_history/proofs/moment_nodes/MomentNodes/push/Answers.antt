-- Its call and its reply have places, and those of the others stay.
use Rattle.std.proofs.Common.{ap}
use Rattle.zt_history.specs.declared.moment_nodes.StoredNode.{StoredNode}
use Rattle.zt_history.specs.ProofsOnly.StoredNodes.{NodeList}
use Rattle.zt_history.proofs.StoredLaws.{stored-few, stored-push, stored-pushed, stored-within}
use Rattle.zt_history.proofs.moment_nodes.MomentNodes.push.Goals as goal

pub put_call-call-requires-clause-few : goal.put_call-call-requires-clause-few
put_call-call-requires-clause-few c =
    (stored-few c.self.inside.calls.items c.self.inside.replies.items c.self.inside.nodes.items c.self.inside.parents.items c.args.self.now.list c.self.invariant (ap (λ (l : NodeList). l.list) c.self.view_is) c.requires.few).0

pub put_reply-reply-requires-clause-few : goal.put_reply-reply-requires-clause-few
put_reply-reply-requires-clause-few c =
    (stored-few c.self.inside.calls.items c.self.inside.replies.items c.self.inside.nodes.items c.self.inside.parents.items c.args.self.now.list c.self.invariant (ap (λ (l : NodeList). l.list) c.self.view_is) c.requires.few).1

pub put_call-call-requires-clause-within : goal.put_call-call-requires-clause-within
put_call-call-requires-clause-within c i n at =
    (stored-within c.self.inside.calls.items c.self.inside.replies.items c.self.inside.nodes.items c.self.inside.parents.items c.self.invariant i n at).0

pub put_reply-reply-requires-clause-within : goal.put_reply-reply-requires-clause-within
put_reply-reply-requires-clause-within c i n at =
    (stored-within c.self.inside.calls.items c.self.inside.replies.items c.self.inside.nodes.items c.self.inside.parents.items c.self.invariant i n at).1

pub invariant_of-self : goal.invariant_of-self
invariant_of-self c =
    let n : StoredNode = record { depth = c.args.depth; process = c.process.inside.0; call = c.put_call-call.result.place; reply = c.put_reply-reply.result.place; owns_call = c.put_call-call.result.owned; owns_reply = c.put_reply-reply.result.owned } in
    stored-push c.self.inside.calls.items c.put_call-call.new.calls.items c.self.inside.replies.items c.put_reply-reply.new.replies.items c.self.inside.nodes.items c.push_reserved-2.new.self.items c.self.inside.parents.items c.push_reserved.new.self.items c.self.invariant n c.args.parent c.args.call.now c.args.reply.now
    c.put_call-call.ensures c.put_reply-reply.ensures c.push_reserved-2.ensures.items c.push_reserved.ensures.items

pub returns : goal.returns
returns c =
    let n : StoredNode = record { depth = c.args.depth; process = c.process.inside.0; call = c.put_call-call.result.place; reply = c.put_reply-reply.result.place; owns_call = c.put_call-call.result.owned; owns_reply = c.put_reply-reply.result.owned } in
    stored-pushed c.self.inside.calls.items c.put_call-call.new.calls.items c.self.inside.replies.items c.put_reply-reply.new.replies.items c.self.inside.nodes.items c.push_reserved-2.new.self.items c.self.inside.parents.items c.push_reserved.new.self.items c.self.invariant n c.args.parent c.args.call.now c.args.reply.now
    c.put_call-call.ensures c.put_reply-reply.ensures c.push_reserved-2.ensures.items c.push_reserved.ensures.items
    c.args.process c.args.self.now.list c.process.view_is (ap (λ (l : NodeList). l.list) c.self.view_is)
