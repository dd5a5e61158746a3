-- What the last node has alone goes with it.
use Rattle.std.proofs.Common.{◌∙◌, ap, arith}
use Rattle.zt_history.specs.ProofsOnly.Branches.{without_last}
use Rattle.zt_history.specs.ProofsOnly.StoredNodes.{NodeList}
use Rattle.zt_history.proofs.StoredLaws.{stored-pop}
use Rattle.zt_history.proofs.moment_nodes.MomentNodes.pop.Goals as goal

pub invariant_of-self : goal.invariant_of-self
invariant_of-self c =
    (stored-pop c.self.inside.calls.items c.cut.new.list.items c.self.inside.replies.items c.cut-in-Some.new.list.items c.self.inside.nodes.items c.pop-2.new.self.items c.in-Some.node c.self.inside.parents.items c.pop.new.self.items _
    c.self.invariant c.in-Some.ensures.items c.pop.ensures.rest (omega (arith, c.self.inside.parents.ok.0)) c.cut.ensures c.cut-in-Some.ensures).stand

pub returns-in-Some : goal.returns-in-Some
returns-in-Some c =
    (stored-pop c.self.inside.calls.items c.cut.new.list.items c.self.inside.replies.items c.cut-in-Some.new.list.items c.self.inside.nodes.items c.pop-2.new.self.items c.in-Some.node c.self.inside.parents.items c.pop.new.self.items _
    c.self.invariant c.in-Some.ensures.items c.pop.ensures.rest (omega (arith, c.self.inside.parents.ok.0)) c.cut.ensures c.cut-in-Some.ensures).list
    ∙ ap (λ (l : NodeList). without_last l.list) c.self.view_is
