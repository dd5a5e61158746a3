-- The first nodes are nodes still, and the first shortcuts and records theirs.
use Rattle.std.proofs.Common.{◌∙◌, ap, arith}
use Rattle.std.specs.Option.{option_to_list}
use Rattle.zt_history.specs.ProofsOnly.Branches.{without_last}
use Rattle.zt_history.specs.ProofsOnly.MomentNodes.{Chronicle, made_in}
use Rattle.zt_history.proofs.NodeLaws.{made_in-fewer}
use Rattle.zt_history.proofs.ListedLaws.{listed-left}
use Rattle.zt_history.proofs.moments.Moments.drop_last.Goals as goal

pub invariant_of-self : goal.invariant_of-self
invariant_of-self c =
    listed-left c.self.inside.nodes.list c.pop.new.self.list
    c.self.inside.shortcuts.items c.pop-2.new.self.items (option_to_list c.pop-2.result) c.self.inside.records.items c.pop-3.new.self.items _ _
    c.pop.ensures c.pop-2.ensures.items c.pop-2.ensures.rest (omega (arith, c.self.invariant.many)) c.pop-3.ensures.rest (omega (arith, c.self.invariant.recorded)) c.self.invariant

pub returns-clause-made : goal.returns-clause-made
returns-clause-made c = ap made_in c.pop.ensures ∙ made_in-fewer c.self.inside.nodes.list ∙ ap (λ (h : Chronicle). without_last h.made) c.self.view_is
