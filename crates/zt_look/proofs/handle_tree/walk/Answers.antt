-- The walk begins with the first handle that came from no other place, and visits what is left, the last first.
use Rattle.std.proofs.Common.{◌++◌, sym, ◌∙◌, ap, refl, None}
use Rattle.zt_look.specs.HandleTree.{top}
use Rattle.zt_look.specs.ProofsOnly.TreeLinks.{pending, steps_left}
use Rattle.zt_look.proofs.TreeLaws.{below-first, left-popped}
use Rattle.zt_look.proofs.handle_tree.walk.Goals as goal

pub loop-next-init : goal.loop-next-init
loop-next-init c =
    ap (λ l. l ++ steps_left c.args.list.now c.push_found.new.left.items) c.new-steps.ensures.items
    ∙ ap (steps_left c.args.list.now) (c.in_ok-push_found.ensures ∙ ap (λ l. l ++ pending c.args.links.now.first c.top.result) c.new-left.ensures.items ∙ ap (pending c.args.links.now.first) c.top.ensures)
    ∙ ap (λ o. steps_left c.args.list.now (pending o top)) c.requires.first
    ∙ sym (below-first c.args.list.now 0 top None c.args.list.now refl)

pub loop-next-preserved : goal.loop-next-preserved
loop-next-preserved c =
    c.in_ok-visit.ensures.visited
    ∙ left-popped c.args.list.now c.loop-next.left.items c.pop.new.self.items c.in-Some.next c.loop-next.steps.items c.in-Some.ensures.items
    ∙ c.loop-next.invariant
