-- The handle has its links where the list has it; beyond the list there is neither.
use Rattle.std.proofs.Common.{◌≡◌, ◌++◌, ◌∷◌, [], ◌∙◌, ap}
use Rattle.zt_look.specs.HandleTree.{level_below}
use Rattle.zt_look.specs.ProofsOnly.TreeLinks.{pending, steps_left}
use Rattle.zt_look.proofs.MessageLaws.{ok_more}
use Rattle.zt_look.proofs.TreeLaws.{less-none, less-some, no-links, read-at, read-beyond, visit-none, visit-some}
use Rattle.zt_look.proofs.handle_tree.visit.Goals as goal

pub returns-in_ok-push_found-in-Some-Some-clause-visited : goal.returns-in_ok-push_found-in-Some-Some-clause-visited
returns-in_ok-push_found-in-Some-Some-clause-visited c =
    ok_more c.push_found-in-Some-Some.result _ _ (λ (put : c.push_found-in-Some-Some.new.left.items ≡ c.push_found.new.left.items ++ pending c.in-Some-Some.link.now.child c.level_below.result).
    ap (λ l. l ++ steps_left c.args.list.now c.push_found-in-Some-Some.new.left.items)
    (c.in_ok-push-in-Some-Some.ensures.items ∙ ap (λ d. c.args.steps.now.items ++ record { depth = d; handle = c.in-Some-Some.handle.now } ∷ []) c.depth_in-depth.ensures)
    ∙ visit-some c.args.list.now c.args.links.now c.requires c.args.next c.in-Some-Some.handle.now c.in-Some-Some.link.now
    (read-at c.args.list.now c.args.next.index c.in-Some-Some.handle.now c.in-Some-Some.ensures.lookup.0 c.in-Some-Some.ensures.lookup.1)
    (read-at c.args.links.now c.args.next.index c.in-Some-Some.link.now c.in-Some-Some.ensures'.lookup.0 c.in-Some-Some.ensures'.lookup.1)
    c.level_below.result (c.level_below.ensures ∙ ap (λ d. level_below d c.in-Some-Some.handle.now) c.depth_in-depth.ensures) c.args.steps.now.items c.args.left.now.items c.push_found-in-Some-Some.new.left.items
    (put ∙ ap (λ l. l ++ pending c.in-Some-Some.link.now.child c.level_below.result) c.in_ok-push_found-in-Some-Some.ensures)
    ) c.push_found-in-Some-Some.ensures

pub returns-in_ok-push_found-in-Some-Some-clause-less : goal.returns-in_ok-push_found-in-Some-Some-clause-less
returns-in_ok-push_found-in-Some-Some-clause-less c =
    ok_more c.push_found-in-Some-Some.result _ _ (λ (put : c.push_found-in-Some-Some.new.left.items ≡ c.push_found.new.left.items ++ pending c.in-Some-Some.link.now.child c.level_below.result).
    less-some c.args.list.now c.args.links.now c.requires c.args.next c.in-Some-Some.handle.now c.in-Some-Some.link.now
    (read-at c.args.list.now c.args.next.index c.in-Some-Some.handle.now c.in-Some-Some.ensures.lookup.0 c.in-Some-Some.ensures.lookup.1)
    (read-at c.args.links.now c.args.next.index c.in-Some-Some.link.now c.in-Some-Some.ensures'.lookup.0 c.in-Some-Some.ensures'.lookup.1)
    c.level_below.result (c.level_below.ensures ∙ ap (λ d. level_below d c.in-Some-Some.handle.now) c.depth_in-depth.ensures) c.args.steps.now.items c.args.left.now.items c.push_found-in-Some-Some.new.left.items
    (put ∙ ap (λ l. l ++ pending c.in-Some-Some.link.now.child c.level_below.result) c.in_ok-push_found-in-Some-Some.ensures)
    ) c.push_found-in-Some-Some.ensures

pub returns-in_default-clause-visited : goal.returns-in_default-clause-visited
returns-in_default-clause-visited c =
    visit-none c.args.list.now c.args.links.now c.requires c.args.next
    (no-links c.args.list.now c.args.links.now c.requires c.args.next (read-beyond c.args.links.now c.args.next.index c.in_default.ensures'.lookup.0))
    c.args.steps.now.items c.args.left.now.items

pub returns-in_default-clause-less : goal.returns-in_default-clause-less
returns-in_default-clause-less c =
    less-none c.args.list.now c.args.links.now c.requires c.args.next
    (no-links c.args.list.now c.args.links.now c.requires c.args.next (read-beyond c.args.links.now c.args.next.index c.in_default.ensures'.lookup.0))
    c.args.left.now.items

pub returns-in_default-2-clause-visited : goal.returns-in_default-2-clause-visited
returns-in_default-2-clause-visited c =
    visit-none c.args.list.now c.args.links.now c.requires c.args.next (read-beyond c.args.list.now c.args.next.index c.in_default.ensures.lookup.0)
    c.args.steps.now.items c.args.left.now.items

pub returns-in_default-2-clause-less : goal.returns-in_default-2-clause-less
returns-in_default-2-clause-less c =
    less-none c.args.list.now c.args.links.now c.requires c.args.next (read-beyond c.args.list.now c.args.next.index c.in_default.ensures.lookup.0)
    c.args.left.now.items
