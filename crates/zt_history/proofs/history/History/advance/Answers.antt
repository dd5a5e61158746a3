-- The last of the moments that are left is made at the position; in the end the position is the end of the path.
use Rattle.std.proofs.Common.{◌∙◌, ◌++◌, length, reverse, ap, subst, arith}
use Rattle.zt_history.specs.Tree.{parent_at, path}
use Rattle.zt_history.specs.Timeline.{Timeline, moved_to}
use Rattle.zt_history.specs.TreeInvariant.{Falls}
use Rattle.zt_history.proofs.WayLaws.{moved-again}
use Rattle.zt_history.proofs.ForkLaws.{forth-later, forth-within, forth-next, forth-left, forth-done}
use Rattle.zt_history.proofs.history.History.advance.Goals as goal
use Rattle.zt_history.proofs.history.History.advance.Goals.{At-loop-next}

falls : (c : At-loop-next) → Falls c.args.self.now.tree.made
falls c = subst (λ (h : Timeline). Falls h.tree.made) c.self.view_is c.limits.ensures.falls

pub redo_moment-requires-clause-some : goal.redo_moment-requires-clause-some
redo_moment-requires-clause-some c =
    forth-later c.args.self.now.tree.made (falls (goal.at.redo_moment-requires-clause-some c).At-loop-next) _ c.requires c.loop-next.self.position c.in-Some.next c.loop-next.beyond.items c.pop.new.self.items
    c.loop-next.invariant.left c.in-Some.ensures.items

pub redo_moment-requires-clause-there : goal.redo_moment-requires-clause-there
redo_moment-requires-clause-there c =
    omega (
      arith,
      forth-within c.args.self.now.tree.made (falls (goal.at.redo_moment-requires-clause-there c).At-loop-next) (path c.args.self.now.tree.made c.args.self.now.position ++ reverse c.args.beyond.items) c.requires
          c.loop-next.self.position c.in-Some.next c.loop-next.beyond.items c.pop.new.self.items c.loop-next.invariant.left c.in-Some.ensures.items,
      ap (λ (h : Timeline). length h.tree.made) c.loop-next.invariant.moved,
    )

pub redo_moment-requires-clause-next : goal.redo_moment-requires-clause-next
redo_moment-requires-clause-next c =
    ap (λ (h : Timeline). parent_at h.tree.made c.in-Some.next) c.loop-next.invariant.moved
    ∙ forth-next c.args.self.now.tree.made (falls (goal.at.redo_moment-requires-clause-next c).At-loop-next) _ c.requires c.loop-next.self.position c.in-Some.next c.loop-next.beyond.items c.pop.new.self.items
    c.loop-next.invariant.left c.in-Some.ensures.items

pub loop-next-preserved : goal.loop-next-preserved
loop-next-preserved c = record {
  moved = moved-again c.args.self.now c.loop-next.self c.redo_moment.new.self c.in-Some.next c.loop-next.invariant.moved c.redo_moment.ensures;
  left =
      ap (λ (h : Timeline). path c.args.self.now.tree.made h.position ++ reverse c.pop.new.self.items) c.redo_moment.ensures
      ∙ forth-left c.args.self.now.tree.made (falls (goal.at.loop-next-preserved c).At-loop-next) _ c.requires c.loop-next.self.position c.in-Some.next c.loop-next.beyond.items c.pop.new.self.items
      c.loop-next.invariant.left c.in-Some.ensures.items;
}

pub returns : goal.returns
returns c =
    c.loop-next.invariant.moved
    ∙ ap (moved_to c.args.self.now)
    (forth-done c.args.self.now.tree.made (falls (goal.at.returns c).At-loop-next) _ c.loop-next.self.position c.loop-next.beyond.items c.loop-next.invariant.left (omega (arith, c.in_default.ensures.cases, c.loop-next.beyond.ok.0)))
