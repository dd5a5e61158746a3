-- The call was made at the head, which moves to the moment that it made; taken back, it is at its parent again.
use Rattle.std.proofs.Common.{length, ◌∙◌, ap, subst}
use Rattle.zt_history.specs.Tree.{head_at}
use Rattle.zt_history.specs.Timeline.{Timeline}
use Rattle.zt_history.specs.TreeInvariant.{AreBranches}
use Rattle.zt_history.proofs.ChangedLaws.{kept-followed, followed-seen}
use Rattle.zt_history.proofs.history.History.call.Goals as goal

pub invariant_of-self : goal.invariant_of-self
invariant_of-self c = record {
  kept =
      kept-followed c.self-2.inside.store c.self-2.inside.moments c.self-2.inside.branches c.set_head.new.self c.self-2.inside.position c.self-2.inside.undo c.self-2.invariant.kept
      c.args.self.now c.args.id c.args.process c.args.call.now
      (subst (λ (h : Timeline). AreBranches (length h.tree.made) h.tree.branches) c.self.view_is c.self.invariant.kept.branches_stand) c.requires
      _ c.self-2.view_is _ c.in_ok-made.ensures.moved (c.head-head.ensures ∙ ap (λ (h : Timeline). head_at h.tree.branches c.args.id) c.self.view_is)
      _ c.in_ok-made.ensures.position c.set_head.ensures;
  noted = c.self-2.invariant.noted;
}

pub returns-clause-before : goal.returns-clause-before
returns-clause-before c =
    ap (λ (t : Timeline). t.before)
    (followed-seen c.self-2.inside.store c.self-2.inside.moments c.self-2.inside.branches c.set_head.new.self c.self-2.inside.position c.self-2.inside.undo c.self-2.invariant.kept
    c.args.self.now c.args.id c.args.process c.args.call.now
    (subst (λ (h : Timeline). AreBranches (length h.tree.made) h.tree.branches) c.self.view_is c.self.invariant.kept.branches_stand) c.requires
    _ c.self-2.view_is _ c.in_ok-made.ensures.moved (c.head-head.ensures ∙ ap (λ (h : Timeline). head_at h.tree.branches c.args.id) c.self.view_is)
    _ c.in_ok-made.ensures.position c.set_head.ensures)
