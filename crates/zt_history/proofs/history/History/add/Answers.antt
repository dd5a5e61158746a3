-- One branch more behind the others, and without it the branches of before.
use Rattle.std.proofs.Common.{◌∙◌, length, ap, arith}
use Rattle.zt_history.specs.Tree.{branch_named}
use Rattle.zt_history.specs.Timeline.{Timeline}
use Rattle.zt_history.proofs.ChangedLaws.{kept-branched}
use Rattle.zt_history.proofs.history.History.add.Goals as goal

pub invariant_of-self-2 : goal.invariant_of-self-2
invariant_of-self-2 c = record {
  kept =
      let h = c.self.view_is in
      kept-branched c.self.inside.store c.self.inside.moments c.self.inside.branches c.self.inside.position c.self.inside.undo c.self.invariant.kept
      _ c.add.new.self c.in_ok-add.ensures.ok
      (ap (λ (h : Timeline). branch_named h.tree.branches c.args.name.now) h ∙ c.requires.free)
      (omega (arith, c.requires.there, ap (λ (h : Timeline). length h.tree.made) h));
  noted = c.self.invariant.noted;
}
