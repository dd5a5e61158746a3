-- The way goes up from the later of both moments, and its call's keys are added; where both are one moment, each key at which the
-- states differ was added.
use Rattle.std.proofs.Common.{sym, subst}
use Rattle.zt_history.specs.Tree.{state_at}
use Rattle.zt_look.specs.ProofsOnly.TwoStates.{IsSameBeside}
use Rattle.zt_look.proofs.TwoStateLaws.{beside-back, beside-kept, beside-met, both-same, parent-within}
use Rattle.zt_look.proofs.changes_between.keys_between.Goals as goal

pub moments-preserved-then-lt : goal.moments-preserved-then-lt
moments-preserved-then-lt c = record {
  left = c.moments.invariant.left;
  right = parent-within c.args.history.now.tree.made c.limits.ensures.tree.moments.falls c.moments.right c.parent_of-right.result c.moments.invariant.right c.parent_of-right.ensures;
  from =
      beside-kept (state_at c.args.history.now.tree.made c.args.from) _ _ c.moments.keys c.add_keys.new.keys c.in_ok-add_keys.ensures
      (state_at c.args.history.now.tree.made c.moments.left) c.moments.invariant.from;
  to =
      subst (λ m. IsSameBeside (state_at c.args.history.now.tree.made c.args.to) (state_at c.args.history.now.tree.made m) c.add_keys.new.keys) (sym c.parent_of-right.ensures)
      (beside-back (state_at c.args.history.now.tree.made c.args.to) _ _ c.moments.keys c.add_keys.new.keys c.in_ok-add_keys.ensures c.moments.invariant.to);
}

pub moments-preserved : goal.moments-preserved
moments-preserved c = record {
  left = parent-within c.args.history.now.tree.made c.limits.ensures.tree.moments.falls c.moments.left c.parent_of-left.result c.moments.invariant.left c.parent_of-left.ensures;
  right = c.moments.invariant.right;
  from =
      subst (λ m. IsSameBeside (state_at c.args.history.now.tree.made c.args.from) (state_at c.args.history.now.tree.made m) c.add_keys-else-lt.new.keys) (sym c.parent_of-left.ensures)
      (beside-back (state_at c.args.history.now.tree.made c.args.from) _ _ c.moments.keys c.add_keys-else-lt.new.keys c.in_ok-add_keys-2.ensures c.moments.invariant.from);
  to =
      beside-kept (state_at c.args.history.now.tree.made c.args.to) _ _ c.moments.keys c.add_keys-else-lt.new.keys c.in_ok-add_keys-2.ensures
      (state_at c.args.history.now.tree.made c.moments.right) c.moments.invariant.to;
}

pub returns-clause-covers : goal.returns-clause-covers
returns-clause-covers c =
    beside-met (state_at c.args.history.now.tree.made c.args.from) (state_at c.args.history.now.tree.made c.args.to) (state_at c.args.history.now.tree.made c.moments.left)
    c.moments.keys c.moments.invariant.from
    (subst (λ m. IsSameBeside (state_at c.args.history.now.tree.made c.args.to) (state_at c.args.history.now.tree.made m) c.moments.keys)
    (sym (both-same c.moments.left c.moments.right c.moments-test.ensures)) c.moments.invariant.to)
