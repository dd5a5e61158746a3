-- The branch has its head at the parent; then the last moment is dropped.
use Rattle.std.proofs.Common.{◌≡◌, ◌-◌, ◌≤◌, suc, length, ap, subst, arith}
use Rattle.zt_history.specs.Tree.{parent_at}
use Rattle.zt_history.specs.ProofsOnly.KeptHistory.{IsKept}
use Rattle.zt_history.specs.declared.history.Undo.TheVariants as undo
use Rattle.zt_history.proofs.ChangedLaws.{kept-headed}
use Rattle.zt_history.proofs.history.History.retract.Goals as goal

pub invariant_of-self : goal.invariant_of-self
invariant_of-self c =
    let is : IsKept c.self.inside.store c.self.inside.moments c.self.inside.branches c.self.inside.position (undo.Call c.in-Call.id) =
    subst (IsKept c.self.inside.store c.self.inside.moments c.self.inside.branches c.self.inside.position) c.in-Call.is c.self.invariant.kept in
    let place : c.self.inside.position ≡ suc (c.self.inside.position - 1) = omega (arith, is.undo.0, is.undo.1) in
    let there : c.parent-head.result ≤ length c.self.inside.moments.made =
    omega (arith, c.parent-head.ensures, place, ap (parent_at c.self.inside.moments.made) place, is.moments_stand.falls (c.self.inside.position - 1), is.undo.1) in
    record {
      kept =
          kept-headed c.self.inside.store c.self.inside.moments c.self.inside.branches c.self.inside.position (undo.Call c.in-Call.id) is
          c.in-Call.id c.parent-head.result c.set_head.new.self c.set_head.ensures there;
      noted = c.self.invariant.noted;
    }
