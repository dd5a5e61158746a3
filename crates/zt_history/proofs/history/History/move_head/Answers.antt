-- The new head is a moment.
use Rattle.std.proofs.Common.{rules, ◌≤◌, length}
use Rattle.zt_history.proofs.ChangedLaws.{kept-headed}
use Rattle.zt_history.proofs.history.History.move_head.Goals as goal

pub invariant_of-self-2 : goal.invariant_of-self-2
invariant_of-self-2 c = record {
  kept =
      let there : c.args.moment ≤ length c.self.inside.moments.made = search rules in
      kept-headed c.self.inside.store c.self.inside.moments c.self.inside.branches c.self.inside.position c.self.inside.undo c.self.invariant.kept
      c.args.id c.args.moment c.set_head.new.self c.set_head.ensures there;
  noted = c.self.invariant.noted;
}
