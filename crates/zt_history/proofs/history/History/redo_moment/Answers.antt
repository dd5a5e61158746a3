-- One record forth.
use Rattle.std.proofs.Common.{◌-◌, length, refl, sym, ◌∙◌, ap, arith}
use Rattle.zt_history.specs.Tree.{parent_at}
use Rattle.zt_history.specs.Timeline.{Timeline}
use Rattle.zt_history.proofs.KeptLaws.{kept-forth}
use Rattle.zt_history.proofs.WholeLaws.{noted-same}
use Rattle.zt_history.proofs.history.History.redo_moment.Goals as goal

pub invariant_of-self : goal.invariant_of-self
invariant_of-self c = record {
  kept =
      kept-forth c.self.inside.store c.exchange_record.new.store c.self.inside.moments c.exchange_record.new.self c.self.inside.branches c.self.inside.undo (c.args.moment - 1) c.args.moment
      c.exchange_record.ensures (omega (arith, c.requires.some)) c.self.inside.position
      (ap (λ (h : Timeline). parent_at h.tree.made c.args.moment) c.self.view_is ∙ c.requires.next ∙ sym (ap (λ (h : Timeline). h.position) c.self.view_is))
      (omega (arith, c.requires.there, ap (λ (h : Timeline). length h.tree.made) c.self.view_is)) c.self.invariant.kept;
  noted = noted-same c.self.inside.moments.made c.exchange_record.new.self.made c.self.inside.notes c.self.inside.notes c.exchange_record.ensures.made refl c.self.invariant.noted;
}
