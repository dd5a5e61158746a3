-- One record back.
use Rattle.std.proofs.Common.{◌-◌, refl, ap, arith}
use Rattle.zt_history.specs.Timeline.{Timeline}
use Rattle.zt_history.proofs.KeptLaws.{kept-back}
use Rattle.zt_history.proofs.WholeLaws.{noted-same}
use Rattle.zt_history.proofs.history.History.undo_moment.Goals as goal

pub invariant_of-self : goal.invariant_of-self
invariant_of-self c = record {
  kept =
      kept-back c.self.inside.store c.exchange_record.new.store c.self.inside.moments c.exchange_record.new.self c.self.inside.branches c.self.inside.undo (c.self.inside.position - 1) c.self.inside.position
      c.exchange_record.ensures (omega (arith, c.requires, ap (λ (h : Timeline). h.position) c.self.view_is)) c.parent-self-inside.result c.parent-self-inside.ensures c.self.invariant.kept;
  noted = noted-same c.self.inside.moments.made c.exchange_record.new.self.made c.self.inside.notes c.self.inside.notes c.exchange_record.ensures.made refl c.self.invariant.noted;
}
