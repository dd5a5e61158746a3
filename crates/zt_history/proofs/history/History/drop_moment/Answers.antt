-- The store goes back over the last moment, which is dropped.
use Rattle.std.proofs.Common.{◌≡◌, ◌-◌, ◌<◌, ◌∙◌, length, None, sym, ap, subst, arith}
use Rattle.zt_history.specs.ProofsOnly.Branches.{without_last}
use Rattle.zt_history.specs.ProofsOnly.Timeline.{without_moment}
use Rattle.zt_history.specs.Timeline.{Timeline}
use Rattle.zt_history.specs.TreeInvariant.{AreBranches}
use Rattle.zt_history.proofs.ChangedLaws.{kept-dropped}
use Rattle.zt_history.proofs.WholeLaws.{noted-uncalled}
use Rattle.zt_history.proofs.history.History.drop_moment.Goals as goal

pub invariant_of-self : goal.invariant_of-self
invariant_of-self c =
    let h = c.self.view_is in
    let some : 0 < length c.self.inside.moments.made = omega (arith, c.requires.some, ap (λ (h : Timeline). length h.tree.made) h) in
    let end : c.self.inside.position ≡ length c.self.inside.moments.made = ap (λ (h : Timeline). h.position) h ∙ c.requires.last ∙ sym (ap (λ (h : Timeline). length h.tree.made) h) in
    record {
      kept =
          kept-dropped c.self.inside.store c.exchange_record.new.store c.self.inside.moments c.exchange_record.new.self c.drop_last.new.self c.self.inside.branches c.self.inside.undo
          c.self.inside.position (c.self.inside.position - 1) c.parent-parent.result c.self.invariant.kept c.exchange_record.ensures (omega (arith, some, end)) end c.parent-parent.ensures
          c.drop_last.ensures.made c.drop_last.ensures.records (subst (λ (h : Timeline). AreBranches (length h.tree.made - 1) h.tree.branches) (sym h) c.requires.heads);
      noted =
          noted-uncalled c.self.inside.moments c.exchange_record.new.self c.drop_last.new.self c.self.inside.notes c.drop_last-2.new.self c.self.inside.position
          c.self.invariant.kept.moments_stand some c.exchange_record.ensures.made c.drop_last.ensures.made end c.self.invariant.noted
          c.drop_last-2.ensures.notes c.drop_last-2.ensures.next_koids;
    }

pub returns : goal.returns
returns c =
    (λ i. record {
      tree = record { made = (c.drop_last.ensures.made ∙ ap without_last c.exchange_record.ensures.made) i; branches = c.self.inside.branches };
      position = c.parent-parent.ensures i;
      before = None;
    })
    ∙ ap without_moment c.self.view_is
