use Rattle.std.proofs.Common.{◌∙◌}
use Rattle.zt_store.proofs.Fitting.{keeps-grown}
use Rattle.zt_store.proofs.store.Store.make_room.Goals as goal

pub returns-clause-kept : goal.returns-clause-kept
returns-clause-kept c =
    let placed = rw (← c.self.view_is) at c.make_place.ensures.kept in
    λ R h. keeps-grown _ _ (λ k there. there) c.grow_if.ensures.kept R (placed R h)

pub invariant_of-self : goal.invariant_of-self
invariant_of-self c = record {
  koid_counts = λ x. c.grow_if.ensures.same x ∙ c.self.invariant.koid_counts x;
  few = c.self.invariant.few;
  packets_counted = c.self.invariant.packets_counted;
  indexed = c.self.invariant.indexed;
}
