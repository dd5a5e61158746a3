use Rattle.std.proofs.Common.{arith, sym, subst}
use Rattle.zt_rows.specs.State.{State}
use Rattle.zt_index.specs.ProofsOnly.KoidCounts.{AreKoidCounts, NamesFew}
use Rattle.zt_index.proofs.IndexLaws.{indexed-made}
use Rattle.zt_index.proofs.PacketCountLaws.{counted-made}
use Rattle.zt_store.proofs.Fitting.{keeps-grown}
use Rattle.zt_store.proofs.store.Store.add_place.Goals as goal

pub returns-clause-kept : goal.returns-clause-kept
returns-clause-kept c = rw (← c.self.view_is) (keeps-grown _ _ c.make_place.ensures.kept (omega arith))

pub invariant_of-self : goal.invariant_of-self
invariant_of-self c = record {
  koid_counts = c.self.invariant.koid_counts;
  few = c.self.invariant.few;
  packets_counted = c.self.invariant.packets_counted;
  indexed = c.grow_for.ensures.same c.self.inside.cells c.self.invariant.indexed;
}

pub invariant_of-self-in_err-grow_for-2 : goal.invariant_of-self-in_err-grow_for-2
invariant_of-self-in_err-grow_for-2 c = record {
  koid_counts = c.self.invariant.koid_counts;
  few = c.self.invariant.few;
  packets_counted = c.grow_for-2.ensures.same c.self.inside.cells c.self.invariant.packets_counted;
  indexed = c.grow_for.ensures.same c.self.inside.cells c.self.invariant.indexed;
}

pub invariant_of-self-2 : goal.invariant_of-self-2
invariant_of-self-2 c = record {
  koid_counts = subst (λ (S : State). AreKoidCounts S c.self.inside.support_counts) (sym c.make_place.ensures.state) c.self.invariant.koid_counts;
  few = subst (λ (S : State). NamesFew S) (sym c.make_place.ensures.state) c.self.invariant.few;
  packets_counted = counted-made c.args.key.now c.self.inside.cells c.make_place.new.self c.grow_for-2.new.self (c.grow_for-2.ensures.same c.self.inside.cells c.self.invariant.packets_counted) c.in_ok-grow_for-2.ensures.made c.make_place.ensures.state c.make_place.ensures.packets;
  indexed = indexed-made c.args.key.now c.self.inside.cells c.make_place.new.self c.grow_for.new.self (c.grow_for.ensures.same c.self.inside.cells c.self.invariant.indexed) c.in_ok-grow_for.ensures.made c.make_place.ensures.state c.make_place.ensures.waits c.make_place.ensures.objects;
}
