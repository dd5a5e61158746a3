use Rattle.std.proofs.Common.{refl, arith, ap, rules, sym, subst, length, ◌∙◌, Option}
use Rattle.std.proofs.lemmas.Grind.{common_steps}
use Rattle.std.specs.Option.{option_copied}
use Rattle.zt_rows.specs.declared.rows.Row.{Row}
use Rattle.zt_rows.specs.State.{put, row}
use Rattle.zt_cells.specs.RowSlots.{decode_slot}
use Rattle.zt_cells.specs.CellsView.{CellsView}
use Rattle.zt_index.specs.IndexInvariant.{IsIndexed}
use Rattle.zt_index.specs.KoidCounts.{numbers_at}
use Rattle.zt_index.specs.PacketCounts.{ArePending, is_user_packet}
use Rattle.zt_index.proofs.IndexLaws.{shelved_put}
use Rattle.zt_index.proofs.PacketCountLaws.{counted-exchanged, number-few, number-there, went-counted}
use Rattle.zt_index.proofs.SupportCountLaws.{small-at, stands-within, tasks-few, went-there, koid_counts-exchanged, names_few-exchanged}
use Rattle.zt_store.specs.StoreView.{Stored}
use Rattle.zt_store.proofs.StoreLaws.{place-there, went-fits}
use Rattle.zt_store.proofs.store.Store.exchange_under.Goals as goal

pub raise_if-requires-clause-small : goal.raise_if-requires-clause-small
raise_if-requires-clause-small c = λ x. let small = (small-at c.self.inside.cells.state c.self.inside.support_counts x (numbers_at c.self.inside.support_counts x) refl c.self.invariant.koid_counts c.self.invariant.few c.limits.ensures.few) in omega (arith, small.named)

pub raise_if-requires-clause-few_tasks : goal.raise_if-requires-clause-few_tasks
raise_if-requires-clause-few_tasks c = λ x. tasks-few c.self.inside.cells.state c.self.inside.support_counts x c.self.invariant.koid_counts c.limits.ensures.low

pub raise_if-requires-clause-few_processes : goal.raise_if-requires-clause-few_processes
raise_if-requires-clause-few_processes c = λ x. let small = (small-at c.self.inside.cells.state c.self.inside.support_counts x (numbers_at c.self.inside.support_counts x) refl c.self.invariant.koid_counts c.self.invariant.few c.limits.ensures.few) in omega (arith, small.processes)

pub lower_if-requires-clause-within : goal.lower_if-requires-clause-within
lower_if-requires-clause-within c =
    rw (c.raise_if.ensures.len, c.decode_slot-outward.ensures, c.exchange.ensures.was) (stands-within c.self.inside.cells.state c.self.inside.support_counts c.args.key.now c.self.invariant.koid_counts)

pub lower_if-requires-clause-there : goal.lower_if-requires-clause-there
lower_if-requires-clause-there c = λ x. (went-there c.self.inside.cells.state c.args.key.now (option_copied c.decode_slot-inward.result) (option_copied c.decode_slot-outward.result) (c.decode_slot-outward.ensures ∙ c.exchange.ensures.was) c.self.inside.support_counts c.raise_if.new.self c.self.invariant.koid_counts c.raise_if.ensures.added x).named

pub lower_if-requires-clause-jobs : goal.lower_if-requires-clause-jobs
lower_if-requires-clause-jobs c = λ x. (went-there c.self.inside.cells.state c.args.key.now (option_copied c.decode_slot-inward.result) (option_copied c.decode_slot-outward.result) (c.decode_slot-outward.ensures ∙ c.exchange.ensures.was) c.self.inside.support_counts c.raise_if.new.self c.self.invariant.koid_counts c.raise_if.ensures.added x).jobs

pub lower_if-requires-clause-processes : goal.lower_if-requires-clause-processes
lower_if-requires-clause-processes c = λ x. (went-there c.self.inside.cells.state c.args.key.now (option_copied c.decode_slot-inward.result) (option_copied c.decode_slot-outward.result) (c.decode_slot-outward.ensures ∙ c.exchange.ensures.was) c.self.inside.support_counts c.raise_if.new.self c.self.invariant.koid_counts c.raise_if.ensures.added x).processes

pub invariant_of-self : goal.invariant_of-self
invariant_of-self c =
    let came : Option Row = option_copied c.decode_slot-inward.result in
    let is_put = ap (λ (s : CellsView). s.state) c.exchange.ensures.put ∙ ap (put c.self.inside.cells.state c.args.key.now) (sym c.decode_slot-inward.ensures) in record {
      koid_counts = koid_counts-exchanged c.self.inside.cells.state c.args.key.now came (option_copied c.decode_slot-outward.result) (c.decode_slot-outward.ensures ∙ c.exchange.ensures.was) c.self.inside.support_counts c.raise_if.new.self c.self.invariant.koid_counts c.raise_if.ensures.added c.exchange.new.self.state c.lower_if.new.self is_put c.lower_if.ensures.taken;
      few = names_few-exchanged c.self.inside.cells.state c.exchange.new.self.state c.args.key.now came is_put c.self.invariant.few c.raise_if.ensures.few;
      packets_counted = subst (λ (s : CellsView). ArePending s c.follow-2.new.self) (ap (shelved_put c.self.inside.cells c.args.key.now) c.decode_slot-inward.ensures ∙ sym c.exchange.ensures.put)
          (counted-exchanged c.self.inside.cells c.args.key.now came c.is_user_packet-user_came.result c.is_user_packet.result c.self.inside.packet_counts c.follow-2.new.self c.is_user_packet-user_came.ensures
          (c.is_user_packet.ensures ∙ ap is_user_packet (c.decode_slot-outward.ensures ∙ c.exchange.ensures.was)) c.follow-2.ensures.moved c.follow-2.ensures.len c.self.invariant.packets_counted);
      indexed = subst (λ (s : CellsView). IsIndexed s c.follow.new.self) (ap (shelved_put c.self.inside.cells c.args.key.now) c.decode_slot-inward.ensures ∙ sym c.exchange.ensures.put) c.follow.ensures;
    }

pub returns : goal.returns
returns c = record {
  put = first_of (search rules, grind (arith, common_steps));
  was = c.exchange.ensures.was ∙ ap (λ (s : Stored). row s.state c.args.key.now) c.self.view_is;
  fit =
      went-fits c.args.self.now c.self.inside.cells.state c.self.inside.cells.sizes c.exchange.new.self.sizes c.self.inside.support_counts c.lower_if.new.self c.args.key.now (decode_slot c.args.key.now c.args.kept.now) (decode_slot c.args.key.now c.exchange.new.kept) c.self.view_is c.requires.placed
      (ap (λ (s : CellsView). s.sizes) c.exchange.ensures.put) (c.lower_if.ensures.len ∙ c.raise_if.ensures.len) c.exchange.ensures.was c.self.invariant.koid_counts;
  suited = rw c.exchange.ensures.was (c.limits.ensures.suited c.args.key.now);
}

pub follow-requires-clause-placed : goal.follow-requires-clause-placed
follow-requires-clause-placed c =
    place-there c.args.self.now c.self.inside.cells.state c.self.inside.cells.sizes (length c.self.inside.support_counts) c.args.key.now (decode_slot c.args.key.now c.args.kept.now) c.self.view_is c.requires.placed

pub follow-requires-2-clause-within : goal.follow-requires-2-clause-within
follow-requires-2-clause-within c =
    number-there c.self.inside.cells c.self.inside.packet_counts c.args.key.now c.self.invariant.packets_counted
    (place-there c.args.self.now c.self.inside.cells.state c.self.inside.cells.sizes (length c.self.inside.support_counts) c.args.key.now (decode_slot c.args.key.now c.args.kept.now) c.self.view_is c.requires.placed)

pub follow-requires-2-clause-few : goal.follow-requires-2-clause-few
follow-requires-2-clause-few c = λ x. number-few c.self.inside.cells c.self.inside.packet_counts x c.self.invariant.packets_counted c.limits.ensures.few

pub follow-requires-2-clause-there : goal.follow-requires-2-clause-there
follow-requires-2-clause-there c =
    λ x. went-counted c.self.inside.cells c.self.inside.packet_counts c.args.key.now c.is_user_packet.result x
    (c.is_user_packet.ensures ∙ ap is_user_packet (c.decode_slot-outward.ensures ∙ c.exchange.ensures.was)) c.self.invariant.packets_counted
