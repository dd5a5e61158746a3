-- A message that names the object is taken in, with its endpoint.
use Rattle.std.proofs.Common.{refl, sym, ap, ◌∙◌, arith}
use Rattle.zt_rows.specs.declared.keys.RowKey.TheVariants as key
use Rattle.zt_queries.specs.ProofsOnly.NameSearch.{is_one}
use Rattle.zt_queries.proofs.NameSearchLaws.{look-wider, look-counted, on_ok}
use Rattle.zt_queries.proofs.leak_graph.name_search.NameSearch.look_at.Goals as goal

pub returns-clause-wider : goal.returns-clause-wider
returns-clause-wider c = on_ok c.add_end.result _ _ c.add_end.ensures.ends (λ put_in.
    look-wider c.args.store.now.state c.args.koid c.in-Msg.endpoint c.in-Msg.field-1 c.times_named-times.result (key.Msg c.in-Msg.endpoint c.in-Msg.field-1) _ c.args.self.now.ends.keys c.add_end.new.self.ends.keys
    refl c.row.ensures c.times_named-times.ensures put_in (omega arith))

pub returns-clause-counted : goal.returns-clause-counted
returns-clause-counted c = on_ok c.add_end.result _ _ c.add_end.ensures.ends (λ put_in.
    look-counted c.args.store.now.state c.args.koid c.in-Msg.endpoint c.in-Msg.field-1 c.times_named-times.result (key.Msg c.in-Msg.endpoint c.in-Msg.field-1) _ c.args.self.now.ends.keys c.add_end.new.self.ends.keys
    refl c.row.ensures c.times_named-times.ensures put_in
    c.args.self.now.messages.items c.add_end.new.self.messages.items c.args.self.now.left c.add_end.new.self.left
    (ap (λ l. is_one l (key.Msg c.in-Msg.endpoint c.in-Msg.field-1)) (sym c.deref.ensures.value) ∙ sym c.if-contains.ensures.value) (ap (λ v. v.items) c.add_end.ensures.messages ∙ c.in_ok-push.ensures.items) (c.add_end.ensures.left ∙ c.saturating_sub-self.ensures))
