use Rattle.std.proofs.Common.{length, map, sym, ap, subst, ◌∙◌}
use Rattle.zt_store.specs.ProofsOnly.ChangedRows.{IsOrder, key_at, picked, row_at}
use Rattle.zt_store.specs.ProofsOnly.KeptRows.{AreOf}
use Rattle.zt_store.proofs.BeforeImageLaws.{arranged-are, front-written, length-firsts}
use Rattle.zt_store.proofs.before_images.BeforeImages.give_memory.Goals as goal

pub arrange-requires-clause-order : goal.arrange-requires-clause-order
arrange-requires-clause-order c =
    subst (IsOrder c.args.order.now) (ap (λ f. length f.rows) (sym c.self.view_is) ∙ length-firsts _ _ c.self.invariant ∙ ap length (sym c.as_mut_slice.ensures.value)) c.requires

-- no rows are left
pub invariant_of-self : goal.invariant_of-self
invariant_of-self c =
    ap (λ v. length v.items) c.swap-2.ensures.y_after ∙ ap (λ l. length l.rows.items) (c.deref_mut-2.ensures.value) ∙ ap (λ l. length l.rows.items) c.deref_mut.ensures.value ∙ ap length c.in_ok-lists.ensures.rows
    ∙ sym (ap (λ v. length v.items) c.swap.ensures.y_after ∙ ap (λ l. length l.keys.items) c.deref_mut.ensures.value ∙ ap length c.in_ok-lists.ensures.keys)

pub returns-clause-ok : goal.returns-clause-ok
returns-clause-ok c =
    let keys =
    ap (λ l. l.keys.items) c.deref_mut-2.ensures.value ∙ ap (λ v. v.items) c.swap.ensures.x_after ∙ c.shrink_to_fit.ensures.items ∙ c.truncate.ensures.items
    ∙ front-written c.self.inside.keys c.arrange.new.keys (length c.args.order.now) (c.arrange.ensures.touched_index ∙ ap length c.as_mut_slice.ensures.value)
    ∙ c.arrange.ensures.keys ∙ ap (λ ks. map (key_at ks) c.args.order.now) c.as_mut_slice.ensures.value in
    let rows =
    ap (λ v. v.items) c.swap-2.ensures.x_after ∙ c.shrink_to_fit-2.ensures.items ∙ c.truncate-2.ensures.items
    ∙ front-written c.self.inside.rows c.arrange.new.rows (length c.args.order.now) (c.arrange.ensures.row_places ∙ ap length c.as_mut_slice-2.ensures.value)
    ∙ c.arrange.ensures.rows ∙ ap (λ rs. map (row_at rs) c.args.order.now) c.as_mut_slice-2.ensures.value in
    subst (λ f. AreOf c.deref_mut-2.result.now.keys.items c.swap-2.new.x.items (picked f.rows c.args.order.now)) c.self.view_is
    (arranged-are c.self.inside.keys.items _ c.self.inside.rows.items _ c.args.order.now c.self.invariant keys rows)
