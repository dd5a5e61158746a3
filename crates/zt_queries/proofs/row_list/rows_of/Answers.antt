-- The keys come one after another, so the rows are copied in their order.
use Rattle.std.proofs.Common.{◌≡◌, sym, ◌∙◌, ap, length, Some}
use Rattle.std.specs.List.{slice_get}
use Rattle.zt_rows.specs.Change.{keys}
use Rattle.zt_queries.proofs.KeyLaws.{next_key-first, take_none, has_row, copied_more, following_more, fewer_left, none_left}
use Rattle.zt_queries.proofs.row_list.rows_of.Goals as goal

pub loop-next-init : goal.loop-next-init
loop-next-init c = record {
  copied = take_none c.args.store.now.state.rows c.new-rows.result.items c.new-rows.ensures.items;
  following = c.after-next.ensures ∙ next_key-first c.args.store.now.state ∙ ap (λ n. slice_get (keys c.args.store.now.state) n) (sym (ap length c.new-rows.ensures.items));
}

pub push_row-requires : goal.push_row-requires
push_row-requires c =
    has_row c.args.store.now.state (length c.loop-next.rows.items) c.in-Some.key (sym c.loop-next.invariant.following ∙ c.in-Some.is)

pub loop-next-smaller : goal.loop-next-smaller
loop-next-smaller c =
    fewer_left c.args.store.now.state c.loop-next.rows.items c.push_row.new.rows.items c.in-Some.key (sym c.loop-next.invariant.following ∙ c.in-Some.is) c.in_ok-push_row.ensures

pub loop-next-preserved : goal.loop-next-preserved
loop-next-preserved c =
    let h : slice_get (keys c.args.store.now.state) (length c.loop-next.rows.items) ≡ Some c.in-Some.key = sym c.loop-next.invariant.following ∙ c.in-Some.is in
    record {
      copied = copied_more c.args.store.now.state c.loop-next.rows.items c.push_row.new.rows.items c.in-Some.key c.loop-next.invariant.copied h c.in_ok-push_row.ensures;
      following = following_more c.args.store.now.state c.loop-next.rows.items c.push_row.new.rows.items c.in-Some.key c.after-next-in-Some.result h c.in_ok-push_row.ensures c.after-next-in-Some.ensures;
    }

pub returns : goal.returns
returns c =
    none_left c.args.store.now.state c.loop-next.rows.items c.loop-next.next c.loop-next.invariant.copied c.loop-next.invariant.following c.in_default.not-Some
