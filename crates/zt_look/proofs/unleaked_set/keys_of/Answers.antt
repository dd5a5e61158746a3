-- The keys come one after another.
use Rattle.std.proofs.Common.{◌≡◌, sym, ◌∙◌, ap, length, Some}
use Rattle.std.specs.List.{slice_get}
use Rattle.zt_rows.specs.Change.{keys}
use Rattle.zt_queries.proofs.KeyLaws.{next_key-first, next_key-after, take_none, take_more}
use Rattle.zt_queries.proofs.HoldLaws.{all_taken, longer, less_left}
use Rattle.zt_look.proofs.unleaked_set.keys_of.Goals as goal

pub loop-next-init : goal.loop-next-init
loop-next-init c = record {
  listed = take_none (keys c.args.store.now.state) c.new-list.result.items c.new-list.ensures.items;
  following = c.after-next.ensures ∙ next_key-first c.args.store.now.state ∙ ap (λ n. slice_get (keys c.args.store.now.state) n) (sym (ap length c.new-list.ensures.items));
}

pub loop-next-smaller : goal.loop-next-smaller
loop-next-smaller c =
    less_left (keys c.args.store.now.state) c.loop-next.list.items c.push.new.self.items c.in-Some.key (sym c.loop-next.invariant.following ∙ c.in-Some.is) c.in_ok-push.ensures.items

pub loop-next-preserved : goal.loop-next-preserved
loop-next-preserved c =
    let h : slice_get (keys c.args.store.now.state) (length c.loop-next.list.items) ≡ Some c.in-Some.key = sym c.loop-next.invariant.following ∙ c.in-Some.is in
    record {
      listed = take_more (keys c.args.store.now.state) c.loop-next.list.items c.push.new.self.items c.in-Some.key c.loop-next.invariant.listed h c.in_ok-push.ensures.items;
      following =
          c.after-next-in-Some.ensures
          ∙ next_key-after c.args.store.now.state (length c.loop-next.list.items) c.in-Some.key h
          ∙ ap (slice_get (keys c.args.store.now.state)) (sym (longer c.loop-next.list.items c.push.new.self.items c.in-Some.key c.in_ok-push.ensures.items));
    }

pub returns : goal.returns
returns c =
    all_taken (keys c.args.store.now.state) c.loop-next.list.items c.loop-next.next c.loop-next.invariant.listed c.loop-next.invariant.following c.in_default.not-Some
