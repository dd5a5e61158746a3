-- The history goes back along the path, moment by moment.
use Rattle.std.proofs.Common.{◌≡◌, ◌+◌, ◌-◌, ◌<◌, ◌++◌, length, take, sym, ◌∙◌, ap, subst, arith}
use Rattle.std.specs.Prelude.{reverse}
use Rattle.std.specs.BTreeMap.{get}
use Rattle.std.specs.List.{filter_map}
use Rattle.std.specs.Ordering.{nat_cmp}
use Rattle.zt_history.specs.Timeline.{Timeline, IsPath}
use Rattle.zt_history.specs.Tree.{Tree}
use Rattle.zt_look.specs.Changes.{changes_at}
use Rattle.zt_look.specs.MessageList.{end_at, queued_at}
use Rattle.zt_look.specs.ProofsOnly.MessageEnds.{end_over}
use Rattle.zt_look.proofs.CallLaws.{prefix-path}
use Rattle.zt_look.proofs.MessageLaws.{path-ends, path-listed}
use Rattle.zt_look.proofs.message_list.messages_back.Goals as goal

pub along-requires : goal.along-requires
along-requires c =
    subst (λ (t : Tree). IsPath t.made (take (c.loop-place.place - 1 + 1) c.args.way.now)) (sym c.loop-place.invariant.tree)
    (prefix-path c.args.history.now.tree.made c.limits.ensures.tree.moments.falls c.args.way.now c.requires (c.loop-place.place - 1) (omega (arith, c.loop-place-test.true, c.loop-place.auto.place)))

pub loop-place-preserved : goal.loop-place-preserved
loop-place-preserved c =
    let same : c.along.new.self.tree ≡ c.args.history.now.tree = ap (λ (h : Timeline). h.tree) c.along.ensures ∙ c.loop-place.invariant.tree in
    let so_many : c.loop-place.place ≡ c.loop-place.place - 1 + 1 = omega (arith, c.loop-place-test.true) in
    let inside : c.loop-place.place - 1 < length c.args.way.now = omega (arith, c.loop-place-test.true, c.loop-place.auto.place) in
    record {
      listed =
          path-listed c.args.history.now.tree.made c.limits.ensures.tree.moments.falls c.args.way.now c.requires c.args.koid (c.loop-place.place - 1) c.loop-place.place c.along.new.self.position
          so_many inside (ap (λ (h : Timeline). h.position) c.along.ensures) (get nat_cmp c.loop-place.ends) c.loop-place.list.items c.go_over.new.list.items c.loop-place.invariant.listed
          c.loop-place.invariant.ends
          (c.in_ok-go_over.ensures.list
          ∙ ap (λ (t : Tree). filter_map (queued_at (get nat_cmp c.loop-place.ends) c.args.koid c.along.new.self.position) (changes_at t.made c.along.new.self.position) ++ reverse c.loop-place.list.items) same);
      ends =
          path-ends c.args.history.now.tree.made c.limits.ensures.tree.moments.falls c.args.way.now c.requires c.args.koid (c.loop-place.place - 1) c.loop-place.place c.along.new.self.position
          so_many inside (ap (λ (h : Timeline). h.position) c.along.ensures) (get nat_cmp c.loop-place.ends) (get nat_cmp c.go_over.new.ends) c.loop-place.invariant.ends (λ n.
          c.in_ok-go_over.ensures.ends n
          ∙ ap (λ (t : Tree). end_over c.args.koid n (changes_at t.made c.along.new.self.position) (c.along.new.self.position, end_at t.made c.args.koid c.along.new.self.position) (get nat_cmp c.loop-place.ends n)) same
          );
      tree = same;
    }
