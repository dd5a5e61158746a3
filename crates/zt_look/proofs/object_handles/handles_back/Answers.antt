-- The history goes back along the path, moment by moment.
use Rattle.std.proofs.Common.{◌≡◌, ◌≤◌, ◌-◌, ◌++◌, length, drop, take, sym, ap, ◌∙◌, subst, arith}
use Rattle.std.specs.Prelude.{reverse}
use Rattle.std.specs.BTreeMap.{get}
use Rattle.zt_history.specs.Timeline.{Timeline, IsPath}
use Rattle.zt_history.specs.Tree.{Tree, end_of, parent_at, state_at}
use Rattle.zt_lineage.specs.Places.{place_cmp}
use Rattle.zt_look.specs.ObjectHandles.{comings_at}
use Rattle.zt_look.specs.ProofsOnly.Departures.{AreDepartures, departed}
use Rattle.zt_look.proofs.DepartureLaws.{departures-back, handles-back}
use Rattle.zt_look.proofs.EventLaws.{front-path, moment-some, moment-within, moment-parent}
use Rattle.zt_look.proofs.object_handles.handles_back.Goals as goal

pub along-requires : goal.along-requires
along-requires c =
    subst (λ (t : Tree). IsPath t.made (take (c.loop-place.place - 1) c.args.way.now)) (sym c.loop-place.invariant.tree)
    (front-path c.args.history.now.tree.made c.limits.ensures.tree.moments.falls c.args.way.now c.requires (c.loop-place.place - 1) (omega (arith, c.loop-place.auto.place)))

pub along-requires-2 : goal.along-requires-2
along-requires-2 c =
    subst (λ (t : Tree). IsPath t.made (take 0 c.args.way.now)) (sym c.loop-place.invariant.tree)
    (front-path c.args.history.now.tree.made c.limits.ensures.tree.moments.falls c.args.way.now c.requires 0 (omega arith))

pub push_moment-requires-clause-made : goal.push_moment-requires-clause-made
push_moment-requires-clause-made c =
    moment-some c.args.history.now.tree.made c.limits.ensures.tree.moments.falls c.args.way.now c.requires c.loop-place.place c.index-way-place.result
    (omega (arith, c.loop-place-test.true)) (omega (arith, c.loop-place.auto.place)) c.index-way-place.is

pub push_moment-requires-clause-there : goal.push_moment-requires-clause-there
push_moment-requires-clause-there c =
    let same : c.along.new.self.tree ≡ c.args.history.now.tree = ap (λ (h : Timeline). h.tree) c.along.ensures ∙ c.loop-place.invariant.tree in
    subst (λ (t : Tree). c.index-way-place.result ≤ length t.made) (sym same)
    (moment-within c.args.history.now.tree.made c.limits.ensures.tree.moments.falls c.args.way.now c.requires c.loop-place.place c.index-way-place.result
    (omega (arith, c.loop-place-test.true)) (omega (arith, c.loop-place.auto.place)) c.index-way-place.is)

pub push_moment-requires-clause-parent : goal.push_moment-requires-clause-parent
push_moment-requires-clause-parent c =
    let same : c.along.new.self.tree ≡ c.args.history.now.tree = ap (λ (h : Timeline). h.tree) c.along.ensures ∙ c.loop-place.invariant.tree in
    ap (λ (h : Timeline). h.position) c.along.ensures
    ∙ sym (
    moment-parent c.args.history.now.tree.made c.limits.ensures.tree.moments.falls c.args.way.now c.requires c.loop-place.place c.index-way-place.result
    (omega (arith, c.loop-place-test.true)) (omega (arith, c.loop-place.auto.place)) c.index-way-place.is
    )
    ∙ ap (λ (t : Tree). parent_at t.made c.index-way-place.result) (sym same)

pub loop-place-preserved : goal.loop-place-preserved
loop-place-preserved c =
    let same : c.along.new.self.tree ≡ c.args.history.now.tree = ap (λ (h : Timeline). h.tree) c.along.ensures ∙ c.loop-place.invariant.tree in
    let old : AreDepartures c.args.history.now.tree.made c.args.koid (state_at c.args.history.now.tree.made (end_of (take c.loop-place.place c.args.way.now))) (drop c.loop-place.place c.args.way.now) (get place_cmp c.loop-place.departures) = c.loop-place.invariant.departures in
    record {
      listed =
          handles-back c.args.history.now.tree.made c.limits.ensures.tree.moments.falls c.args.way.now c.requires c.loop-place.place c.index-way-place.result
          (omega (arith, c.loop-place-test.true)) (omega (arith, c.loop-place.auto.place)) c.index-way-place.is c.args.koid (get place_cmp c.loop-place.departures)
          c.loop-place.list.items c.push_moment.new.list.items old c.loop-place.invariant.listed
          (c.in_ok-push_moment.ensures.list
          ∙ ap (λ (t : Tree). comings_at (get place_cmp c.loop-place.departures) t.made c.args.koid c.index-way-place.result ++ reverse c.loop-place.list.items) same);
      departures =
          departures-back c.args.history.now.tree.made c.limits.ensures.tree.moments.falls c.args.way.now c.requires c.loop-place.place c.index-way-place.result
          (omega (arith, c.loop-place-test.true)) (omega (arith, c.loop-place.auto.place)) c.index-way-place.is c.args.koid (get place_cmp c.loop-place.departures)
          (get place_cmp c.push_moment.new.departures) old (λ at.
          c.in_ok-push_moment.ensures.departures at
          ∙ ap (λ (t : Tree). departed t.made c.args.koid c.index-way-place.result at (get place_cmp c.loop-place.departures at)) same);
      tree = same;
    }
