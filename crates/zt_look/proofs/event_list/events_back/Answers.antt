-- The history goes back along the path, moment by moment.
use Rattle.std.proofs.Common.{◌≡◌, ◌≤◌, ◌-◌, length, drop, take, sym, ap, ◌∙◌, subst, arith}
use Rattle.std.specs.Prelude.{reverse}
use Rattle.zt_rows.specs.State.{State}
use Rattle.zt_history.specs.Timeline.{Timeline, IsPath}
use Rattle.zt_history.specs.Tree.{Tree, end_of, parent_at, state_at}
use Rattle.zt_look.specs.EventList.{AreEvents}
use Rattle.zt_look.specs.ProofsOnly.EventsSoFar.{AddsMoment}
use Rattle.zt_look.specs.ProofsOnly.UnleakedSet.{IsUnleakedSet}
use Rattle.zt_look.proofs.EventLaws.{front-path, moment-some, moment-within, moment-parent, moment-end, events-back}
use Rattle.zt_look.proofs.event_list.events_back.Goals as goal

pub along-requires-in-loop-place : goal.along-requires-in-loop-place
along-requires-in-loop-place c =
    subst (λ (t : Tree). IsPath t.made (take (c.loop-place.place - 1) c.args.way.now)) (sym c.loop-place.invariant.tree)
    (front-path c.args.history.now.tree.made c.limits.ensures.tree.moments.falls c.args.way.now c.requires.path (c.loop-place.place - 1) (omega (arith, c.loop-place.auto.place)))

pub push_moment-requires-clause-made : goal.push_moment-requires-clause-made
push_moment-requires-clause-made c =
    moment-some c.args.history.now.tree.made c.limits.ensures.tree.moments.falls c.args.way.now c.requires.path c.loop-place.place c.index-way-place.result
    (omega (arith, c.loop-place-test.true)) (omega (arith, c.loop-place.auto.place)) c.index-way-place.is

pub push_moment-requires-clause-there : goal.push_moment-requires-clause-there
push_moment-requires-clause-there c =
    let same : c.along-in-loop-place.new.self.tree ≡ c.args.history.now.tree = ap (λ (h : Timeline). h.tree) c.along-in-loop-place.ensures ∙ c.loop-place.invariant.tree in
    subst (λ (t : Tree). c.index-way-place.result ≤ length t.made) (sym same)
    (moment-within c.args.history.now.tree.made c.limits.ensures.tree.moments.falls c.args.way.now c.requires.path c.loop-place.place c.index-way-place.result
    (omega (arith, c.loop-place-test.true)) (omega (arith, c.loop-place.auto.place)) c.index-way-place.is)

pub push_moment-requires-clause-parent : goal.push_moment-requires-clause-parent
push_moment-requires-clause-parent c =
    let same : c.along-in-loop-place.new.self.tree ≡ c.args.history.now.tree = ap (λ (h : Timeline). h.tree) c.along-in-loop-place.ensures ∙ c.loop-place.invariant.tree in
    ap (λ (h : Timeline). h.position) c.along-in-loop-place.ensures
    ∙ sym (
    moment-parent c.args.history.now.tree.made c.limits.ensures.tree.moments.falls c.args.way.now c.requires.path c.loop-place.place c.index-way-place.result
    (omega (arith, c.loop-place-test.true)) (omega (arith, c.loop-place.auto.place)) c.index-way-place.is
    )
    ∙ ap (λ (t : Tree). parent_at t.made c.index-way-place.result) (sym same)

pub push_moment-requires-clause-unleaked : goal.push_moment-requires-clause-unleaked
push_moment-requires-clause-unleaked c =
    let same : c.along-in-loop-place.new.self.tree ≡ c.args.history.now.tree = ap (λ (h : Timeline). h.tree) c.along-in-loop-place.ensures ∙ c.loop-place.invariant.tree in
    λ e.
    subst (λ (S : State). IsUnleakedSet S c.loop-place.set) (
    ap (state_at c.args.history.now.tree.made) (
    moment-end c.args.history.now.tree.made c.limits.ensures.tree.moments.falls c.args.way.now c.requires.path c.loop-place.place c.index-way-place.result
    (omega (arith, c.loop-place-test.true)) (omega (arith, c.loop-place.auto.place)) c.index-way-place.is
    )
    ∙ ap (λ (t : Tree). state_at t.made c.index-way-place.result) (sym same)
    ) (c.loop-place.invariant.unleaked e)

pub loop-place-preserved : goal.loop-place-preserved
loop-place-preserved c =
    let same : c.along-in-loop-place.new.self.tree ≡ c.args.history.now.tree = ap (λ (h : Timeline). h.tree) c.along-in-loop-place.ensures ∙ c.loop-place.invariant.tree in
    let stands : c.along-in-loop-place.new.self.position ≡ end_of (take (c.loop-place.place - 1) c.args.way.now) = ap (λ (h : Timeline). h.position) c.along-in-loop-place.ensures in
    let adds : AddsMoment c.along-in-loop-place.new.self.tree.made c.args.asked.now c.index-way-place.result c.loop-place.list.items c.push_moment.new.list.items = c.in_ok-push_moment.ensures.list in
    record {
      start = omega (arith, c.loop-place-test.true);
      tree = same;
      events =
          events-back c.args.history.now.tree.made c.limits.ensures.tree.moments.falls c.args.way.now c.requires.path c.loop-place.place c.index-way-place.result
          (omega (arith, c.loop-place-test.true)) (omega (arith, c.loop-place.auto.place)) c.index-way-place.is c.args.asked.now c.loop-place.list.items
          c.push_moment.new.list.items c.loop-place.invariant.events
          (subst (λ (t : Tree). AddsMoment t.made c.args.asked.now c.index-way-place.result c.loop-place.list.items c.push_moment.new.list.items) same adds);
      unleaked = λ e.
          subst (λ (S : State). IsUnleakedSet S c.push_moment.new.set)
          (ap (λ (t : Tree). state_at t.made c.along-in-loop-place.new.self.position) same ∙ ap (state_at c.args.history.now.tree.made) stands)
          (c.in_ok-push_moment.ensures.set e);
    }

pub returns-clause-ok : goal.returns-clause-ok
returns-clause-ok c =
    let here : c.loop-place.place ≡ c.args.start = omega (arith, c.loop-place-test.false, c.loop-place.invariant.start) in
    subst (AreEvents c.args.history.now.tree.made c.args.asked.now (drop c.args.start c.args.way.now)) (sym c.reverse.ensures.items)
    (subst (λ n. AreEvents c.args.history.now.tree.made c.args.asked.now (drop n c.args.way.now) (reverse c.loop-place.list.items)) here c.loop-place.invariant.events)
