-- The part of the path from its beginning on is a path, and of that the events are told from a place on.
use Rattle.std.proofs.Common.{◌≡◌, ap, drop, subst, sym, ◌∙◌}
use Rattle.std.specs.Prelude.{nat_le}
use Rattle.std.specs.List.{position_or_len}
use Rattle.zt_history.specs.Timeline.{IsPath}
use Rattle.zt_history.specs.Tree.{path}
use Rattle.zt_look.specs.EventList.{AreEvents, up_to}
use Rattle.zt_look.proofs.CallLaws.{moment-there}
use Rattle.zt_look.proofs.EventLaws.{up_to-path}
use Rattle.zt_look.proofs.event_list.events_between.Goals as goal

pub events_along-requires-clause-path : goal.events_along-requires-clause-path
events_along-requires-clause-path c =
    let whole : IsPath c.args.history.now.tree.made c.in_ok-path.path.items =
    record { moment = c.args.at; there = moment-there c.args.history.now.tree c.args.at c.in_ok-path.ensures.within; is = c.in_ok-path.ensures.ok } in
    subst (IsPath c.args.history.now.tree.made) (sym (c.up_to-way.ensures ∙ ap (up_to c.args.asked.now.last) c.as_slice.ensures.value))
    (up_to-path c.args.history.now.tree.made c.limits.ensures.tree.moments.falls c.in_ok-path.path.items whole c.args.asked.now.last)

pub returns-clause-ok : goal.returns-clause-ok
returns-clause-ok c =
    let part : c.up_to-way.result.now ≡ up_to c.args.asked.now.last (path c.args.history.now.tree.made c.args.at) =
    c.up_to-way.ensures ∙ ap (up_to c.args.asked.now.last) (c.as_slice.ensures.value ∙ c.in_ok-path.ensures.ok) in
    subst (λ w. AreEvents c.args.history.now.tree.made c.args.asked.now.happenings (drop (position_or_len (λ m. nat_le c.args.asked.now.first m) w) w) c.in_ok-list.list.items) part
    (subst (λ n. AreEvents c.args.history.now.tree.made c.args.asked.now.happenings (drop n c.up_to-way.result.now) c.in_ok-list.list.items) c.place_from-start.ensures.place c.in_ok-list.ensures.ok)
