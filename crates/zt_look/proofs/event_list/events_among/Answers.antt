-- One object more is gone over.
use Rattle.std.proofs.Common.{◌++◌, List, ℕ, ap, ◌∙◌}
use Rattle.std.specs.List.{flat_map}
use Rattle.zt_look.specs.declared.event_list.ObjectEvent.{ObjectEvent}
use Rattle.zt_look.specs.declared.event_list.ObjectChange.{ObjectChange}
use Rattle.zt_look.specs.ProofsOnly.EventsSoFar.{events_shown, change_over}
use Rattle.zt_look.proofs.EventLaws.{popped-more}
use Rattle.zt_look.proofs.event_list.events_among.Goals as goal

pub koids-preserved : goal.koids-preserved
koids-preserved c =
    let f : ℕ → List ObjectEvent = λ x. events_shown c.args.asked.now (change_over c.args.kept.now c.args.store.now.state c.args.moment c.args.leaked.now x) in
    popped-more f c.in-Some.koid c.koids.left.keys c.pop_first.new.self.keys c.koids.here.items c.push_events.new.list.items (flat_map f c.args.koids.keys)
    c.in-Some.ensures.removal c.koids.invariant
    (c.in_ok-push_events.ensures ∙ ap (λ (t : ObjectChange). c.koids.here.items ++ events_shown c.args.asked.now t) c.change_over-change.ensures)
