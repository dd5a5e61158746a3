-- What the record and the set show is what happened; a moment of the tree has its record.
use Rattle.std.proofs.Common.{◌≡◌, sym, ap, ◌∙◌}
use Rattle.std.specs.List.{flat_map}
use Rattle.std.specs.Option.{option_copied}
use Rattle.std.proofs.lemmas.Result.{IfOk-weaker}
use Rattle.zt_look.specs.ProofsOnly.EventsSoFar.{events_shown, change_over}
use Rattle.zt_look.proofs.EventLaws.{call-shown, call-recorded}
use Rattle.zt_look.proofs.event_list.events_at.Goals as goal

pub returns-in_ok-koids-in-Some : goal.returns-in_ok-koids-in-Some
returns-in_ok-koids-in-Some c =
    IfOk-weaker c.events_among.result
    (λ here. here.items ≡ flat_map (λ x. events_shown c.args.asked.now (change_over c.in-Some.kept.now c.store.result.now.state c.args.moment c.args.leaked.now x)) c.in_ok-koids-in-Some.koids.keys)
    _
    (λ here is.
    call-shown c.args.history.now.tree.made c.args.asked.now c.args.moment c.limits.ensures.tree.moments.falls c.store.result.now.state c.args.history.now.position
    c.in-Some.kept.now c.args.leaked.now c.in_ok-koids-in-Some.koids here.items c.requires.parent c.store.ensures.state
    (sym c.record_of.ensures ∙ ap option_copied c.in-Some.is) c.requires.leaked c.in_ok-koids-in-Some.ensures.has c.in_ok-koids-in-Some.ensures.ordered is)
    c.events_among.ensures

pub returns-in-None : goal.returns-in-None
returns-in-None c =
    absurd (
    call-recorded c.args.history.now.tree.made c.args.asked.now c.args.moment c.args.history.now.position c.requires.made c.requires.there
    (sym c.record_of.ensures ∙ ap option_copied c.in-None.is)
    )
