-- Where the position has a record, what stands under its keys is what changed; else nothing did.
use Rattle.std.proofs.Common.{map, refl, sym, ◌∙◌, ap}
use Rattle.std.specs.List.{list_any}
use Rattle.std.specs.Option.{option_copied}
use Rattle.zt_history.specs.TreeInvariant.{recorded_at}
use Rattle.zt_look.specs.CallList.{touches}
use Rattle.zt_look.proofs.ChangeLaws.{unrecorded, recorded}
use Rattle.zt_look.proofs.call_list.is_touched.Goals as goal

pub returns-in-Some : goal.returns-in-Some
returns-in-Some c =
    c.any_touches.ensures
    ∙ ap (list_any (touches c.args.koid)) (
    recorded c.args.history.now.tree.made c.limits.ensures.tree.moments.falls c.args.history.now.position c.in-Some.kept.now (map (λ e. e.0) c.in-Some.kept.now) c.store.result.now.state
    (ap (recorded_at c.args.history.now.tree.made c.args.history.now.position) (sym c.position.ensures.position) ∙ sym c.record_of.ensures ∙ ap option_copied c.in-Some.is)
    refl c.store.ensures.state
    )

pub returns-in-None : goal.returns-in-None
returns-in-None c =
    sym (ap (list_any (touches c.args.koid)) (
    unrecorded c.args.history.now.tree.made c.args.history.now.position c.limits.ensures.within
    (ap (recorded_at c.args.history.now.tree.made c.args.history.now.position) (sym c.position.ensures.position) ∙ sym c.record_of.ensures ∙ ap option_copied c.in-None.is)
    ))
