-- What the record has is what changed; a moment of the tree has its record.
use Rattle.std.proofs.Common.{◌≡◌, ◌++◌, sym, ◌∙◌, ap}
use Rattle.std.specs.Prelude.{reverse}
use Rattle.std.specs.BTreeMap.{get}
use Rattle.std.specs.List.{filter_map, flat_map}
use Rattle.std.specs.Option.{option_copied}
use Rattle.zt_history.specs.Tree.{parent_at, state_at}
use Rattle.zt_lineage.specs.declared.places.Place.{Place}
use Rattle.zt_lineage.specs.Places.{place_cmp}
use Rattle.zt_look.specs.ObjectHandles.{coming_at, places_under}
use Rattle.zt_look.specs.ProofsOnly.Departures.{departed_in}
use Rattle.zt_look.proofs.DepartureLaws.{in-changed, recorded-changes, turned-more}
use Rattle.zt_look.proofs.MessageLaws.{ok_given, ok_more}
use Rattle.zt_look.proofs.object_handles.push_moment.Goals as goal

pub returns-clause-list : goal.returns-clause-list
returns-clause-list c =
    ok_given c.note_departures.result _ (
    ap reverse (
    c.in_ok-extend_from_slice-in-Some.ensures.items ∙ ap (λ l. c.args.list.now.items ++ l) (c.as_slice.ensures.value ∙ c.reverse.ensures.items)
    )
    ∙ turned-more c.args.list.now.items c.in_ok-here-in-Some.here.items
    ∙ ap (λ l. l ++ reverse c.args.list.now.items) (
    c.in_ok-here-in-Some.ensures
    ∙ ap (flat_map (λ k. filter_map (coming_at (get place_cmp c.args.departures.now) c.args.history.now.tree.made c.args.koid c.args.moment) (places_under (state_at c.args.history.now.tree.made c.args.moment) k)))
    (recorded-changes c.args.history.now.tree.made c.limits.ensures.tree.moments.falls c.args.history.now.position c.args.moment c.in-Some.kept.now c.keys-keys.result.now
    c.requires.parent (sym c.record_of.ensures ∙ ap option_copied c.in-Some.is) c.keys-keys.ensures)
    )
    )

pub returns-clause-departures : goal.returns-clause-departures
returns-clause-departures c =
    ok_more c.note_departures.result _ _ (λ (noted : (at : Place) → get place_cmp c.note_departures.new.departures at
    ≡ departed_in c.args.history.now.tree.made c.args.koid c.args.moment (flat_map (places_under (state_at c.args.history.now.tree.made (parent_at c.args.history.now.tree.made c.args.moment))) c.keys-keys.result.now) at (get place_cmp c.args.departures.now at)) at.
    noted at
    ∙ in-changed c.args.history.now.tree.made c.args.koid c.args.moment c.keys-keys.result.now
    (recorded-changes c.args.history.now.tree.made c.limits.ensures.tree.moments.falls c.args.history.now.position c.args.moment c.in-Some.kept.now c.keys-keys.result.now
    c.requires.parent (sym c.record_of.ensures ∙ ap option_copied c.in-Some.is) c.keys-keys.ensures)
    at (get place_cmp c.args.departures.now at)
    ) c.note_departures.ensures
