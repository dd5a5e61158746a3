-- Where the position has a record, what stands under its keys is what changed; else nothing did.
use Rattle.std.proofs.Common.{◌≡◌, ℕ, ◌++◌, map, refl, sym, ◌∙◌, ap}
use Rattle.std.specs.Prelude.{reverse}
use Rattle.std.specs.BTreeMap.{get}
use Rattle.std.specs.List.{filter_map}
use Rattle.std.specs.Option.{option_copied}
use Rattle.std.specs.Ordering.{nat_cmp}
use Rattle.zt_history.specs.TreeInvariant.{recorded_at}
use Rattle.zt_look.specs.Changes.{changes_at}
use Rattle.zt_look.specs.MessageList.{end_at, queued_at}
use Rattle.zt_look.specs.ProofsOnly.MessageEnds.{end_over}
use Rattle.zt_look.specs.ProofsOnly.RecordSides.{change_under}
use Rattle.zt_look.proofs.ChangeLaws.{unrecorded, recorded}
use Rattle.zt_look.proofs.MessageLaws.{ok_given, ok_more}
use Rattle.zt_look.proofs.message_list.go_over.Goals as goal

pub returns-in_ok-push_coming-in-Some-clause-list : goal.returns-in_ok-push_coming-in-Some-clause-list
returns-in_ok-push_coming-in-Some-clause-list c =
    ok_given c.note_going.result _ (
    c.in_ok-push_coming-in-Some.ensures
    ∙ ap (λ l. filter_map (queued_at (get nat_cmp c.args.ends.now) c.args.koid c.position-moment.result) l ++ reverse c.args.list.now.items)
    (recorded c.args.history.now.tree.made c.limits.ensures.tree.moments.falls c.args.history.now.position c.in-Some.kept.now (map (λ e. e.0) c.in-Some.kept.now) c.store-store.result.now.state
    (ap (recorded_at c.args.history.now.tree.made c.args.history.now.position) (sym c.position-moment.ensures.position) ∙ sym c.record_of.ensures ∙ ap option_copied c.in-Some.is)
    refl c.store-store.ensures.state)
    ∙ ap (λ m. filter_map (queued_at (get nat_cmp c.args.ends.now) c.args.koid m) (changes_at c.args.history.now.tree.made c.args.history.now.position) ++ reverse c.args.list.now.items)
    c.position-moment.ensures.position
    )

pub returns-in_ok-push_coming-in-Some-clause-ends : goal.returns-in_ok-push_coming-in-Some-clause-ends
returns-in_ok-push_coming-in-Some-clause-ends c =
    ok_more c.note_going.result _ _ (λ (h : (n : ℕ) → get nat_cmp c.note_going.new.ends n
    ≡ end_over c.args.koid n (map (change_under c.in-Some.kept.now c.store-store.result.now.state) (map (λ e. e.0) c.in-Some.kept.now)) (c.position-moment.result, c.end_here.result) (get nat_cmp c.args.ends.now n)) n.
    h n
    ∙ ap (λ l. end_over c.args.koid n l (c.position-moment.result, c.end_here.result) (get nat_cmp c.args.ends.now n))
    (recorded c.args.history.now.tree.made c.limits.ensures.tree.moments.falls c.args.history.now.position c.in-Some.kept.now (map (λ e. e.0) c.in-Some.kept.now) c.store-store.result.now.state
    (ap (recorded_at c.args.history.now.tree.made c.args.history.now.position) (sym c.position-moment.ensures.position) ∙ sym c.record_of.ensures ∙ ap option_copied c.in-Some.is)
    refl c.store-store.ensures.state)
    ∙ ap (λ m. end_over c.args.koid n (changes_at c.args.history.now.tree.made c.args.history.now.position) (m, c.end_here.result) (get nat_cmp c.args.ends.now n)) c.position-moment.ensures.position
    ∙ ap (λ x. end_over c.args.koid n (changes_at c.args.history.now.tree.made c.args.history.now.position) (c.args.history.now.position, x) (get nat_cmp c.args.ends.now n)) c.end_here.ensures
    ) c.note_going.ensures

pub returns-in-None-clause-list : goal.returns-in-None-clause-list
returns-in-None-clause-list c =
    sym (ap (λ l. filter_map (queued_at (get nat_cmp c.args.ends.now) c.args.koid c.args.history.now.position) l ++ reverse c.args.list.now.items) (
    unrecorded c.args.history.now.tree.made c.args.history.now.position c.limits.ensures.within
    (ap (recorded_at c.args.history.now.tree.made c.args.history.now.position) (sym c.position-moment.ensures.position) ∙ sym c.record_of.ensures ∙ ap option_copied c.in-None.is)
    ))

pub returns-in-None-clause-ends : goal.returns-in-None-clause-ends
returns-in-None-clause-ends c = λ n.
    sym (ap (λ l. end_over c.args.koid n l (c.args.history.now.position, end_at c.args.history.now.tree.made c.args.koid c.args.history.now.position) (get nat_cmp c.args.ends.now n)) (
    unrecorded c.args.history.now.tree.made c.args.history.now.position c.limits.ensures.within
    (ap (recorded_at c.args.history.now.tree.made c.args.history.now.position) (sym c.position-moment.ensures.position) ∙ sym c.record_of.ensures ∙ ap option_copied c.in-None.is)
    ))
