-- The rows that differ under keys that have each one at which the states differ are all that differ.
use Rattle.std.proofs.Common.{ap, ◌∙◌}
use Rattle.std.specs.List.{flat_map}
use Rattle.zt_history.specs.Timeline.{Timeline}
use Rattle.zt_history.specs.Tree.{state_at}
use Rattle.zt_look.specs.ProofsOnly.TwoStates.{change_from}
use Rattle.zt_look.proofs.TwoStateLaws.{told-between}
use Rattle.zt_look.proofs.changes_between.changed_between.Goals as goal

pub returns-clause-ok : goal.returns-clause-ok
returns-clause-ok c =
    told-between c.args.history.now.tree c.args.from c.args.to c.store.result.now.state c.store-2.result.now.state c.in_ok-keys.keys c.in_ok-rows.rows.items
    c.in_ok-list.list.items c.in_ok-check_both.ensures.ok
    (c.store.ensures.state ∙ ap (λ (h : Timeline). state_at h.tree.made h.position) c.in_ok-goto.ensures.ok)
    (
    c.store-2.ensures.state ∙ ap (λ (h : Timeline). state_at h.tree.made h.position) c.in_ok-goto-2.ensures.ok
    ∙ ap (λ (h : Timeline). state_at h.tree.made c.args.to) c.in_ok-goto.ensures.ok
    )
    c.in_ok-keys.ensures.covers c.in_ok-keys.ensures.ordered c.in_ok-rows.ensures
    (c.in_ok-list.ensures ∙ ap (flat_map (change_from c.store-2.result.now.state)) c.as_slice.ensures.value)
