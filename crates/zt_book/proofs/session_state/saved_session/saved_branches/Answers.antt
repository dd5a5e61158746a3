-- The next branch is behind the others.
use Rattle.std.proofs.Common.{[], ◌∷◌, ◌++◌, ◌<◌, length, ◌∙◌, arith}
use Rattle.zt_book.proofs.SavedLaws.{next_branch}
use Rattle.zt_book.proofs.session_state.saved_session.saved_branches.Goals as goal

pub loop-number-preserved : goal.loop-number-preserved
loop-number-preserved c =
    let there : c.loop-number.number < length c.args.history.now.tree.branches = omega arith in
    c.in_ok-push.ensures.items
    ∙ ((λ i. c.loop-number.invariant i ++ record { name = c.in_ok-branch.ensures.name i; head = c.in_ok-branch.ensures.head i } ∷ [])
    ∙ next_branch c.args.history.now.tree.branches c.loop-number.number there)
