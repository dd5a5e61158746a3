-- How the next moment was made is behind the others.
use Rattle.std.proofs.Common.{[], ◌∷◌, ◌++◌, ◌+◌, ap, ◌∙◌}
use Rattle.std.specs.List.{filter_map}
use Rattle.zt_book.specs.ProofsOnly.SavedSessions.{saved_at}
use Rattle.zt_book.proofs.SavedLaws.{next_saved}
use Rattle.zt_book.proofs.session_state.saved_session.saved_moments.Goals as goal

pub loop-number-preserved : goal.loop-number-preserved
loop-number-preserved c =
    let made = c.args.history.now.tree.made in
    c.in_ok-push_moment.ensures
    ∙ (ap (λ moments. moments ++ filter_map (saved_at made) ((c.loop-number.number + 1) ∷ [])) c.loop-number.invariant ∙ next_saved made c.loop-number.number)
