-- The clients stand at the beginning over the tree of the calls.
use Rattle.std.proofs.Common.{◌∙◌, sym, ap, subst}
use Rattle.std.specs.Prelude.{◌≡◌, Ok}
use Rattle.zt_history.specs.Tree.{Tree, head_moved, last_moment}
use Rattle.zt_rows.specs.CallsInARow.{in_a_row}
use Rattle.zt_book.specs.Log.{BookView}
use Rattle.zt_book.specs.SavedSessions.{loaded_saved}
use Rattle.zt_book.specs.Session.{session_over}
use Rattle.zt_book.specs.ProofsOnly.CallsInARow.{calls_of}
use Rattle.zt_book.proofs.BegunLaws.{calls-begun}
use Rattle.zt_book.proofs.GrowingRows.{calls-loaded, row-session}
use Rattle.zt_book.proofs.calls_in_a_row.CallsInARow.finish.Goals as goal

pub begin-requires : goal.begin-requires
begin-requires c =
    let t : Tree = c.self.inside.history.tree in
    calls-begun c.in_ok-all_clients.all_clients.session (calls_of t.made) (head_moved t 0 (last_moment t)) c.args.clients (calls-loaded t c.self.invariant) c.requires
    (c.in_ok-all_clients.ensures ∙ ap (λ (u : Tree). session_over u c.args.clients) c.lead_main_to_last.ensures)

pub returns-clause-ok : goal.returns-clause-ok
returns-clause-ok c =
    let t : Tree = c.self.inside.history.tree in
    let same : session_over (head_moved t 0 (last_moment t)) c.args.clients ≡ c.begin.result.session =
    sym (ap (λ (b : BookView). b.session) c.begin.ensures ∙ c.in_ok-all_clients.ensures ∙ ap (λ (u : Tree). session_over u c.args.clients) c.lead_main_to_last.ensures) in
    subst (λ calls. loaded_saved c.args.clients (in_a_row calls) ≡ Ok c.begin.result.session) c.self.view_is
    (row-session t c.self.invariant c.args.clients c.requires ∙ ap Ok same)
