-- The clients stand where loading puts them, and nothing was answered to them.
use Rattle.std.proofs.Common.{◌∙◌, ap, length}
use Rattle.zt_rows.specs.declared.saved.Saved.{Saved}
use Rattle.zt_book.specs.Log.{BookView}
use Rattle.zt_book.proofs.BegunLaws.{loaded-many, saved-begun}
use Rattle.zt_book.proofs.book.Book.take_saved.Goals as goal

pub begin-requires : goal.begin-requires
begin-requires g c =
    let saved : Saved = record {
      moments = c.into_vec-moments.result.items;
      branches = c.as_slice-branches.result.now;
      cursors = c.as_slice-cursors.result.now;
    } in
    saved-begun c.args.clients saved c.in_ok-all_clients.all_clients.session c.in_ok-all_clients.ensures.ok

pub returns-clause-clients : goal.returns-clause-clients
returns-clause-clients g c =
    let saved : Saved = record {
      moments = c.into_vec-moments.result.items;
      branches = c.as_slice-branches.result.now;
      cursors = c.as_slice-cursors.result.now;
    } in
    ap (λ (b : BookView). length b.session.clients) c.begin.ensures ∙ loaded-many c.args.clients saved c.in_ok-all_clients.all_clients.session c.in_ok-all_clients.ensures.ok
