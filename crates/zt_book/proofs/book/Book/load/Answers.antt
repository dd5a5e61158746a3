-- The clients stand at the beginning over the tree that loading gives, and nothing was answered to them.
use Rattle.std.proofs.Common.{◌∙◌, ap, arith}
use Rattle.std.proofs.lemmas.Result.{err_from_is_err_and}
use Rattle.zt_book.specs.Log.{loaded, book_at}
use Rattle.zt_book.proofs.LoadLaws.{unloaded-few, unloaded-many, unloaded-memory}
use Rattle.zt_book.proofs.BegunLaws.{calls-begun}
use Rattle.zt_book.proofs.book.Book.load.Goals as goal

pub returns-then-clients-gt-CLIENTS-clause-refused : goal.returns-then-clients-gt-CLIENTS-clause-refused
returns-then-clients-gt-CLIENTS-clause-refused c = unloaded-many c.args.clients (loaded c.args.calls.now) (omega arith)

pub begin-requires : goal.begin-requires
begin-requires c =
    calls-begun c.in-Ok.all_clients.session c.args.calls.now c.in_ok-history.history.tree c.args.clients c.in_ok-history.ensures.ok (omega arith) c.in-Ok.ensures

pub returns-in-Ok-clause-ok : goal.returns-in-Ok-clause-ok
returns-in-Ok-clause-ok c = (c.in_ok-history.history.tree, c.in_ok-history.ensures.ok, c.begin.ensures ∙ ap book_at c.in-Ok.ensures)

pub returns-in-Err-clause-refused : goal.returns-in-Err-clause-refused
returns-in-Err-clause-refused c = unloaded-few c.args.clients (loaded c.args.calls.now) _ (omega arith) (unloaded-memory (loaded c.args.calls.now))

pub returns-in_err-history-clause-refused : goal.returns-in_err-history-clause-refused
returns-in_err-history-clause-refused c =
    let p = err_from_is_err_and c.from_residual.result c.from_residual.ensures.1 in
    rw (p.1, p.2) (unloaded-few c.args.clients (loaded c.args.calls.now) c.in_err-history.field-0.0 (omega arith) c.in_err-history.ensures.refused)
