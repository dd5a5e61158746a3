-- What is loaded of a copy is loaded of the tree.
use Rattle.std.proofs.Common.{subst, arith}
use Rattle.std.specs.Prelude.{◌≡◌, Ok, IfOk, IfErr}
use Rattle.zt_rows.specs.declared.saved.Saved.{Saved}
use Rattle.zt_book.specs.Log.{IsUnloaded}
use Rattle.zt_book.specs.SavedSessions.{loaded_saved}
use Rattle.zt_book.proofs.LoadLaws.{unloaded-few, unloaded-memory}
use Rattle.zt_book.proofs.book.Book.load_saved.Goals as goal

pub returns-in-Ok-clause-ok : goal.returns-in-Ok-clause-ok
returns-in-Ok-clause-ok c =
    subst (λ (saved : Saved). IfOk c.take_saved.result (λ book. loaded_saved c.args.clients saved ≡ Ok book.session)) c.in-Ok.ensures c.take_saved.ensures.ok

pub returns-in-Ok-clause-refused : goal.returns-in-Ok-clause-refused
returns-in-Ok-clause-refused c =
    subst (λ (saved : Saved). IfErr c.take_saved.result (IsUnloaded c.args.clients (loaded_saved c.args.clients saved))) c.in-Ok.ensures c.take_saved.ensures.refused

pub returns-in-Err-clause-refused : goal.returns-in-Err-clause-refused
returns-in-Err-clause-refused c =
    unloaded-few c.args.clients (loaded_saved c.args.clients c.args.saved.now) _ (omega arith) (unloaded-memory (loaded_saved c.args.clients c.args.saved.now))
