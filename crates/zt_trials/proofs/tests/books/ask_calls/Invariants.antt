-- The book serves as many clients all along.
use Rattle.std.proofs.Common.{◌≡◌, length}
use Rattle.zt_trials.proofs.tests.books.ask_calls.Given as goal

abbrev pub invariant-loop-n : goal.invariant-loop-n
invariant-loop-n g l = length l.book.session.clients ≡ length l.initial.book.session.clients
