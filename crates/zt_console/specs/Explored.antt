-- How a book answers a person who explores it as its first client, and never meets a client's limit of commands. This
-- project's own.
use Rattle.std.specs.Prelude.{nat_lt, if◌then◌else◌}
use Rattle.zt_book.specs.Log.{BookView, book_at}
use Rattle.zt_book.specs.SavedSessions.{unanswered}
use Rattle.zt_book.specs.Session.{client_of, most_rows}
use Rattle.zt_console.specs.BookRun.{AsksBook}
use Rattle.zt_console.specs.Conversations.{Manner}

-- the book that is asked: where the client has no room for one answer more, it is renewed, with the same tree and the
-- same places of the clients, and an empty log
abbrev pub explored : BookView → BookView
explored M = if nat_lt (client_of M.session 1).rows most_rows then M else book_at (unanswered M.session)

-- how an explored book answers: it first makes room for one more answer, where it has none
abbrev pub AsksExplored : Manner BookView
AsksExplored M asked given N = AsksBook (explored M) asked given N
