-- The book that is asked is the book.
use Rattle.std.proofs.Common.{subst, sym}
use Rattle.zt_book.specs.Log.{BookView}
use Rattle.zt_console.specs.BookRun.{AsksBook}
use Rattle.zt_console.proofs.ExploredLaws.{explored-same}
use Rattle.zt_console.proofs.laws.who_has_room_is_answered_by_the_book.Goals as goal

pub returns : goal.returns
returns c = λ M asked given N room.
    let P : BookView → Type 0 = λ K. AsksBook K asked given N in
    (subst P (explored-same M room), subst P (sym (explored-same M room)))
