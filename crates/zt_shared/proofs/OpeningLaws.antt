-- Where the log of a fresh book begins, and the passes that are handed out.
use Rattle.std.proofs.Common.{◌≡◌, ℕ, zero, suc, ◌≤◌, List, [], ◌++◌, length, refl, ap, sym, ◌∙◌, subst, arith, Ok, Some}
use Rattle.std.specs.Prelude.{Option}
use Rattle.once_cell.specs.declared.race.note.Note.{Note}
use Rattle.zt_rows.specs.declared.calls.Answer.{Answer}
use Rattle.zt_rows.specs.declared.calls.Command.{Command}
use Rattle.zt_rows.specs.declared.saved.Saved.{Saved}
use Rattle.zt_book.specs.Session.{Session}
use Rattle.zt_book.specs.SavedSessions.{saved_of_session, loaded_saved}
use Rattle.zt_book.specs.Log.{BookView, Replays, IsWholeLog}
use Rattle.zt_shared.specs.Sharing.{PassView, IsFresh, begun, begun_by, first_parts}
use Rattle.zt_shared.specs.LockedBooks.{IsLockedBook}
use Rattle.zt_shared.specs.ProofsOnly.OpenedBook.{part_of}
use Rattle.zt_shared.proofs.SharingLaws.{sides}

-- ---- where a fresh book's log begins

-- what was loaded is loaded again where it is written down
abbrev pub LoadsAgain : Type 0
LoadsAgain = (clients : ℕ) (saved : Saved) (M : Session) → loaded_saved clients saved ≡ Ok M → loaded_saved clients (saved_of_session M) ≡ Ok M

-- a log without rows ends where it begins
stands-first : (book : BookView) (clients : ℕ) → IsFresh clients book → (whole : IsWholeLog book.session book.log) → book.session ≡ whole.base
stands-first book clients fresh whole =
    let base = whole.base in
    let ends : Replays base [] book.session = subst (λ l. Replays base l book.session) fresh.empty whole.replays in
    ends

-- a fresh book's session is loaded again
fresh-loads : LoadsAgain → (clients : ℕ) (book : BookView) → IsFresh clients book → IsWholeLog book.session book.log
    → loaded_saved clients (saved_of_session book.session) ≡ Ok book.session
fresh-loads again clients book fresh whole =
    let base = whole.base in
    let there : book.session ≡ base = stands-first book clients fresh whole in
    let many : length base.clients ≡ clients = ap (λ M. length M.clients) (sym there) ∙ fresh.many in
    let loads : loaded_saved (length base.clients) (saved_of_session base) ≡ Ok base =
    again (length base.clients) whole.begun.saved base whole.begun.gives in
    let counted : loaded_saved clients (saved_of_session base) ≡ Ok base = subst (λ n. loaded_saved n (saved_of_session base) ≡ Ok base) many loads in
    subst (λ M. loaded_saved clients (saved_of_session M) ≡ Ok M) (sym there) counted

pub fresh-begun : LoadsAgain → (clients : ℕ) (book : BookView) → IsFresh clients book → IsWholeLog book.session book.log
    → begun clients (Some (saved_of_session book.session)) ≡ book.session
fresh-begun again clients book fresh whole = ap (begun_by clients) (fresh-loads again clients book fresh whole)

-- what was noted of the base cell tells where the book's log begins
pub noted-begun : LoadsAgain → (number clients : ℕ) (book : BookView) (known : Option Saved)
    → number ≡ clients → IsFresh number book → IsWholeLog book.session book.log → known ≡ Some (saved_of_session book.session)
    → begun clients known ≡ book.session
noted-begun again number clients book known many fresh whole noted =
    ap (λ n. begun n known) (sym many) ∙ (ap (begun number) noted ∙ fresh-begun again number book fresh whole)

-- ---- the passes that are handed out

pub handed-out : (clients : ℕ) (base : Session) → clients ≤ 4
    → ((part_of clients base 1 ++ part_of clients base 2) ++ part_of clients base 3) ++ part_of clients base 4 ≡ first_parts clients base
handed-out zero base few = refl
handed-out (suc zero) base few = refl
handed-out (suc (suc zero)) base few = refl
handed-out (suc (suc (suc zero))) base few = refl
handed-out (suc (suc (suc (suc zero)))) base few = refl
handed-out (suc (suc (suc (suc (suc n))))) base few = absurd (omega arith)

-- the passes, one after another
pub handed-all : (number clients : ℕ) (base b1 b2 b3 b4 : Session) (p0 p1 p2 p3 p4 : List PassView) → number ≡ clients → number ≤ 4
    → p0 ≡ [] → p1 ≡ p0 ++ part_of number b1 1 → p2 ≡ p1 ++ part_of number b2 2 → p3 ≡ p2 ++ part_of number b3 3 → p4 ≡ p3 ++ part_of number b4 4
    → b1 ≡ base → b2 ≡ base → b3 ≡ base → b4 ≡ base → p4 ≡ first_parts clients base
handed-all number clients base b1 b2 b3 b4 p0 p1 p2 p3 p4 many few e0 e1 e2 e3 e4 h1 h2 h3 h4 =
    let one : p1 ≡ part_of number base 1 = e1 ∙ rw (e0, h1) refl in
    let two : p2 ≡ part_of number base 1 ++ part_of number base 2 = e2 ∙ rw (one, h2) refl in
    let three : p3 ≡ (part_of number base 1 ++ part_of number base 2) ++ part_of number base 3 = e3 ∙ rw (two, h3) refl in
    e4 ∙ (ap (λ w. w ++ part_of number b4 4) three
    ∙ (ap (λ b. ((part_of number base 1 ++ part_of number base 2) ++ part_of number base 3) ++ part_of number b 4) h4
    ∙ (handed-out number base few ∙ ap (λ n. first_parts n base) many)))

-- ---- the lock

-- the lock is free for the first time
pub opened-locked : LoadsAgain → (base clients cell number : ℕ) (told : Note Saved) (book : BookView) (f s u v : List (Command × Answer))
    → cell ≡ base → number ≡ clients → IsFresh number book → IsWholeLog book.session book.log → told.cell ≡ cell → told.known ≡ Some (saved_of_session book.session)
    → f ≡ [] → s ≡ [] → u ≡ [] → v ≡ [] → IsLockedBook base clients cell told book.session book.log (sides f s u v)
opened-locked again base clients cell number told book f s u v named many fresh whole noted known first second third fourth = record {
  named = named;
  noted = noted ∙ named;
  known = rw known refl;
  replays = rw fresh.empty (sym (noted-begun again number clients book told.known many fresh whole known));
  rows = rw (fresh.empty, first, second, third, fourth) refl;
  many = fresh.many ∙ many;
}
