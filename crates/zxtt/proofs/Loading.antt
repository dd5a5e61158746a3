-- A book that is loaded is of some text, with its notes, and nothing was answered to its clients.
use Rattle.std.proofs.Common.{◌≡◌, ℕ, List, length, Option, Result, Ok, Err, ap}
use Rattle.std.specs.Prelude.{IfOk, IfErr, true}
use Rattle.zt_book.specs.Log.{BookView}
use Rattle.zt_shared.specs.Sharing.{IsFresh}
use Rattle.zt_console.specs.LoadedText.{IsLoadedOf, IsLoadedOfRead}
use Rattle.zt_words.specs.declared.fault.Fault.{Fault}
use Rattle.zt_words.specs.declared.fault.Fault.TheVariants as fault
use Rattle.zt_words.specs.Statuses.{TellsOfNoLine}
use Rattle.zt_text.specs.Notes.{Noted}
use Rattle.zxtt.specs.Traces.{AreOfText, IsFaultOfText, IsReadOf, TellsOfSomeText}

-- What is loaded of a text, or its fault, is that of some text.
pub some_loaded : (r : Result BookView Fault) (clients : ℕ) (text : List ℕ) → IfOk r (IsLoadedOf clients text) → IfOk r (λ book. (some : List ℕ) × IsLoadedOf clients some book)
some_loaded (Ok book) clients text h = (text, h)
some_loaded (Err reason) clients text h = tt

pub told : (reason : Fault) (clients : ℕ) (text : List ℕ) → IsFaultOfText clients text reason → TellsOfSomeText clients reason
told (fault.Trace line reason place) clients text h = (text, h)
told (fault.Words error) clients text h = absurd h
told (fault.Unread error) clients text h = absurd h
told (fault.Unasked reason) clients text h = absurd h
told (fault.Unopened path error) clients text h = absurd h
told (fault.Unwritten part) clients text h = absurd h
told (fault.Unlistened port error) clients text h = absurd h
told (fault.Unconnected error) clients text h = absurd h
told (fault.Refused reason) clients text h = absurd h

pub some_fault : (r : Result BookView Fault) (clients : ℕ) (text : List ℕ) → IfErr r (IsFaultOfText clients text) → IfErr r (TellsOfSomeText clients)
some_fault (Ok book) clients text h = tt
some_fault (Err reason) clients text h = told reason clients text h

-- A fault that tells of no line tells of one only where a text has it.
pub no_line : (reason : Fault) (clients : ℕ) → TellsOfNoLine reason → TellsOfSomeText clients reason
no_line (fault.Trace line why place) clients h = absurd h
no_line (fault.Words error) clients h = tt
no_line (fault.Unread error) clients h = tt
no_line (fault.Unasked why) clients h = tt
no_line (fault.Unopened path error) clients h = tt
no_line (fault.Unwritten part) clients h = tt
no_line (fault.Unlistened port error) clients h = tt
no_line (fault.Unconnected error) clients h = tt
no_line (fault.Refused why) clients h = tt

-- A book that is loaded of a text is fresh, if it has so many clients: its log is empty.
pub fresh_loaded : (r : Result BookView Fault) (clients : ℕ) (text : List ℕ) → IfOk r (λ book. length book.session.clients ≡ clients) → IfOk r (IsLoadedOf clients text) → IfOk r (IsFresh clients)
fresh_loaded (Ok book) clients text many h = record { many = many; empty = ap (λ (b : BookView). b.log) h.begins }
fresh_loaded (Err reason) clients text many h = tt

-- A book that is loaded of what a reader gave is that of some text, and nothing was answered to its clients.
pub read_loaded : (b : BookView) (clients : ℕ) (before after : Option (List ℕ)) → IsLoadedOfRead clients before after b → (some : List ℕ) × IsLoadedOf clients some b
read_loaded b clients before after h = (h.text, h.loaded)

pub read_is_fresh : (b : BookView) (clients : ℕ) (before after : Option (List ℕ)) → length b.session.clients ≡ clients → IsLoadedOfRead clients before after b → IsFresh clients b
read_is_fresh b clients before after many h = record { many = many; empty = ap (λ (c : BookView). c.log) h.loaded.begins }

-- A book and notes of a text are those of some text, and nothing was answered to its clients.
pub some_noted : (r : Result (BookView × Noted) Fault) (clients : ℕ) (text : List ℕ) → IfOk r (λ read. AreOfText clients text read.0 read.1)
    → IfOk r (λ read. IsReadOf true clients read.0 read.1)
some_noted (Ok read) clients text h = (text, h)
some_noted (Err reason) clients text h = tt

pub fresh_noted : (r : Result (BookView × Noted) Fault) (clients : ℕ) (text : List ℕ) → IfOk r (λ read. length read.0.session.clients ≡ clients)
    → IfOk r (λ read. AreOfText clients text read.0 read.1) → IfOk r (λ read. IsFresh clients read.0)
fresh_noted (Ok read) clients text many h = record { many = many; empty = ap (λ (b : BookView). b.log) h.0.begins }
fresh_noted (Err reason) clients text many h = tt
