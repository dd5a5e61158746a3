-- The book that a program begins with, and the notes of its text.
use Rattle.std.specs.Prelude.{◌≡◌, ℕ, Bool, true, false, List, Option, Some, None, ⊤}
use Rattle.std.specs.Borrow.{Bor}
use Rattle.zt_book.specs.Log.{BookView, first_book}
use Rattle.zt_console.specs.LoadedText.{IsLoadedOf, IsNotLoaded}
use Rattle.zt_text.specs.Notes.{Noted, none_noted, notes_of}
use Rattle.zt_words.specs.declared.fault.Fault.{Fault}
use Rattle.zt_words.specs.declared.fault.Fault.TheVariants as fault

-- the fault of a session text that is not loaded, with its line
abbrev pub IsFaultOfText : ℕ → List ℕ → Fault → Type 0
IsFaultOfText clients text (fault.Trace line reason place) = IsNotLoaded clients text (line, reason)
IsFaultOfText clients text _ = ⊥

-- a line is told at fault only of a text that is not loaded for it
abbrev pub TellsOfSomeText : ℕ → Fault → Type 0
TellsOfSomeText clients (fault.Trace line reason place) = (text : List ℕ) × IsNotLoaded clients text (line, reason)
TellsOfSomeText clients _ = ⊤

-- a book that is loaded of a session text, and the notes of that same text
abbrev pub AreOfText : ℕ → List ℕ → BookView → Noted → Type 0
AreOfText clients text book notes = IsLoadedOf clients text book × (notes ≡ notes_of text)

-- those of some text; where notes are not kept, there are none
abbrev pub IsReadOf : Bool → ℕ → BookView → Noted → Type 0
IsReadOf true clients book notes = (text : List ℕ) × AreOfText clients text book notes
IsReadOf false clients book notes = ((text : List ℕ) × IsLoadedOf clients text book) × (notes ≡ none_noted)

-- a book begins at the opening where no session text is named, and else over the tree of one
abbrev pub BeginsFrom : ℕ → Option (Bor (List ℕ)) → Bool → BookView → Noted → Type 0
BeginsFrom clients None keeps book notes = (book ≡ first_book clients) × (notes ≡ none_noted)
BeginsFrom clients (Some path) keeps book notes = IsReadOf keeps clients book notes
