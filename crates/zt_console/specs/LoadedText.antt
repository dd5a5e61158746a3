-- Why a session text is not loaded, and at which of its lines. This project's own.
use Rattle.std.specs.Prelude.{◌≡◌, ◌⊎◌, ℕ, List, Option, Result, Ok, Err}
use Rattle.std.specs.Io.KnownBytes.{Consumes, IsAtEnd}
use Rattle.zt_rows.specs.declared.refusals.Refusal.{Refusal}
use Rattle.zt_rows.specs.declared.refusals.Refusal.TheVariants as refusal
use Rattle.zt_rows.specs.declared.saved.Saved.{Saved}
use Rattle.zt_book.specs.Log.{BookView, book_at, IsUnloaded}
use Rattle.zt_book.specs.SavedSessions.{loaded_saved}
use Rattle.zt_text.specs.SavedTexts.{saved_of, IsUnreadTree}
use Rattle.zt_text.specs.Session.{line_of_call}

-- the book of so many clients in the session that a text of either version tells: its log begins there
pub record IsLoadedOf (clients : ℕ) (text : List ℕ) (book : BookView) : Type 0 where
  pub saved : Saved
  pub read : saved_of text ≡ Ok saved
  pub loaded : loaded_saved clients saved ≡ Ok book.session
  pub begins : book ≡ book_at book.session

-- the book is loaded of a text that a reader gave to its end: the reader had the bytes `before` left to give, and has `after` left
pub record IsLoadedOfRead (clients : ℕ) (before after : Option (List ℕ)) (book : BookView) : Type 0 where
  pub text : List ℕ
  pub given : Consumes before after text
  pub ended : IsAtEnd after
  pub loaded : IsLoadedOf clients text book

-- a refusal at the number of an item, from 0, told at the line of that item: each line behind the first is one, but for
-- skipped lines. It is told at line 0, which is none, where no line has the number, and so are want of memory and too many
-- clients.
abbrev pub at_line : List ℕ → ℕ × Refusal → ℕ × Refusal
at_line text (item, refusal.OutOfMemory) = (0, refusal.OutOfMemory)
at_line text (item, refusal.TooManyClients) = (0, refusal.TooManyClients)
at_line text (item, reason) = (line_of_call text item, reason)

-- the text's tree is not loaded: there are too many clients, or an item is refused, or memory was
abbrev pub IsNotLoadedBy : ℕ → List ℕ → Result Saved (ℕ × Refusal) → ℕ × Refusal → Type 0
IsNotLoadedBy clients text (Ok saved) fault =
    (first : ℕ × Refusal) × IsUnloaded clients (loaded_saved clients saved) first × (fault ≡ at_line text first)
IsNotLoadedBy clients text (Err unread) fault = ⊥

-- a text is not loaded for so many clients: it does not read as a session text, or its tree is not loaded
abbrev pub IsNotLoaded : ℕ → List ℕ → ℕ × Refusal → Type 0
IsNotLoaded clients text fault = IsUnreadTree (saved_of text) fault ⊎ IsNotLoadedBy clients text (saved_of text) fault
