-- Calls that are loaded one by one as the text is read: what one more makes of the whole, and which fault is told.
use Rattle.std.proofs.Common.{◌≡◌, ◌⊎◌, inl, inr, ℕ, ◌≤◌, Bool, true, false, List, [], ◌∷◌, ◌++◌, Option, Result, Ok, Err, refl, sym, ap, subst, ◌∙◌, append_assoc}
use Rattle.std.specs.Prelude.{is_ok}
use Rattle.std.proofs.lemmas.Bool.{le-ltb}
use Rattle.std.proofs.lemmas.List.{append-nil}
use Rattle.zt_rows.specs.CallsInARow.{in_a_row}
use Rattle.zt_rows.specs.declared.refusals.Refusal.{Refusal}
use Rattle.zt_rows.specs.declared.refusals.Refusal.TheVariants as refusal
use Rattle.zt_rows.specs.declared.calls.Call.{Call}
use Rattle.zt_rows.specs.declared.saved.Saved.{Saved}
use Rattle.zt_book.specs.Log.{BookView, book_at, IsUnloaded, IsUnloadedBy}
use Rattle.zt_book.specs.SavedSessions.{loaded_saved}
use Rattle.zt_text.specs.SavedTexts.{saved_of, IsUnreadTree}
use Rattle.zt_text.specs.Session.{IsFaultOf}
use Rattle.zt_text.specs.SessionCalls.{LinesLeft, calls_left, in_front_of, next_call, tree_of, IsNotNext}
use Rattle.zt_console.specs.LoadedText.{at_line, IsLoadedOf, IsNotLoaded, IsNotLoadedBy}
use Rattle.zt_console.specs.ProofsOnly.LoadedText.{behind, with_left, IsFirstOf, IsNotLoadedRow}

-- ---- want of memory

memory-unread : (read : Result Saved (ℕ × Refusal)) (fault : ℕ × Refusal) → fault ≡ (0, refusal.OutOfMemory) → IsUnreadTree read fault
memory-unread (Ok saved) fault is = is
memory-unread (Err first) fault is = inr is

pub memory-wanted : (text : List ℕ) (read : Result (List (ℕ × Call)) (ℕ × Refusal)) (fault : ℕ × Refusal) → fault ≡ (0, refusal.OutOfMemory)
    → IsNotLoadedRow text read fault
memory-wanted text read fault is = λ clients few. inl (memory-unread (tree_of read) fault is)

pub memory-not-loaded : (clients : ℕ) (text : List ℕ) (fault : ℕ × Refusal) → fault ≡ (0, refusal.OutOfMemory) → IsNotLoaded clients text fault
memory-not-loaded clients text fault is = inl (memory-unread (saved_of text) fault is)

-- ---- one call more

moved : (calls : List (ℕ × Call)) (made : ℕ × Call) (others : Result (List (ℕ × Call)) (ℕ × Refusal))
    → behind (calls ++ made ∷ []) others ≡ behind calls (in_front_of made others)
moved calls made (Ok others) = ap Ok (append_assoc calls (made ∷ []) others)
moved calls made (Err fault) = refl

-- the whole is the same
pub call-moved : (calls more : List (ℕ × Call)) (made : ℕ × Call) (left others : LinesLeft) → calls_left left ≡ in_front_of made (calls_left others)
    → more ≡ calls ++ made ∷ [] → with_left more others ≡ with_left calls left
call-moved calls more made left others front is =
    ap (λ cs. behind cs (calls_left others)) is ∙ moved calls made (calls_left others) ∙ ap (behind calls) (sym front)

-- at the end of the lines
pub calls-ended : (calls more : List (ℕ × Call)) (left : LinesLeft) → calls_left left ≡ Ok [] → more ≡ calls → with_left calls left ≡ Ok more
calls-ended calls more left none same = ap (behind calls) none ∙ ap Ok (append-nil calls ∙ sym same)

-- a line that does not read
pub line-unread : (text : List ℕ) (calls : List (ℕ × Call)) (left : LinesLeft) (fault : ℕ × Refusal)
    → ((first : ℕ × Refusal) → next_call left ≡ Err first → calls_left left ≡ Err first) → IsNotNext (next_call left) fault
    → IsNotLoadedRow text (with_left calls left) fault
line-unread text calls left fault law is = by (next_call left) refl is
  where
    by : (found : Result (Option (ℕ × Call) × LinesLeft) (ℕ × Refusal)) → next_call left ≡ found → IsNotNext found fault → IsNotLoadedRow text (with_left calls left) fault
    by (Ok found) at want = memory-wanted text (with_left calls left) fault want.1
    by (Err first) at same = λ clients few.
        subst (λ r. IsUnreadTree (tree_of r) fault ⊎ IsNotLoadedBy clients text (tree_of r) fault) (sym (ap (behind calls) (law first at))) (inl (inl same))

-- ---- a call that is refused

-- what its fault is of any calls that stand behind it
abbrev pub IsRefused : List (ℕ × Call) → ℕ × Call → ℕ × Refusal → Type 0
IsRefused calls made refused =
    (clients : ℕ) (others : List (ℕ × Call)) → clients ≤ 4 → IsUnloadedBy false (loaded_saved clients (in_a_row (calls ++ made ∷ others))) refused

few-unloaded : {A : Type 0} (clients : ℕ) (whole : Result A (ℕ × Refusal)) (fault : ℕ × Refusal) → clients ≤ 4 → IsUnloadedBy false whole fault
    → IsUnloaded clients whole fault
few-unloaded clients whole fault few told = rw (le-ltb 4 clients few) told

refused_at : (text : List ℕ) (calls : List (ℕ × Call)) (made : ℕ × Call) (others : Result (List (ℕ × Call)) (ℕ × Refusal)) (refused fault : ℕ × Refusal)
    → IsRefused calls made refused → IsFirstOf text others refused fault → IsNotLoadedRow text (behind calls (in_front_of made others)) fault
refused_at text calls made (Ok others) refused fault is (inl here) = λ clients few.
    inr (refused, few-unloaded clients (loaded_saved clients (in_a_row (calls ++ made ∷ others))) refused few (is clients others few), here)
refused_at text calls made (Ok others) refused fault is (inr memory) = λ clients few. inl memory
refused_at text calls made (Err first) refused fault is told = λ clients few. inl told

pub call-refused : (text : List ℕ) (calls : List (ℕ × Call)) (made : ℕ × Call) (left others : LinesLeft) (refused fault : ℕ × Refusal)
    → calls_left left ≡ in_front_of made (calls_left others) → IsRefused calls made refused → IsFirstOf text (calls_left others) refused fault
    → IsNotLoadedRow text (with_left calls left) fault
call-refused text calls made left others refused fault front is told = λ clients few.
    subst (λ r. IsUnreadTree (tree_of r) fault ⊎ IsNotLoadedBy clients text (tree_of r) fault) (sym (ap (behind calls) front))
    (refused_at text calls made (calls_left others) refused fault is told clients few)

pub first-of-read : (text : List ℕ) (others : Result (List (ℕ × Call)) (ℕ × Refusal)) (refused fault : ℕ × Refusal) → is_ok others ≡ true
    → fault ≡ at_line text refused → IsFirstOf text others refused fault
first-of-read text (Ok others) refused fault read is = inl is
first-of-read text (Err first) refused fault read is = absurd (cc)

pub first-of-unread : (text : List ℕ) (some : Bool) (others : Result (List (ℕ × Call)) (ℕ × Refusal)) (refused fault : ℕ × Refusal)
    → IsFaultOf some others fault → IsFirstOf text others refused fault
first-of-unread text some (Ok others) refused fault want = inr want.1
first-of-unread text some (Err first) refused fault (inl same) = inl same
first-of-unread text some (Err first) refused fault (inr want) = inr want.1

-- ---- all calls

-- no call is loaded yet
pub none-before : (calls : List (ℕ × Call)) (left : LinesLeft) → calls ≡ [] → with_left calls left ≡ calls_left left
none-before calls left is = ap (λ cs. behind cs (calls_left left)) is ∙ by (calls_left left)
  where
    by : (r : Result (List (ℕ × Call)) (ℕ × Refusal)) → behind [] r ≡ r
    by (Ok others) = refl
    by (Err fault) = refl

pub not-loaded-so-far : (text : List ℕ) (here whole : Result (List (ℕ × Call)) (ℕ × Refusal)) (fault : ℕ × Refusal) → here ≡ whole
    → IsNotLoadedRow text here fault → IsNotLoadedRow text whole fault
not-loaded-so-far text here whole fault same is = subst (λ r. IsNotLoadedRow text r fault) same is

pub row-loaded : (clients : ℕ) (text : List ℕ) (calls : List (ℕ × Call)) (book : BookView) → saved_of text ≡ tree_of (Ok calls)
    → loaded_saved clients (in_a_row calls) ≡ Ok book.session → book ≡ book_at book.session → IsLoadedOf clients text book
row-loaded clients text calls book read loaded begins = record { saved = in_a_row calls; read = read; loaded = loaded; begins = begins }

pub row-not-loaded : (clients : ℕ) (text : List ℕ) (read : Result (List (ℕ × Call)) (ℕ × Refusal)) (fault : ℕ × Refusal) → clients ≤ 4
    → saved_of text ≡ tree_of read → IsNotLoadedRow text read fault → IsNotLoaded clients text fault
row-not-loaded clients text read fault few is told =
    subst (λ r. IsUnreadTree r fault ⊎ IsNotLoadedBy clients text r fault) (sym is) (told clients few)
