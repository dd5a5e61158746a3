-- Calls that are loaded while the text is read: those so far, and those that are left. Used by proofs only.
use Rattle.std.specs.Prelude.{◌≡◌, ◌⊎◌, ◌≤◌, ℕ, List, ◌++◌, Result, Ok, Err}
use Rattle.zt_rows.specs.declared.refusals.Refusal.{Refusal}
use Rattle.zt_rows.specs.declared.refusals.Refusal.TheVariants as refusal
use Rattle.zt_rows.specs.declared.calls.Call.{Call}
use Rattle.zt_text.specs.SavedTexts.{IsUnreadTree}
use Rattle.zt_text.specs.SessionCalls.{LinesLeft, calls_left, tree_of}
use Rattle.zt_console.specs.LoadedText.{at_line, IsNotLoadedBy}

-- calls in front of others, or the first fault among these
abbrev pub behind : List (ℕ × Call) → Result (List (ℕ × Call)) (ℕ × Refusal) → Result (List (ℕ × Call)) (ℕ × Refusal)
behind calls (Ok others) = Ok (calls ++ others)
behind calls (Err fault) = Err fault

-- the calls that are loaded, with all that are left behind them
abbrev pub with_left : List (ℕ × Call) → LinesLeft → Result (List (ℕ × Call)) (ℕ × Refusal)
with_left calls left = behind calls (calls_left left)

-- why the calls of a text are not loaded, where they read so: a fault of reading, or a call that is refused
abbrev pub IsNotLoadedRow : List ℕ → Result (List (ℕ × Call)) (ℕ × Refusal) → ℕ × Refusal → Type 0
IsNotLoadedRow text read fault =
    (clients : ℕ) → clients ≤ 4 → IsUnreadTree (tree_of read) fault ⊎ IsNotLoadedBy clients text (tree_of read) fault

-- a fault that is told where a call is refused before others that read so: their first fault, or that of the call; or want of memory
abbrev pub IsFirstOf : List ℕ → Result (List (ℕ × Call)) (ℕ × Refusal) → ℕ × Refusal → ℕ × Refusal → Type 0
IsFirstOf text (Ok _) refused fault = (fault ≡ at_line text refused) ⊎ (fault ≡ (0, refusal.OutOfMemory))
IsFirstOf text (Err first) refused fault = (fault ≡ first) ⊎ (fault ≡ (0, refusal.OutOfMemory))
