-- A talk: what a list of lines is answered, line by line. This project's own.
use Rattle.std.specs.Prelude.{◌≡◌, ◌⊎◌, ℕ, true, List, [], ◌∷◌, ◌++◌, Option, None, Some, Result, Ok, Err}
use Rattle.zt_rows.specs.declared.calls.Answer.{Answer}
use Rattle.zt_rows.specs.declared.calls.Answer.TheVariants as answer
use Rattle.zt_rows.specs.declared.calls.Command.{Command}
use Rattle.zt_rows.specs.declared.refusals.Refusal.{Refusal}
use Rattle.zt_rows.specs.declared.refusals.Refusal.TheVariants as refusal
use Rattle.zt_history.specs.HistoryRefusals.{IsHistoryRefusal, ◌>>=◌}
use Rattle.zt_queries.specs.FrozenCopy.{Snapshot, holders_on}
use Rattle.zt_queries.specs.Leaks.{leaks}
use Rattle.zt_text.specs.Answers.{shown_answer, shown_refusal}
use Rattle.zt_text.specs.ReadLines.{takes_memory, read_as}
use Rattle.zt_text.specs.declared.read_lines.Line.{Line}
use Rattle.zt_text.specs.declared.read_lines.Line.TheVariants as line
use Rattle.zt_console.specs.declared.conversation.Conversation.{Conversation}

-- ---- a command

-- how a responder answers a command: an answer, with a copy of the history where it pinned one; or why it refuses
abbrev pub Given : Type 0
Given = Result (Answer × Option Snapshot) Refusal

-- what a responder may answer: what it was, the command, the answer, and what it is then
abbrev pub Manner : Type 0 → Type 1
Manner D = D → Command → Given → D → Type 0

-- the text of an answer or of a refusal
abbrev pub shown : Result Answer Refusal → List ℕ
shown (Ok said) = shown_answer said
shown (Err reason) = shown_refusal reason

-- the answer alone
abbrev pub said_by : Given → Result Answer Refusal
said_by (Ok given) = Ok given.0
said_by (Err reason) = Err reason

-- the copy that `pinned` lines ask, once a command was answered with this one, or with none
abbrev pub newest : Option Snapshot → Option Snapshot → Option Snapshot
newest kept (Some copy) = Some copy
newest kept None = kept

abbrev pub pinned_after : Option Snapshot → Given → Option Snapshot
pinned_after kept (Ok given) = newest kept given.1
pinned_after kept (Err reason) = kept

-- a command gets the text of what the responder answers
pub record IsRespondedTo {D : Type 0} (Asks : Manner D) (M : Conversation D) (asked : Command) (text : List ℕ) (N : Conversation D) : Type 0 where
  pub given : Given
  pub answers : Asks M.responder asked given N.responder
  pub shows : text ≡ shown (said_by given)
  pub pins : N.pinned ≡ pinned_after M.pinned given

-- a command gets the text of what the responder answers; if its line takes memory, it may be refused for lack of it, with no change
abbrev pub Commands : {D : Type 0} → Manner D → Conversation D → Command → List ℕ → Conversation D → Type 0
Commands Asks M asked text N =
    IsRespondedTo Asks M asked text N ⊎ ((takes_memory asked ≡ true) × (text ≡ shown_refusal refusal.OutOfMemory) × (N ≡ M))

-- ---- a question to the pinned copy

abbrev pub rows_in : Snapshot → Result Answer Refusal
rows_in copy = Ok (answer.Rows copy.moment copy.state.rows)

abbrev pub holders_in : ℕ → Snapshot → Result Answer Refusal
holders_in koid copy = do
  held ← holders_on copy.state koid
  Ok (answer.Holders koid held)

abbrev pub leaks_in : Snapshot → Result Answer Refusal
leaks_in copy = Ok (answer.Leaks copy.moment (leaks copy.state))

-- the copy is asked, if there is one
abbrev pub of_copy : Option Snapshot → (Snapshot → Result Answer Refusal) → Result Answer Refusal
of_copy (Some copy) look = look copy
of_copy None look = Err refusal.NoMoment

-- what a question to the copy may be answered, if the copy gives `wanted`: just that, or that memory was refused
abbrev pub IsToldOfCopy : Result Answer Refusal → Result Answer Refusal → Type 0
IsToldOfCopy wanted (Ok said) = wanted ≡ Ok said
IsToldOfCopy wanted (Err given) = IsHistoryRefusal wanted given

-- a question gets the text of what the copy tells, and changes nothing
pub record IsLooked {D : Type 0} (M : Conversation D) (look : Snapshot → Result Answer Refusal) (text : List ℕ) (N : Conversation D) : Type 0 where
  pub said : Result Answer Refusal
  pub told : IsToldOfCopy (of_copy M.pinned look) said
  pub shows : text ≡ shown said
  pub same : N ≡ M

-- ---- lines

-- a skipped line gets nothing, a bad one its refusal
abbrev pub Answers : {D : Type 0} → Manner D → Conversation D → Result (Option Line) Refusal → List ℕ → Conversation D → Type 0
Answers Asks M (Ok None) text N = (text ≡ []) × (N ≡ M)
Answers Asks M (Ok (Some (line.Command asked))) text N = Commands Asks M asked text N
Answers Asks M (Ok (Some line.PinnedShow)) text N = IsLooked M rows_in text N
Answers Asks M (Ok (Some (line.PinnedHolders koid))) text N = IsLooked M (holders_in koid) text N
Answers Asks M (Ok (Some line.PinnedLeaks)) text N = IsLooked M leaks_in text N
Answers Asks M (Err reason) text N = (text ≡ shown_refusal reason) × (N ≡ M)

-- from M the lines get this text, one after another, and end in N
abbrev pub Talk : {D : Type 0} → Manner D → Conversation D → List (List ℕ) → List ℕ → Conversation D → Type 0
Talk Asks M [] text N = (text ≡ []) × (N ≡ M)
Talk {D} Asks M (line ∷ lines) text N =
    (first : List ℕ) × (between : Conversation D) × (others : List ℕ) × Answers Asks M (read_as line) first between × Talk Asks between lines others N × (text ≡ first ++ others)
