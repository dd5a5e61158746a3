-- What a client of a shared book is answered over its pass, and what each of several is. This project's own.
use Rattle.std.specs.Prelude.{◌≡◌, ℕ, ◌<◌, ◌-◌, ◌^◌, true, false, List, [], ◌∷◌, ◌++◌, Option, None, Some, Ok, Err, is_ok, OnOk}
use Rattle.std.specs.Io.KnownBytes.{IsAtEnd}
use Rattle.zt_rows.specs.declared.calls.Answer.{Answer}
use Rattle.zt_rows.specs.declared.calls.Command.{Command}
use Rattle.zt_queries.specs.FrozenCopy.{Snapshot}
use Rattle.zt_book.specs.declared.log.Recorded.{Recorded}
use Rattle.zt_shared.specs.Sharing.{PassView, IsRefusedTo, IsPinnedOnPass, told_to}
use Rattle.zt_shared.specs.Sharing.{IsAnsweredOnPass as IsEvent}
use Rattle.zt_console.specs.declared.run_loop.End.{End}
use Rattle.zt_console.specs.BookRun.{is_pin}
use Rattle.zt_console.specs.Run.{HasTalked, IsCause, outcome}
use Rattle.zt_console.specs.Conversations.{Manner}

-- ---- one client

-- the answer is one event of the history; where the command is a pin, and then alone, with a copy of its moment
abbrev pub IsEventOf : PassView → Command → Answer × Option Snapshot → Type 0
IsEventOf pass asked (said, None) = (is_pin asked ≡ false) × IsEvent pass asked said
IsEventOf pass asked (said, Some copy) = (is_pin asked ≡ true) × IsPinnedOnPass pass said copy

-- what was answered is the next row of the pass, which holds the command
pub record IsAdded (M : PassView) (asked : Command) (given : Answer × Option Snapshot) (N : PassView) : Type 0 where
  pub who : N.client ≡ M.client
  pub base : N.base ≡ M.base
  pub rows : N.rows ≡ M.rows ++ (asked, given.0) ∷ []
  pub event : IsEventOf N asked given

-- An answer is the pass's next row and an event of the one history. A refusal leaves the pass, and unless it is of memory,
-- it is the first that the book has for the command where the pass is a part of its log.
abbrev pub AsksPass : Manner PassView
AsksPass M asked (Ok given) N = IsAdded M asked given N
AsksPass M asked (Err reason) N = IsRefusedTo M asked reason × (N ≡ M)

-- ---- several clients

-- a client's pass, once its rows are those of this log
abbrev pub told_in : List Recorded → PassView → PassView
told_in log pass = record { client = pass.client; base = pass.base; rows = told_to pass.client log }

-- what a client brings: its reader and its writer, each with its number of failures, and its pass
abbrev pub Caller : Type 0 → Type 0 → Type 0
Caller I O = (I × ℕ) × (O × ℕ) × PassView

-- nothing of a client has failed so often that it could not be counted
abbrev pub IsCountable : {I O : Type 0} → Caller I O → Type 0
IsCountable caller = (caller.0.1 < 2 ^ 64 - 1) × (caller.1.1 < 2 ^ 64 - 1)

-- How a client was served, whose pass is `pass` at the end: the lines that it sent got the text that it received. It was served to
-- the end of its input, unless `end` tells why the run stopped.
pub record IsServed {I O : Type 0} (remaining : I → Option (List ℕ)) (contents : O → Option (List ℕ)) (caller : Caller I O) (pass : PassView)
    (reader : I × ℕ) (writer : O × ℕ) (end : End) : Type 0 where
  pub talk : HasTalked AsksPass caller.2 pass (remaining caller.0.0) (contents caller.1.0) (contents writer.0) (is_ok (outcome end))
  pub ended : OnOk (outcome end) (IsAtEnd (remaining reader.0))
  pub cause : IsCause (caller.0.1, reader.1) (caller.1.1, writer.1) (remaining caller.0.0) (outcome end)
