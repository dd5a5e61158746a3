-- What a run reads and writes, and why it stops. This project's own.
use Rattle.std.specs.Prelude.{◌≡◌, ◌⊎◌, ℕ, ◌<◌, ◌≤◌, ◌^◌, Bool, true, List, [], ◌++◌, length, Option, IfSome, Result, Ok, Err, None}
use Rattle.std.specs.Io.KnownBytes.{Appends}
use Rattle.zt_rows.specs.declared.refusals.Refusal.{Refusal}
use Rattle.zt_rows.specs.declared.refusals.Refusal.TheVariants as refusal
use Rattle.zt_console.specs.declared.run_loop.End.{End}
use Rattle.zt_console.specs.declared.run_loop.End.TheVariants.{Finished, Stopped}
use Rattle.zt_queries.specs.FrozenCopy.{Snapshot}
use Rattle.zt_text.specs.Lines.{lines_of}
use Rattle.zt_console.specs.declared.conversation.Conversation.{Conversation}
use Rattle.zt_console.specs.Conversations.{Manner, Talk}

-- ---- what is written

-- the text of a talk is written, whole where it is done, and else a prefix of it
pub record Spoken {D : Type 0} (Asks : Manner D) (M : Conversation D) (lines : List (List ℕ)) (N : Conversation D) (before after : Option (List ℕ)) (done : Bool) : Type 0 where
  pub text : List ℕ
  pub written : List ℕ
  pub unwritten : List ℕ
  pub talk : Talk Asks M lines text N
  pub split : text ≡ written ++ unwritten
  pub appended : Appends before after written
  pub whole : done ≡ true → unwritten ≡ []

-- a responder with the pinned copy
abbrev pub at_responder : {D : Type 0} → D → Option Snapshot → Conversation D
at_responder responder pinned = record { responder = responder; pinned = pinned }

-- The lines that were read, or where it is not done some first ones of them, are spoken: from one responder to another,
-- with nothing pinned at first.
pub record HasTalked {D : Type 0} (Asks : Manner D) (from to : D) (known before after : Option (List ℕ)) (done : Bool) : Type 0 where
  pub lines : List (List ℕ)
  pub pinned : Option Snapshot
  pub spoken : Spoken Asks (at_responder from None) lines (at_responder to pinned) before after done
  pub read : IfSome known (λ input. (others : List (List ℕ)) × (lines_of input ≡ lines ++ others) × (done ≡ true → others ≡ []))

-- ---- failures

-- the most reads of a run
abbrev pub most_reads : ℕ
most_reads = 2 ^ 40

-- Why a run stopped, or not, from the reader's and the writer's numbers of failures before and after. A read
-- fault comes where a read failed, or where there were as many reads as a run makes, each of some bytes.
abbrev pub IsCause : ℕ × ℕ → ℕ × ℕ → Option (List ℕ) → Result (Unit {0}) Refusal → Type 0
IsCause reader writer known (Ok _) = (reader.1 ≡ reader.0) × (writer.1 ≡ writer.0)
IsCause reader writer known (Err refusal.ReadFault) =
    ((reader.0 < reader.1) ⊎ IfSome known (λ input. most_reads ≤ length input)) × (writer.1 ≡ writer.0)
IsCause reader writer known (Err refusal.WriteFault) = (reader.1 ≡ reader.0) × (writer.0 < writer.1)
IsCause reader writer known (Err refusal.OutOfMemory) = (reader.1 ≡ reader.0) × (writer.1 ≡ writer.0)
IsCause reader writer known (Err _) = ⊥

-- the outcome of which an end tells
abbrev pub outcome : End → Result (Unit {0}) Refusal
outcome Finished = Ok tt
outcome (Stopped reason) = Err reason
