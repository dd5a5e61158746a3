-- How far a log is read. Used by proofs only.
use Rattle.std.specs.Prelude.{suc, ◌≡◌, ◌+◌, ◌++◌, ℕ, List, [], ◌∷◌, length, Option, Some, None}
use Rattle.zt_logs.specs.declared.logged.LoggedCall.{LoggedCall}
use Rattle.zt_logs.specs.declared.json_lines.Parsed.{Parsed}
use Rattle.zt_logs.specs.declared.json_lines.Parsed.TheVariants as parsed
use Rattle.zt_logs.specs.Lines.{lines_of}
use Rattle.zt_logs.specs.Entries.{Entry, entries_behind, json_of}
use Rattle.zt_logs.specs.LineCalls.{AreAnswerReads, has_read}
use Rattle.zt_logs.specs.Logged.{IsLogged, IsPart, AreAhead, part_status, AreCalled, AreLogged}
use Rattle.zt_logs.specs.declared.line_calls.PartCall.{PartCall}
use Rattle.zt_logs.specs.declared.logged.RecordedReply.{RecordedReply}
use Rattle.zt_bits.specs.declared.statuses.Status.{Status}
use Rattle.zt_logs.specs.declared.call_names.CallName.{CallName}
use Rattle.json.specs.Token.{Token}
use Rattle.json.specs.Json.{Json}
use Rattle.zt_logs.specs.ProofsOnly.Tokens.{value_at, items_at}
use Rattle.json.specs.Find.{as_array}

-- what a line is as JSON
abbrev pub IsParsed : List ℕ → Parsed → Type 0
IsParsed line (parsed.Whole tape) = json_of line ≡ Some (value_at tape)
IsParsed line parsed.CutOff = json_of line ≡ None
IsParsed line parsed.Broken = json_of line ≡ None

-- a list, if there is one
abbrev pub IsListAt : Option Json → Option (List Token) → Type 0
IsListAt None None = Unit {0}
IsListAt None (Some list) = ⊥
IsListAt (Some d) None = ⊥
IsListAt (Some d) (Some list) = as_array d ≡ Some (items_at list)

-- the calls of a line, of which the last has this answer
pub record ArePartsWith (line : ℕ) (parts : List PartCall) (recorded : RecordedReply) (calls : List LoggedCall) : Type 0 where
  pub others : List PartCall
  pub part : PartCall
  pub ahead : List LoggedCall
  pub last : LoggedCall
  pub in_parts : parts ≡ others ++ part ∷ []
  pub in_calls : calls ≡ ahead ++ last ∷ []
  pub are_ahead : AreAhead line (suc (length others)) (part_status recorded.status) 0 others ahead
  pub is_last : IsPart line (suc (length others)) (length others) part last
  pub answered : last.recorded ≡ recorded

-- a read of the answer more, where the call read
abbrev pub AddsAnswer : Option Status → Option Json → List PartCall → List PartCall → Type 0
AddsAnswer answered args old new = (reads : List PartCall) × AreAnswerReads (has_read answered) args reads × (new ≡ old ++ reads)

-- the calls before a line, and behind it
abbrev pub AddsLogged : Option Entry → List LoggedCall → List LoggedCall → Type 0
AddsLogged None old new = new ≡ old
AddsLogged (Some entry) old new = (line : List LoggedCall) × (new ≡ old ++ line) × IsLogged entry line

-- the calls of a line, those ahead of its last and the last; none, where it has no last
abbrev pub calls_in : List PartCall → Option PartCall → List PartCall
calls_in ahead None = []
calls_in ahead (Some last) = ahead ++ last ∷ []

-- the calls before, and those of a line that are ahead of its last
abbrev pub AddsAhead : ℕ → ℕ → Option Status → List PartCall → List LoggedCall → List LoggedCall → Type 0
AddsAhead line count answered parts old new = (ahead : List LoggedCall) × (new ≡ old ++ ahead) × AreAhead line count answered 0 parts ahead

-- and all of a line, whose last has this answer; none, where it has none
abbrev pub AddsParts : ℕ → List PartCall → RecordedReply → List LoggedCall → List LoggedCall → Type 0
AddsParts line [] recorded old new = new ≡ old
AddsParts line (part ∷ parts) recorded old new =
    (calls : List LoggedCall) × (new ≡ old ++ calls) × ArePartsWith line (part ∷ parts) recorded calls

-- the calls before a line, and behind them those of the line, of this name and with so many lines ahead
abbrev pub AddsCalls : CallName → ℕ → Option Json → List LoggedCall → List LoggedCall → Type 0
AddsCalls name number value old new = (line : List LoggedCall) × (new ≡ old ++ line) × AreCalled number name value line

-- the calls of the lines of a text ahead of what is left of it, of which there are so many
pub record IsReadUpTo (text left : List ℕ) (count : ℕ) (calls : List LoggedCall) : Type 0 where
  pub lines : count + length (lines_of left) ≡ length (lines_of text)
  pub entries : List Entry
  pub logged : AreLogged entries calls
  pub whole : entries ++ entries_behind count (lines_of left) ≡ entries_behind 0 (lines_of text)

-- a call of the log without its processes: its own is 0, and its recorded reply has none
abbrev pub without_process : LoggedCall → LoggedCall
without_process logged = record logged { process = 0; recorded = record logged.recorded { process = None } }
