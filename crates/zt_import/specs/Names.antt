-- The names and notes that a trace has of its log.
use Rattle.std.specs.Prelude.{ℕ, List, [], ◌++◌, Option, Some, None, slice_get, codes}
use Rattle.std.specs.Fmt.{decimal}
use Rattle.zt_text.specs.ShownNumbers.{shown_mask}
use Rattle.zt_logs.specs.declared.logged.CallLog.{CallLog}
use Rattle.zt_logs.specs.declared.logged.LoggedCall.{LoggedCall}
use Rattle.zt_logs.specs.Contexts.{line_text}
use Rattle.zt_import.specs.declared.trail.Origin.{Origin}
use Rattle.zt_import.specs.declared.trail.Origin.TheVariants as origin

-- the name line of a process of the trace, without its mark
abbrev pub process_name : ℕ → List ℕ → List ℕ
process_name koid name = codes " name " ++ decimal koid ++ codes " " ++ name

-- the name line of a handle, without its mark: its process in the trace, its value there, and its value in the log
abbrev pub handle_name : ℕ → ℕ → ℕ → List ℕ
handle_name process value handle = codes " handle " ++ decimal process ++ codes " " ++ decimal value ++ codes " " ++ shown_mask handle

abbrev pub text_of : CallLog → Option LoggedCall → List ℕ
text_of log None = []
text_of log (Some logged) = line_text log.contexts logged.line

-- what the line of a call tells besides the call
abbrev pub context_of : CallLog → Origin → List ℕ
context_of log (origin.Logged number) = text_of log (slice_get log.calls.items number)
context_of log other = []
