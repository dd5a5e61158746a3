-- Lines of a log that are several calls: which call ends one, and whose answer is that of the line. This project's own.
use Rattle.std.specs.Prelude.{ℕ, suc, ◌-◌, Bool, false, not, ◌&&◌, nat_lt, List, [], ◌∷◌, take, drop, Option, Some, None, if◌then◌else◌, ◌==◌}
use Rattle.zt_rows.specs.declared.calls.Reply.{Reply}
use Rattle.zt_history.specs.Tree.{Made, reply_at}
use Rattle.zt_logs.specs.declared.line_parts.LinePart.{LinePart}
use Rattle.zt_import.specs.declared.schedule.AskedCall.{AskedCall}
use Rattle.zt_bits.specs.Words.{status_number}
use Rattle.zt_rows.specs.Tests.{status_of}

-- a call is the last of its line
abbrev pub is_last : LinePart → Bool
is_last part = not (nat_lt (suc part.ahead) part.count)

-- it counts for its line: it is the last, and does not stand apart from another that does
abbrev pub is_counted : LinePart → Bool
is_counted part = is_last part && not part.is_apart

-- the calls of a line that stand ahead of its last, which has this number
abbrev pub ahead_of : ℕ → ℕ → List AskedCall → List AskedCall
ahead_of number ahead asked = take ahead (drop (number - ahead) asked)

-- a call was ok; one that was not made was not
abbrev pub is_ok : Option Reply → Bool
is_ok None = false
is_ok (Some answered) = status_number (status_of answered) == 0

-- what a call answered; nothing, where it was not made
abbrev pub answered_at : List Made → Option ℕ → Option Reply
answered_at made None = None
answered_at made (Some moment) = reply_at made moment

abbrev pub is_ok_at : List Made → Option ℕ → Bool
is_ok_at made moment = is_ok (answered_at made moment)

-- the moment of the first of these calls that was not ok, or else this one: its answer is that of the line
abbrev pub answering : List Made → List AskedCall → Option ℕ → Option ℕ
answering made [] last = last
answering made (asked ∷ others) last = if is_ok_at made asked.moment then answering made others last else asked.moment
