-- Calls counted by process and by the place of their status.
use Rattle.std.specs.Prelude.{◌≡◌, ℕ, zero, suc, ◌==◌, Bool, if◌then◌else◌, List, count_by, Option, None, Some}
use Rattle.std.specs.BTreeMap.{BTreeMap, get}
use Rattle.std.specs.Ordering.{is_eq, nat_cmp, ordering_then}
use Rattle.std.specs.declared.cmp.Ordering.{Ordering}
use Rattle.zt_bits.specs.declared.statuses.Status.{Status}
use Rattle.zt_bits.specs.declared.statuses.Status.TheVariants as status
use Rattle.zt_history.specs.Tree.{Made}
use Rattle.zt_look.specs.declared.call_counts.CallCount.{CallCount}
use Rattle.zt_bits.specs.Words.{status_number}
use Rattle.zt_rows.specs.Tests.{status_of}

-- by process, then place
abbrev pub answer_cmp : ℕ × ℕ → ℕ × ℕ → Ordering
answer_cmp a b = ordering_then (nat_cmp a.0 b.0) (nat_cmp a.1 b.1)

-- the process and the place of the status
abbrev pub answer_of : Made → ℕ × ℕ
answer_of e = (e.process, status_number (status_of e.reply))

abbrev pub has_answer : ℕ × ℕ → Made → Bool
has_answer k e = is_eq (answer_cmp (answer_of e) k)

-- none where there are none
abbrev pub counted : ℕ → Option ℕ
counted zero = None
counted (suc n) = Some (suc n)

-- the map has how often each answer was given
abbrev pub AreCallsCounted : List Made → BTreeMap (ℕ × ℕ) ℕ → Type 0
AreCallsCounted es counts = (k : ℕ × ℕ) → get answer_cmp counts k ≡ counted (count_by (has_answer k) es)

-- the status of this place
abbrev pub status_at : ℕ → Status
status_at n =
    if n == 0 then status.Ok else if n == 1 then status.BadHandle else if n == 2 then status.WrongType else if n == 3 then status.AccessDenied
    else if n == 4 then status.InvalidArgs else if n == 5 then status.NotSupported else if n == 6 then status.PeerClosed else if n == 7 then status.ShouldWait
    else if n == 8 then status.BufferTooSmall else if n == 9 then status.TimedOut else if n == 10 then status.BadState else if n == 11 then status.OutOfRange
    else if n == 12 then status.NotFound else status.AlreadyBound

-- what is told of an entry
abbrev pub count_told : (ℕ × ℕ) × ℕ → CallCount
count_told e = record { process = e.0.0; status = status_at e.0.1; count = e.1 }
