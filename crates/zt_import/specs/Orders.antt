-- In which orders the calls of a log may be run: in that of the log, or with calls moved ahead of others that returned before
-- them. This project's own.
use Rattle.std.specs.Prelude.{◌≡◌, ◌==◌, ℕ, ◌+◌, ◌&&◌, ◌||◌, Bool, true, false, not, nat_lt, nat_le, List, [], ◌∷◌, length, Option, Some, None, slice_get, IsPermutation}
use Rattle.std.specs.List.{list_all}
use Rattle.zt_logs.specs.declared.logged.LoggedCall.{LoggedCall}
use Rattle.zt_logs.specs.declared.times.LogTime.{LogTime}
use Rattle.zt_import.specs.Schedule.{most_lines}
use Rattle.zt_import.specs.Trails.{below}

-- ---- whether a call may be moved ahead of one that returned before it

-- a line is near behind another, or ahead of it
abbrev pub is_near_behind : ℕ → ℕ → Bool
is_near_behind line other = nat_le line (other + most_lines)

-- one time is before another
abbrev pub is_earlier : LogTime → LogTime → Bool
is_earlier time other = nat_lt time.whole other.whole || (time.whole == other.whole) && nat_lt time.part other.part

-- a call that returned at this time was not over when the other began; one whose time the log does not tell counts as such
abbrev pub is_over_after : Option LogTime → LogTime → Bool
is_over_after None began = true
is_over_after (Some time) began = not (is_earlier time began)

-- a call that began then had begun when another returned, by the times of both; by its line, where its own has none
abbrev pub has_begun : Option LogTime → Option LogTime → LoggedCall → Bool
has_begun None ended earlier = true
has_begun (Some began) None earlier = nat_le began.whole earlier.line
has_begun (Some began) (Some ended) earlier = is_over_after earlier.times.ended began

abbrev pub is_begun_by : LoggedCall → LoggedCall → Bool
is_begun_by later earlier = has_begun later.times.began later.times.ended earlier

-- the later call may be moved ahead of the earlier one: it is of another process, its line is near, and it had begun by then
abbrev pub may_pass : LoggedCall → LoggedCall → Bool
may_pass later earlier = not (later.process == earlier.process) && is_near_behind later.line earlier.line && is_begun_by later earlier

abbrev pub may_pass_any : Option LoggedCall → Option LoggedCall → Bool
may_pass_any (Some later) (Some earlier) = may_pass later earlier
may_pass_any _ _ = false

-- ---- orders

-- one call stands ahead of another in the log, or may be moved ahead of it
abbrev pub may_precede : List LoggedCall → ℕ → ℕ → Bool
may_precede calls one other = nat_lt one other || may_pass_any (slice_get calls one) (slice_get calls other)

-- each call may stand ahead of those behind it
abbrev pub is_in_order : List LoggedCall → List ℕ → Bool
is_in_order calls [] = true
is_in_order calls (number ∷ numbers) = list_all (may_precede calls number) numbers && is_in_order calls numbers

-- the calls of a log by their numbers, each once, so that those of a process keep their order, and none is moved further than it may be
abbrev pub IsOrder : List LoggedCall → List ℕ → Type 0
IsOrder calls numbers = IsPermutation (below (length calls)) numbers × (is_in_order calls numbers ≡ true)
