-- Which steps of a trail are in the trace, as lines of the log or beside them. This project's own.
use Rattle.std.specs.Prelude.{ℕ, ◌+◌, Bool, true, false, not, ◌&&◌, cond, nat_lt, List, [], ◌∷◌, is_some, Option, Some, None, slice_get}
use Rattle.std.specs.List.{list_any}
use Rattle.zt_logs.specs.declared.logged.LoggedCall.{LoggedCall}
use Rattle.zt_import.specs.declared.trail.Origin.{Origin}
use Rattle.zt_import.specs.declared.trail.Origin.TheVariants as origin
use Rattle.zt_import.specs.declared.trail.TrailStep.{TrailStep}
use Rattle.zt_import.specs.Parts.{is_counted}
use Rattle.zt_import.specs.Trails.{number_in}

-- the call of this number counts for its line
abbrev pub ends_line : Option LoggedCall → Bool
ends_line None = false
ends_line (Some logged) = is_counted logged.part

abbrev pub ends_line_by : List LoggedCall → Option ℕ → Bool
ends_line_by calls None = false
ends_line_by calls (Some number) = ends_line (slice_get calls number)

-- a line of the log is in the trace: the call that counts for it is
abbrev pub is_call : List LoggedCall → TrailStep → Bool
is_call calls step = ends_line_by calls (number_in step.origin) && is_some step.moment

-- a call of the trace is no line of the log
abbrev pub is_adopted : TrailStep → Bool
is_adopted step = not (is_some (number_in step.origin)) && is_some step.moment

-- two ends of the log are joined
abbrev pub is_joined : Origin → Bool
is_joined (origin.Pair _) = true
is_joined _ = false

-- two ends of the log are joined, and a call of the trace makes them
abbrev pub is_pair : TrailStep → Bool
is_pair step = is_joined step.origin && is_some step.moment

-- a call stands ahead of one that is before it in the log
abbrev pub is_moved : ℕ → List ℕ → Bool
is_moved number behind = list_any (λ other. nat_lt other number) behind

-- how many of these calls, given by their numbers in the order of the run, stand ahead of one that is before them in the log
abbrev pub moved_in : List ℕ → ℕ
moved_in [] = 0
moved_in (number ∷ behind) = cond (is_moved number behind) 1 0 + moved_in behind
