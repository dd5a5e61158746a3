-- The calls that were asked of a history for a log, and those of them whose replies differ from what the log has. This
-- project's own.
use Rattle.std.specs.Prelude.{◌≡◌, ◌==◌, ℕ, ⊤, zero, suc, List, [], ◌∷◌, ◌++◌, map, length, Option, Some, None, slice_get, slice_set, if◌then◌else◌}
use Rattle.std.specs.List.{filter_map, cons_option}
use Rattle.std.specs.Option.{option_map}
use Rattle.zt_rows.specs.declared.calls.Call.{Call}
use Rattle.zt_rows.specs.declared.calls.Call.TheVariants as call
use Rattle.zt_rows.specs.declared.calls.Reply.{Reply}
use Rattle.zt_rows.specs.declared.calls.Reply.TheVariants as reply
use Rattle.zt_history.specs.Tree.{Made, call_at}
use Rattle.zt_logs.specs.declared.logged.LoggedCall.{LoggedCall}
use Rattle.zt_import.specs.declared.trail.Difference.{Difference}
use Rattle.zt_import.specs.declared.trail.Origin.{Origin}
use Rattle.zt_import.specs.declared.trail.Origin.TheVariants as origin
use Rattle.zt_import.specs.declared.trail.TrailStep.{TrailStep}
use Rattle.zt_import.specs.declared.schedule.AskedCall.{AskedCall}
use Rattle.zt_import.specs.Comparison.{agrees}
use Rattle.zt_import.specs.Parts.{is_last, ahead_of, answering, answered_at}
use Rattle.zt_import.specs.Schedule.{by_schedule}

-- the calls of moments, each with its process
abbrev pub calls_of : List Made → List (ℕ × Call)
calls_of made = map (λ e. (e.process, e.call)) made

-- ---- steps

-- which call of the log a step is
abbrev pub number_in : Origin → Option ℕ
number_in (origin.Logged number) = Some number
number_in _ = None

-- the calls of the log among the steps
abbrev pub numbers_in : List TrailStep → List ℕ
numbers_in trail = filter_map (λ step. number_in step.origin) trail

-- the moments that the steps made
abbrev pub moments_in : List TrailStep → List ℕ
moments_in trail = filter_map (λ step. step.moment) trail

-- the numbers below this one, in their order
abbrev pub below : ℕ → List ℕ
below zero = []
below (suc n) = below n ++ n ∷ []

-- so many moments behind the opening, in their order
abbrev pub moments_to : ℕ → List ℕ
moments_to zero = []
moments_to (suc n) = moments_to n ++ suc n ∷ []

-- ---- the calls of the log among the steps

-- a call with its line, before it is asked
abbrev pub not_asked : LoggedCall → AskedCall
not_asked logged = record { line = logged.line; moment = None }

-- the call of this number, if there is one, was asked at this moment
abbrev pub put_call : List AskedCall → ℕ → Option LoggedCall → Option ℕ → List AskedCall
put_call asked number None moment = asked
put_call asked number (Some logged) moment = slice_set asked number (record { line = logged.line; moment = moment })

abbrev pub put_number : List LoggedCall → List AskedCall → Option ℕ → Option ℕ → List AskedCall
put_number calls asked None moment = asked
put_number calls asked (Some number) moment = put_call asked number (slice_get calls number) moment

-- the call of the log that a step is, if it is one, was asked at the step's moment
abbrev pub put_asked : List LoggedCall → List AskedCall → TrailStep → List AskedCall
put_asked calls asked step = put_number calls asked (number_in step.origin) step.moment

abbrev pub asked_after : List LoggedCall → List AskedCall → List TrailStep → List AskedCall
asked_after calls asked [] = asked
asked_after calls asked (step ∷ trail) = asked_after calls (put_asked calls asked step) trail

-- all calls of the log, each at its own place, in whichever order they were asked
abbrev pub asked_in : List LoggedCall → List TrailStep → List AskedCall
asked_in calls trail = asked_after calls (map not_asked calls) trail

-- ---- differences

-- what a step's call answered; nothing, where it was not made
abbrev pub answer_at : List Made → Option ℕ → Option Reply
answer_at made moment = answered_at made moment

-- what differs of this call of the log, which has this number and whose line was answered at this moment
abbrev pub difference_with : List Made → List AskedCall → LoggedCall → ℕ → Option ℕ → Option Difference
difference_with made asked logged number moment =
    if agrees logged.recorded (answer_at made moment) then None
    else Some (record { call = number; moment = moment; by_schedule = by_schedule made asked logged number moment })

-- what differs of this call of the log, which made this moment; nothing, if other calls of its line come behind it. The line is
-- answered by the first of its calls that was not ok, or else by the last
abbrev pub difference_of : List Made → List AskedCall → LoggedCall → ℕ → Option ℕ → Option Difference
difference_of made asked logged number moment =
    if is_last logged.part then difference_with made asked logged number (answering made (ahead_of number logged.part.ahead asked) moment)
    else None

abbrev pub difference_for : List Made → List AskedCall → Option LoggedCall → ℕ → Option ℕ → Option Difference
difference_for made asked None number moment = None
difference_for made asked (Some logged) number moment = difference_of made asked logged number moment

abbrev pub difference_by : List LoggedCall → List Made → List AskedCall → Option ℕ → Option ℕ → Option Difference
difference_by calls made asked None moment = None
difference_by calls made asked (Some number) moment = difference_for made asked (slice_get calls number) number moment

-- what differs at a step; a call that the log does not have differs from nothing
abbrev pub difference_at : List LoggedCall → List Made → List AskedCall → TrailStep → Option Difference
difference_at calls made asked step = difference_by calls made asked (number_in step.origin) step.moment

-- all that differ, in the order of the log
abbrev pub differences_of : List LoggedCall → List Made → List TrailStep → List Difference
differences_of calls made trail = filter_map (difference_at calls made (asked_in calls trail)) trail

-- ---- the calls of the log, but for handles

-- a list of so many zeros, none of which is a handle
abbrev pub zeros : ℕ → List ℕ
zeros zero = []
zeros (suc n) = 0 ∷ zeros n

-- a call apart from its handles: each is 0
abbrev pub bare : Call → Call
bare (call.HandleClose _) = call.HandleClose 0
bare (call.HandleDuplicate _ rights) = call.HandleDuplicate 0 rights
bare (call.HandleReplace _ rights) = call.HandleReplace 0 rights
bare (call.ObjectSignal _ clear set) = call.ObjectSignal 0 clear set
bare (call.ObjectSignalPeer _ clear set) = call.ObjectSignalPeer 0 clear set
bare (call.ChannelWrite _ parcel) = call.ChannelWrite 0 (record { bytes = parcel.bytes; handles = zeros (length parcel.handles) })
bare (call.ChannelRead _ bytes handles discard) = call.ChannelRead 0 bytes handles discard
bare (call.ObjectWaitAsync _ _ key signals edge) = call.ObjectWaitAsync 0 0 key signals edge
bare (call.PortQueue _ key bytes) = call.PortQueue 0 key bytes
bare (call.PortWait _) = call.PortWait 0
bare (call.PortCancel _ _ key) = call.PortCancel 0 0 key
bare (call.JobCreate _) = call.JobCreate 0
bare (call.Spawn _ _) = call.Spawn 0 0
bare (call.JobSetCritical _ _) = call.JobSetCritical 0 0
bare (call.TaskKill _) = call.TaskKill 0
bare other = other

-- a call with its process, apart from its handles
abbrev pub bare_called : ℕ × Call → ℕ × Call
bare_called called = (called.0, bare called.1)

-- what is called at this moment, if it is one, is this call of this process but for its handles
abbrev pub IsMadeOf : List Made → Option ℕ → ℕ → Call → Type 0
IsMadeOf made None process logged = ⊤
IsMadeOf made (Some moment) process logged =
    option_map bare_called (call_at made moment) ≡ Some (process, bare logged)

-- ---- the processes of the log

-- the process that a call made, by its reply
abbrev pub spawned_in : Option Reply → Option ℕ
spawned_in (Some (reply.Spawned handle process)) = Some process
spawned_in _ = None

-- the number that the log has for the process that its call made
abbrev pub child_in : Option LoggedCall → Option ℕ
child_in None = None
child_in (Some logged) = logged.recorded.process

-- the number that the log has for the process that a step makes: one that nothing in the log made, or the child of its call
abbrev pub child_by : List LoggedCall → Origin → Option ℕ
child_by calls (origin.Adopted number) = Some number
child_by calls (origin.Logged number) = child_in (slice_get calls number)
child_by calls _ = None

abbrev pub pair_of : Option ℕ → Option ℕ → Option (ℕ × ℕ)
pair_of (Some number) (Some process) = Some (number, process)
pair_of _ _ = None

-- a process of the log, with the process of the trace that a step makes for it
abbrev pub pair_by : List LoggedCall → List Made → TrailStep → Option (ℕ × ℕ)
pair_by calls made step = pair_of (child_by calls step.origin) (spawned_in (answer_at made step.moment))

-- the process that stands for one of the log: the last that was made for it, which is the first of the pairs; 0, which is none,
-- before one was
abbrev pub stands_for : List (ℕ × ℕ) → ℕ → ℕ
stands_for [] number = 0
stands_for (pair ∷ pairs) number = if pair.0 == number then pair.1 else stands_for pairs number

-- ---- the calls of the log, by their processes

abbrev pub IsMadeFor : List Made → List (ℕ × ℕ) → Option ℕ → Option LoggedCall → Type 0
IsMadeFor made pairs moment None = ⊤
IsMadeFor made pairs moment (Some logged) = IsMadeOf made moment (stands_for pairs logged.process) logged.call

abbrev pub IsMadeBy : List LoggedCall → List Made → List (ℕ × ℕ) → Option ℕ → Option ℕ → Type 0
IsMadeBy calls made pairs None moment = ⊤
IsMadeBy calls made pairs (Some number) moment = IsMadeFor made pairs moment (slice_get calls number)

-- each step that is a call of the log and made a moment called there what the log has, but for its handles, by the process that
-- stands for the log's, as `pairs` and the steps before it tell
abbrev pub AreMadeBy : List LoggedCall → List Made → List (ℕ × ℕ) → List TrailStep → Type 0
AreMadeBy calls made pairs [] = ⊤
AreMadeBy calls made pairs (step ∷ trail) =
    IsMadeBy calls made pairs (number_in step.origin) step.moment × AreMadeBy calls made (cons_option (pair_by calls made step) pairs) trail
