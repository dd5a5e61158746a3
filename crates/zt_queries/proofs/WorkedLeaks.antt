-- Worked cases of what is reached, kept and leaked, and of the moments at which something happens: each holds by
-- computation. Calls are written as in the worked rows of the semantics.
use Rattle.std.proofs.Common.{refl}
use Rattle.std.specs.Prelude.{◌≡◌, ℕ, ◌+◌, Bool, pos, List, [], ◌∷◌, ◌++◌}
use Rattle.zt_bits.specs.declared.kinds.Kind.{Kind}
use Rattle.zt_bits.specs.declared.kinds.Kind.TheVariants as kind
use Rattle.zt_rows.specs.State.{State, row, put, change}
use Rattle.zt_rows.specs.Reads.{objects, messages, waits, queue, packets}
use Rattle.zt_rows.specs.Tests.{any_row, count_row}
use Rattle.zt_rows.specs.Support.{supports, support_count, is_supported}
use Rattle.zt_rows.specs.Opening.{opening}
use Rattle.zt_rows.specs.Collect.{without, goes, rounds, collect}
use Rattle.zt_rows.specs.Settle.{refresh, settle}
use Rattle.zt_rows.specs.End.{links, chain, end}
use Rattle.zt_rows.specs.Step.{completed}
use Rattle.zt_rows.proofs.WorkedRowsForm.{Asked, EventCreate, EventPairCreate, ChannelCreate, HandleClose, ChannelWrite, JobCreate, Spawn, TaskKill, ProcessExit, performed, ran, root, by_root}
use Rattle.zt_queries.specs.Reachability.{found, reached}
use Rattle.zt_queries.specs.Leaks.{is_above, is_leaked, leaks}
use Rattle.zt_queries.specs.Happenings.{made, ended, peer_closed, leaked, moments}

-- what is leaked after the calls
unfoldable leaks_after : List (ℕ × Asked) → List (ℕ × Kind)
unfolding ran found reached is_above leaks messages
leaks_after cs = leaks (ran cs).0

unfoldable reached_after : List (ℕ × Asked) → List ℕ
unfolding ran found reached messages
reached_after cs = reached (ran cs).0

-- the moments behind moment n, which has the state S, with their states
abbrev path_from : ℕ → State → List (ℕ × Asked) → List (ℕ × State)
path_from n S [] = []
path_from n S (c ∷ cs) =
    let T = (completed S (performed S c.0 c.1)).0 in
    (n + 1, T) ∷ path_from (n + 1) T cs

-- the moments of the calls at which it happens
unfoldable moments_of : (State → State → Bool) → List (ℕ × Asked) → List ℕ
unfolding row put change objects messages waits queue packets any_row count_row supports support_count is_supported without goes rounds collect refresh settle links chain end found reached is_above is_leaked
moments_of happens cs = moments happens opening (path_from 0 opening cs)

-- ---- what is reached

-- the root process reaches the root job, and no process names itself
reached_first : reached_after [] ≡ 1024 ∷ []
unfolding reached_after
reached_first = refl

-- an event in a queue is reached by the endpoint at which it waits
reached_in_a_queue : reached_after (by_root (ChannelCreate ∷ EventCreate ∷ ChannelWrite 7 [] (15 ∷ []) ∷ [])) ≡ 1024 ∷ 1026 ∷ 1027 ∷ 1028 ∷ []
unfolding reached_after
reached_in_a_queue = refl

-- the end of a channel that was sent into its own queue is not reached: no process can read there
reached_not_in_its_own_queue : reached_after (by_root (ChannelCreate ∷ ChannelWrite 7 [] (11 ∷ []) ∷ [])) ≡ 1024 ∷ 1026 ∷ []
unfolding reached_after
reached_not_in_its_own_queue = refl

-- ---- what is leaked

-- nothing at first, and nothing where every object has a handle
leaks_first : leaks_after [] ≡ []
unfolding leaks_after
leaks_first = refl

leaks_none : leaks_after (by_root (ChannelCreate ∷ EventCreate ∷ EventPairCreate ∷ JobCreate 3 ∷ Spawn 3 0 ∷ [])) ≡ []
unfolding leaks_after
leaks_none = refl

-- a channel whose only handle lies in its own queue
abbrev into_its_own_queue : List (ℕ × Asked)
into_its_own_queue = by_root (ChannelCreate ∷ ChannelWrite 7 [] (11 ∷ []) ∷ HandleClose 7 ∷ [])

leaks_in_its_own_queue : leaks_after into_its_own_queue ≡ (1027, kind.Channel) ∷ []
unfolding leaks_after
leaks_in_its_own_queue = refl

-- two ends, each in the queue of the other's pair, and an event beside one of them
leaks_in_a_cycle : leaks_after (by_root (ChannelCreate ∷ ChannelCreate ∷ EventCreate ∷ ChannelWrite 7 [] (19 ∷ 23 ∷ []) ∷ ChannelWrite 15 [] (11 ∷ []) ∷ [])) ≡ (1027, kind.Channel) ∷ (1029, kind.Channel) ∷ (1030, kind.Event) ∷ []
unfolding leaks_after
leaks_in_a_cycle = refl

-- a message at an endpoint that is reached holds what is reached, and goes with the endpoint
leaks_in_a_queue : leaks_after (by_root (ChannelCreate ∷ EventCreate ∷ ChannelWrite 7 [] (15 ∷ []) ∷ [])) ≡ []
unfolding leaks_after
leaks_in_a_queue = refl

leaks_with_its_queue : leaks_after (by_root (ChannelCreate ∷ EventCreate ∷ ChannelWrite 7 [] (15 ∷ []) ∷ HandleClose 11 ∷ [])) ≡ []
unfolding leaks_after
leaks_with_its_queue = refl

-- a job above a job that is reached is kept, though no handle names it
leaks_above_a_reached_job : leaks_after (by_root (JobCreate 3 ∷ JobCreate 7 ∷ HandleClose 7 ∷ [])) ≡ []
unfolding leaks_after
leaks_above_a_reached_job = refl

-- the lower job is sent out of reach: both are leaked, the upper one held up by the lower one alone
abbrev jobs_out_of_reach : List (ℕ × Asked)
jobs_out_of_reach = by_root (JobCreate 3 ∷ JobCreate 7 ∷ HandleClose 7 ∷ ChannelCreate ∷ ChannelWrite 15 [] (11 ∷ 19 ∷ []) ∷ [])

leaks_with_jobs : leaks_after jobs_out_of_reach ≡ (1026, kind.Job) ∷ (1027, kind.Job) ∷ (1029, kind.Channel) ∷ []
unfolding leaks_after
leaks_with_jobs = refl

-- a leaked job goes with the last of its live children: all under the root job ends
leaks_after_a_kill : leaks_after (jobs_out_of_reach ++ root (TaskKill 3) ∷ []) ≡ (1027, kind.Job) ∷ (1029, kind.Channel) ∷ []
unfolding leaks_after
leaks_after_a_kill = refl

-- a live process is kept, and so is the job above it, though both are named out of reach alone; once it has
-- ended both are leaked
abbrev process_out_of_reach : List (ℕ × Asked)
process_out_of_reach = by_root (JobCreate 3 ∷ Spawn 7 0 ∷ ChannelCreate ∷ ChannelWrite 15 [] (7 ∷ 11 ∷ 19 ∷ []) ∷ [])

leaks_with_a_process : leaks_after process_out_of_reach ≡ (1029, kind.Channel) ∷ []
unfolding leaks_after
leaks_with_a_process = refl

leaks_with_an_ended_process : leaks_after (process_out_of_reach ++ (1027, ProcessExit (pos 0)) ∷ []) ≡ (1026, kind.Job) ∷ (1027, kind.Process) ∷ (1029, kind.Channel) ∷ []
unfolding leaks_after
leaks_with_an_ended_process = refl

-- a live process without a handle is kept, and the root job too when nothing names it any more
leaks_without_handles : leaks_after (by_root (Spawn 3 0 ∷ HandleClose 7 ∷ HandleClose 3 ∷ [])) ≡ []
unfolding leaks_after
leaks_without_handles = refl

leaks_of_nothing_left : leaks_after (by_root (TaskKill 3 ∷ [])) ≡ []
unfolding leaks_after
leaks_of_nothing_left = refl

-- ---- the moments at which something happens

-- sent into its own queue at moment 2, and left by its peer at moment 3
leaked_in_its_own_queue : moments_of (leaked 1027) into_its_own_queue ≡ 2 ∷ []
unfolding moments_of
leaked_in_its_own_queue = refl

peer_closed_in_its_own_queue : moments_of (peer_closed 1027) into_its_own_queue ≡ 3 ∷ []
unfolding moments_of
peer_closed_in_its_own_queue = refl

ended_in_its_own_queue : moments_of (ended 1027) into_its_own_queue ≡ []
unfolding moments_of
ended_in_its_own_queue = refl

-- the process ends at moment 5, and then it and its job are leaked
leaked_by_an_exit : moments_of (leaked 1026) (process_out_of_reach ++ (1027, ProcessExit (pos 0)) ∷ []) ≡ 5 ∷ []
unfolding moments_of
leaked_by_an_exit = refl

-- both ends of a pair are made at once; the opening's objects are made at no moment
made_at_once : moments_of (made 1027) (by_root (EventCreate ∷ EventPairCreate ∷ HandleClose 7 ∷ [])) ≡ 2 ∷ []
unfolding moments_of
made_at_once = refl

made_never : moments_of (made 1025) (by_root (EventCreate ∷ EventPairCreate ∷ [])) ≡ []
unfolding moments_of
made_never = refl

-- an event ends as it goes, and so does a live job
ended_event : moments_of (ended 1026) (by_root (EventCreate ∷ EventCreate ∷ HandleClose 7 ∷ HandleClose 11 ∷ [])) ≡ 3 ∷ []
unfolding moments_of
ended_event = refl

ended_job : moments_of (ended 1026) (by_root (JobCreate 3 ∷ HandleClose 7 ∷ [])) ≡ 2 ∷ []
unfolding moments_of
ended_job = refl

-- a process ends as it exits, and not once more as it goes
ended_process : moments_of (ended 1026) (root (Spawn 3 0) ∷ (1026, ProcessExit (pos 0)) ∷ root (HandleClose 7) ∷ []) ≡ 2 ∷ []
unfolding moments_of
ended_process = refl

-- a peer is closed where the last handle of the other end goes; an event has no peer
peer_closed_pair : moments_of (peer_closed 1026) (by_root (EventPairCreate ∷ HandleClose 11 ∷ HandleClose 7 ∷ [])) ≡ 2 ∷ []
unfolding moments_of
peer_closed_pair = refl

peer_closed_never : moments_of (peer_closed 1026) (by_root (EventCreate ∷ HandleClose 7 ∷ [])) ≡ []
unfolding moments_of
peer_closed_never = refl
