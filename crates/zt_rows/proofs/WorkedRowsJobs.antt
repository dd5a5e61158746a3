-- Worked rows on jobs, processes and their ends: each holds by computation.
use Rattle.std.proofs.Common.{refl}
use Rattle.std.specs.Prelude.{◌≡◌, ℕ, zero, suc, ◌+◌, false, pos, negsuc, List, [], ◌∷◌, ◌++◌, Some}
use Rattle.zt_bits.specs.declared.kinds.Kind.TheVariants as kind
use Rattle.zt_bits.specs.declared.statuses.Status.TheVariants.{BadHandle, WrongType, InvalidArgs, AccessDenied, PeerClosed, TimedOut, BadState, OutOfRange, AlreadyBound}
use Rattle.zt_rows.specs.declared.calls.Reply.TheVariants.{Handle, Handles, Spawned, Message, Packet}
use Rattle.zt_rows.specs.declared.keys.RowKey.TheVariants as key
use Rattle.zt_rows.specs.declared.rows.Life.TheVariants as life
use Rattle.zt_rows.specs.declared.rows.Packet.TheVariants as packet
use Rattle.zt_rows.specs.declared.supports.Support.TheVariants as support
use Rattle.zt_rows.specs.Handles.{done}
use Rattle.zt_rows.proofs.WorkedRowsForm.{Asked, EventCreate, PortCreate, ChannelCreate, HandleClose, HandleDuplicate, HandleReplace, ChannelWrite, ChannelRead, ObjectSignal, ObjectWaitAsync, PortWait, JobCreate, Spawn, JobSetCritical, TaskKill, ProcessExit, ran, root, by_root, replies, rows_after, row_after, supports_after, then_one, failed, object_row, critical_row, held_row, counters_row}
use Rattle.zt_rows.specs.State.{State, row, put}
use Rattle.zt_rows.specs.End.{links, chain}
use Rattle.zt_rows.specs.Opening.{opening}
use Rattle.zt_rows.specs.JobCalls.{job_create}

-- ---- processes

-- a child gets one end of a channel, writes, and exits
abbrev pub child_writes_and_exits : List (ℕ × Asked)
child_writes_and_exits =
    root ChannelCreate ∷ root (Spawn 3 11) ∷ (1028, ChannelWrite 3 (0x68 ∷ 0x69 ∷ []) [])
    ∷ root (ChannelRead 7 16 0 false) ∷ (1028, ProcessExit (pos 5)) ∷ root (ChannelRead 7 0 0 false) ∷ []

pub child_that_exits : replies (child_writes_and_exits)
    ≡ Handles 7 11 ∷ Spawned 15 1028 ∷ done ∷ Message (0x68 ∷ 0x69 ∷ []) [] ∷ done ∷ failed PeerClosed ∷ []
unfolding ran
child_that_exits = refl

pub child_that_exited : row_after (child_writes_and_exits) (key.Object 1028) ≡ Some (object_row kind.Process 0x8 0 (life.Exited (pos 5)) 1)
unfolding row_after
child_that_exited = refl

-- what the child is given leaves the caller; given nothing it has no handle
pub spawned : then_one (by_root (ChannelCreate ∷ [])) (root (Spawn 3 11))
    ≡ (Spawned 15 1028, key.Counters ∷ key.Object 1025 ∷ key.Object 1028 ∷ key.Entry 1025 11 ∷ key.Entry 1025 15 ∷ key.Entry 1028 3 ∷ [])
unfolding then_one
spawned = refl

pub spawned_with_nothing : row_after (by_root (Spawn 3 0 ∷ [])) (key.Object 1026) ≡ Some (object_row kind.Process 0 1024 life.Live 0)
unfolding row_after
spawned_with_nothing = refl

-- the job itself may be given: then it lives by its child
pub given_its_own_job : then_one (by_root (JobCreate 3 ∷ [])) (root (Spawn 7 7))
    ≡ (Spawned 11 1027, key.Counters ∷ key.Object 1025 ∷ key.Object 1026 ∷ key.Object 1027 ∷ key.Entry 1025 7 ∷ key.Entry 1025 11 ∷ key.Entry 1027 3 ∷ [])
unfolding then_one
given_its_own_job = refl

pub given_its_own_job_supports : supports_after (by_root (JobCreate 3 ∷ Spawn 7 7 ∷ [])) 1026 ≡ support.Entry 1027 3 ∷ support.Child 1027 ∷ []
unfolding supports_after
given_its_own_job_supports = refl

-- the job, then what is given, then whether the job has ended; what was to be given stays
pub spawn_first_of_two_faults : replies (by_root (EventCreate ∷ HandleReplace 7 0 ∷ Spawn 11 99 ∷ Spawn 3 99 ∷ Spawn 3 11 ∷ JobCreate 3 ∷ TaskKill 15 ∷ Spawn 15 99 ∷ Spawn 15 0 ∷ HandleClose 11 ∷ []))
    ≡ Handle 7 ∷ Handle 11 ∷ failed WrongType ∷ failed BadHandle ∷ failed AccessDenied ∷ Handle 15 ∷ done ∷ failed BadHandle ∷ failed BadState ∷ done ∷ []
unfolding ran
spawn_first_of_two_faults = refl

-- the root process exits: nothing names it, and the root job stays without a child
pub root_process_exits : rows_after (by_root (ProcessExit (pos 0) ∷ []))
    ≡ (key.Counters, counters_row 1026 0)
    ∷ (key.Object 1024, object_row kind.Job 0x30 0 life.Live 0) ∷ []
unfolding ran
root_process_exits = refl

-- another process hears of an exit by its wait, the code may be negative
pub exit_is_heard : replies (root (Spawn 3 0) ∷ root PortCreate ∷ root (ObjectWaitAsync 7 11 1 0x8) ∷ (1026, ProcessExit (negsuc 0)) ∷ root (PortWait 11) ∷ [])
    ≡ Spawned 7 1026 ∷ Handle 11 ∷ done ∷ done ∷ Packet (packet.Signal 1 (record { 0 = 0x8 }) (record { 0 = 0x8 }) 1025 7) ∷ []
unfolding ran
exit_is_heard = refl

-- ---- jobs

-- a job without handle and live child goes, and then its parent
pub job_without_handle : then_one (by_root (JobCreate 3 ∷ [])) (root (HandleClose 7))
    ≡ (done, key.Object 1024 ∷ key.Object 1026 ∷ key.Entry 1025 7 ∷ [])
unfolding then_one
job_without_handle = refl

pub jobs_without_handle : then_one (by_root (JobCreate 3 ∷ JobCreate 7 ∷ HandleClose 7 ∷ [])) (root (HandleClose 11))
    ≡ (done, key.Object 1024 ∷ key.Object 1026 ∷ key.Object 1027 ∷ key.Entry 1025 11 ∷ [])
unfolding then_one
jobs_without_handle = refl

pub job_kept_by_its_child : then_one (by_root (JobCreate 3 ∷ Spawn 7 0 ∷ [])) (root (HandleClose 7))
    ≡ (done, key.Entry 1025 7 ∷ [])
unfolding then_one
job_kept_by_its_child = refl

pub job_kept_by_its_child_support : supports_after (by_root (JobCreate 3 ∷ Spawn 7 0 ∷ HandleClose 7 ∷ [])) 1026 ≡ support.Child 1027 ∷ []
unfolding supports_after
job_kept_by_its_child_support = refl

-- an ended job takes neither jobs nor processes; the right comes first
pub ended_job : replies (by_root (JobCreate 3 ∷ HandleDuplicate 7 0x200 ∷ TaskKill 11 ∷ JobCreate 7 ∷ Spawn 7 0 ∷ JobCreate 11 ∷ JobCreate 0 ∷ []))
    ≡ Handle 7 ∷ Handle 11 ∷ done ∷ failed BadState ∷ failed BadState ∷ failed AccessDenied ∷ failed BadHandle ∷ []
unfolding ran
ended_job = refl

-- S with n jobs from koid x on, each under the one before it and the first under `parent`
abbrev pub jobs_in_a_row : ℕ → ℕ → ℕ → State → State
jobs_in_a_row x parent zero S = S
jobs_in_a_row x parent (suc n) S =
    jobs_in_a_row (x + 1) x n (put S (key.Object x) (Some (object_row kind.Job 0x20 parent life.Live 0)))

-- the opening with n jobs in a row, where the root process holds the last of them by its handle 3
abbrev pub deep : ℕ → State
deep n = put (jobs_in_a_row 1026 1024 n opening) (key.Entry 1025 3) (Some (held_row (1025 + n) 0x3d203))

-- a job with 31 above it can have a job under it, and one with 32 none
pub second_deepest_job : (job_create (deep 31) 1025 3).1 ≡ Handle 7
unfolding row put links chain
second_deepest_job = refl

pub deepest_job : (job_create (deep 32) 1025 3).1 ≡ failed OutOfRange
unfolding row put links chain
deepest_job = refl

-- ---- kills

pub killed_root_job : rows_after (by_root (TaskKill 3 ∷ []))
    ≡ (key.Counters, counters_row 1026 0)
    ∷ (key.Object 1024, object_row kind.Job 0x38 0 life.Killed 0) ∷ []
unfolding ran
killed_root_job = refl

pub killed_root_job_reply : replies (by_root (TaskKill 3 ∷ []))
    ≡ done ∷ []
unfolding ran
killed_root_job_reply = refl

-- all under a job ends, the jobs under it too, and nothing beside it
pub killed_with_all_under_it : then_one (by_root (JobCreate 3 ∷ JobCreate 7 ∷ Spawn 11 0 ∷ JobCreate 3 ∷ [])) (root (TaskKill 7))
    ≡ (done, key.Object 1026 ∷ key.Object 1027 ∷ key.Object 1028 ∷ [])
unfolding then_one
killed_with_all_under_it = refl

pub killed_process : row_after (by_root (JobCreate 3 ∷ JobCreate 7 ∷ Spawn 11 0 ∷ JobCreate 3 ∷ TaskKill 7 ∷ [])) (key.Object 1028) ≡ Some (object_row kind.Process 0x8 0 life.Killed 0)
unfolding row_after
killed_process = refl

-- killing one process ends it alone
pub killed_alone : then_one (by_root (JobCreate 3 ∷ Spawn 7 0 ∷ Spawn 7 0 ∷ [])) (root (TaskKill 11))
    ≡ (done, key.Object 1027 ∷ [])
unfolding then_one
killed_alone = refl

-- killing again is nothing, also where the process had exited; its signals can still be set
pub killed_again : then_one (by_root (JobCreate 3 ∷ TaskKill 7 ∷ [])) (root (TaskKill 7))
    ≡ (done, [])
unfolding then_one
killed_again = refl

pub killed_after_its_exit : then_one (root (Spawn 3 0) ∷ (1026, ProcessExit (pos 1)) ∷ []) (root (TaskKill 7))
    ≡ (done, [])
unfolding then_one
killed_after_its_exit = refl

pub ended_and_signalled : row_after (by_root (JobCreate 3 ∷ TaskKill 7 ∷ ObjectSignal 7 0 0x01000000 ∷ [])) (key.Object 1026) ≡ Some (object_row kind.Job 0x01000038 0 life.Killed 0)
unfolding row_after
ended_and_signalled = refl

-- a process that kills its own job; the handles of both go, what the caller of neither holds stays
pub kills_its_own_job : then_one (root (JobCreate 3) ∷ root (Spawn 7 7) ∷ []) (1027, TaskKill 3)
    ≡ (done, key.Object 1024 ∷ key.Object 1026 ∷ key.Object 1027 ∷ key.Entry 1027 3 ∷ [])
unfolding then_one
kills_its_own_job = refl

-- only a task can be killed, and only with the right to destroy
pub kill_faults : replies (by_root (EventCreate ∷ TaskKill 7 ∷ HandleDuplicate 3 0x1 ∷ TaskKill 11 ∷ TaskKill 9 ∷ []))
    ≡ Handle 7 ∷ failed WrongType ∷ Handle 11 ∷ failed AccessDenied ∷ failed BadHandle ∷ []
unfolding ran
kill_faults = refl

-- a job of ten processes, with a wait for its end
abbrev pub job_of_ten : List Asked
job_of_ten =
    JobCreate 3 ∷ PortCreate ∷ ObjectWaitAsync 7 11 5 0x8
    ∷ Spawn 7 0 ∷ Spawn 7 0 ∷ Spawn 7 0 ∷ Spawn 7 0 ∷ Spawn 7 0 ∷ Spawn 7 0 ∷ Spawn 7 0 ∷ Spawn 7 0 ∷ Spawn 7 0 ∷ Spawn 7 0 ∷ []

-- all ten end in one call, and the wait fires once
pub killed_job_of_ten : then_one (by_root job_of_ten) (root (TaskKill 7))
    ≡ (done, key.Object 1024 ∷ key.Object 1026 ∷ key.Object 1027 ∷ key.Object 1028 ∷ key.Object 1029 ∷ key.Object 1030 ∷ key.Object 1031 ∷ key.Object 1032 ∷ key.Object 1033 ∷ key.Object 1034 ∷ key.Object 1035 ∷ key.Object 1036 ∷ key.Object 1037 ∷ key.Packet 1027 0 ∷ key.Wait 0 ∷ [])
unfolding then_one
killed_job_of_ten = refl

pub killed_job_of_ten_replies : replies (by_root (job_of_ten ++ TaskKill 7 ∷ PortWait 11 ∷ PortWait 11 ∷ []))
    ≡ Handle 7 ∷ Handle 11 ∷ done ∷ Spawned 15 1028 ∷ Spawned 19 1029 ∷ Spawned 23 1030 ∷ Spawned 27 1031 ∷ Spawned 31 1032 ∷ Spawned 35 1033 ∷ Spawned 39 1034 ∷ Spawned 43 1035 ∷ Spawned 47 1036 ∷ Spawned 51 1037 ∷ done ∷ Packet (packet.Signal 5 (record { 0 = 0x8 }) (record { 0 = 0x38 }) 1025 7) ∷ failed TimedOut ∷ []
unfolding ran
killed_job_of_ten_replies = refl

-- ---- critical processes

-- a process that is critical to its job, and another beside it; a process is critical to one job at most, and the job
-- is above it
abbrev pub critical_process : List (ℕ × Asked)
critical_process =
    by_root (JobCreate 3 ∷ Spawn 7 0 ∷ Spawn 7 0 ∷ JobSetCritical 7 11 ∷ JobSetCritical 7 11 ∷ JobCreate 3 ∷ JobSetCritical 19 15 ∷ [])

pub made_critical : then_one (by_root (JobCreate 3 ∷ Spawn 7 0 ∷ Spawn 7 0 ∷ [])) (root (JobSetCritical 7 11))
    ≡ (done, key.Object 1027 ∷ [])
unfolding then_one
made_critical = refl

pub made_critical_row : row_after critical_process (key.Object 1027) ≡ Some (critical_row 0 1026 1026)
unfolding row_after
made_critical_row = refl

pub critical_process_replies : replies critical_process
    ≡ Handle 7 ∷ Spawned 11 1027 ∷ Spawned 15 1028 ∷ done ∷ failed AlreadyBound ∷ Handle 19 ∷ failed InvalidArgs ∷ []
unfolding ran
critical_process_replies = refl

-- its exit ends the job and what else is under it
pub critical_process_exits : then_one critical_process (1027, ProcessExit (pos 0))
    ≡ (done, key.Object 1026 ∷ key.Object 1027 ∷ key.Object 1028 ∷ [])
unfolding then_one
critical_process_exits = refl

pub critical_process_exited : rows_after (critical_process ++ (1027, ProcessExit (pos 0)) ∷ [])
    ≡ (key.Counters, counters_row 1030 0)
    ∷ (key.Object 1024, object_row kind.Job 0 0 life.Live 0)
    ∷ (key.Object 1025, object_row kind.Process 0 1024 life.Live 5)
    ∷ (key.Object 1026, object_row kind.Job 0x38 0 life.Killed 0)
    ∷ (key.Object 1027, object_row kind.Process 0x8 0 (life.Exited (pos 0)) 0)
    ∷ (key.Object 1028, object_row kind.Process 0x8 0 life.Killed 0)
    ∷ (key.Object 1029, object_row kind.Job 0x30 1024 life.Live 0)
    ∷ (key.Entry 1025 3, held_row 1024 0x3d203)
    ∷ (key.Entry 1025 7, held_row 1026 0x3d203)
    ∷ (key.Entry 1025 11, held_row 1027 0xd203)
    ∷ (key.Entry 1025 15, held_row 1028 0xd203)
    ∷ (key.Entry 1025 19, held_row 1029 0x3d203) ∷ []
unfolding ran
critical_process_exited = refl

-- a process killed, the job that it is critical to, a process of that job, and the job that this one is critical to
abbrev pub critical_chain : List Asked
critical_chain =
    JobCreate 3 ∷ JobCreate 7 ∷ Spawn 11 0 ∷ Spawn 11 0 ∷ Spawn 7 0 ∷ JobSetCritical 11 15 ∷ JobSetCritical 7 19 ∷ []

pub critical_chain_ends : then_one (by_root critical_chain) (root (TaskKill 15))
    ≡ (done, key.Object 1024 ∷ key.Object 1026 ∷ key.Object 1027 ∷ key.Object 1028 ∷ key.Object 1029 ∷ key.Object 1030 ∷ [])
unfolding then_one
critical_chain_ends = refl

pub critical_chain_ended : row_after (by_root (critical_chain ++ TaskKill 15 ∷ [])) (key.Object 1030) ≡ Some (object_row kind.Process 0x8 0 life.Killed 0)
unfolding row_after
critical_chain_ended = refl

-- a process can be critical to the root job, whose end is that of everything
pub critical_to_the_root_job : rows_after (root (Spawn 3 0) ∷ root (JobSetCritical 3 7) ∷ (1026, ProcessExit (pos 0)) ∷ [])
    ≡ (key.Counters, counters_row 1027 0)
    ∷ (key.Object 1024, object_row kind.Job 0x38 0 life.Killed 0) ∷ []
unfolding ran
critical_to_the_root_job = refl

-- a process that has ended is under no job, and was critical to none since
pub critical_faults : replies (by_root (JobCreate 3 ∷ Spawn 7 0 ∷ EventCreate ∷ JobSetCritical 15 99 ∷ JobSetCritical 7 7 ∷ JobSetCritical 7 11 ∷ TaskKill 11 ∷ JobSetCritical 3 11 ∷ []))
    ≡ Handle 7 ∷ Spawned 11 1027 ∷ Handle 15 ∷ failed WrongType ∷ failed WrongType ∷ done ∷ done ∷ failed InvalidArgs ∷ []
unfolding ran
critical_faults = refl
