-- The calls on jobs and processes. Names, rights and statuses as in Fuchsia's reference of `zx_job_create`,
-- `zx_job_set_critical`, `zx_task_kill` and `zx_process_exit`; `spawn`, which stands for creating and starting a
-- process with one handle, the depth of jobs and the order of the checks is this project's own profile.
use Rattle.std.specs.Prelude.{ℕ, ℤ, Bool, not, ◌==◌, ◌&&◌, nat_lt, if◌then◌else◌, Option, None, Some, Result, Ok}
use Rattle.zt_bits.specs.declared.kinds.Kind.TheVariants as kind
use Rattle.zt_bits.specs.declared.statuses.Status.{Status}
use Rattle.zt_bits.specs.declared.statuses.Status.TheVariants as status
use Rattle.zt_rows.specs.declared.calls.Reply.{Reply}
use Rattle.zt_rows.specs.declared.calls.Reply.TheVariants as reply
use Rattle.zt_rows.specs.declared.keys.RowKey.TheVariants as key
use Rattle.zt_rows.specs.declared.rows.Held.{Held}
use Rattle.zt_rows.specs.declared.rows.Life.TheVariants as life
use Rattle.zt_rows.specs.declared.rows.ObjectRow.{ObjectRow}
use Rattle.zt_rows.specs.declared.rows.Row.TheVariants as rows
use Rattle.zt_rows.specs.State.{State, put}
use Rattle.zt_rows.specs.Reads.{counters, is_job, is_process, is_live}
use Rattle.zt_rows.specs.Tests.{any_kind, is_task}
use Rattle.zt_rows.specs.End.{depth, is_under, ends_with, end}
use Rattle.zt_rows.specs.Handles.{◌>>=◌, check, handle, done, answered, take_out, value_of, caller, install, whole, fresh, next_koid, make}

-- ---- making jobs and processes

-- the most jobs above a job; the root job has none
abbrev pub most_depth : ℕ
most_depth = 32

-- a live job under the job; ok with the caller's handle to it
abbrev pub job_create : State → ℕ → ℕ → State × Reply
job_create S p h = answered S (do
  (held, job) ← handle S p h is_job 0x10000
  _ ← check (is_live job.life) status.BadState
  _ ← check (nat_lt (depth S held.koid) most_depth) status.OutOfRange
  Ok (install p (caller S p) (whole (next_koid S) kind.Job) (make (counters S) (fresh kind.Job held.koid) S), reply.Handle (value_of (caller S p).next)))

-- what the argument of `spawn` hands over: nothing for 0
abbrev pub argument : State → ℕ → ℕ → Result (Option Held) Status
argument S p arg = if arg == 0 then Ok None else do
  (held, _) ← handle S p arg any_kind 0x2
  Ok (Some held)

-- the caller gives up what it hands over
abbrev pub give_up : Option Held → ℕ → ℕ → State → State
give_up (Some _) p arg S = take_out S p arg
give_up None p arg S = S

-- a process under the job, which has received what is handed over
abbrev pub child : Option Held → ℕ → ObjectRow
child (Some _) job = record (fresh kind.Process job) { next = 1 }
child None job = fresh kind.Process job

-- what is handed over is the first handle of process x
abbrev pub hand_over : Option Held → ℕ → State → State
hand_over (Some held) x S = put S (key.Entry x (value_of 0)) (Some (rows.Entry held))
hand_over None x S = S

-- a live process under the job, with one handle or none; ok with the caller's handle to it, and its koid
abbrev pub spawn : State → ℕ → ℕ → ℕ → State × Reply
spawn S p h arg = answered S (do
  (held, job) ← handle S p h is_job 0x20000
  given ← argument S p arg
  _ ← check (is_live job.life) status.BadState
  let x = next_koid S
  let made = hand_over given x (make (counters S) (child given held.koid) (give_up given p arg S))
  Ok (install p (caller S p) (whole x kind.Process) made, reply.Spawned (value_of (caller S p).next) x))

-- ---- ending them

-- the process becomes critical to the job, which is above it; a process is critical to one job at most
abbrev pub job_set_critical : State → ℕ → ℕ → ℕ → State × Reply
job_set_critical S p job process = answered S (do
  (above, _) ← handle S p job is_job 0x200
  (held, o) ← handle S p process is_process 0x4000
  _ ← check (o.critical == 0) status.AlreadyBound
  _ ← check (is_under S above.koid held.koid) status.InvalidArgs
  Ok (put S (key.Object held.koid) (Some (rows.Object (record o { critical = above.koid }))), done))

-- the process or job is killed, and what ends with it; killing what has ended is nothing
abbrev pub task_kill : State → ℕ → ℕ → State × Reply
task_kill S p h = answered S (do
  (held, task) ← handle S p h is_task 0x200
  Ok (if is_live task.life then end S (ends_with S held.koid) life.Killed else S, done))

-- what ends with the caller, but for the caller
abbrev pub others : State → ℕ → ℕ → Bool
others S p x = ends_with S p x && not (x == p)

-- the caller ends with this code, and what else ends with it is killed
abbrev pub process_exit : State → ℕ → ℤ → State × Reply
process_exit S p code = (end (end S (λ x. x == p) (life.Exited code)) (others S p) life.Killed, done)
