-- A job or a process that a call makes, once the call's checks have passed. This project's own form.
-- Used by proofs only.
use Rattle.std.specs.Prelude.{ℕ, Option}
use Rattle.zt_bits.specs.declared.kinds.Kind.TheVariants as kind
use Rattle.zt_rows.specs.declared.calls.Reply.{Reply}
use Rattle.zt_rows.specs.declared.calls.Reply.TheVariants as reply
use Rattle.zt_rows.specs.declared.rows.Held.{Held}
use Rattle.zt_rows.specs.State.{State}
use Rattle.zt_rows.specs.Reads.{counters}
use Rattle.zt_rows.specs.Handles.{value_of, caller, install, whole, fresh, next_koid, make}
use Rattle.zt_rows.specs.JobCalls.{child, hand_over}

-- a live job under the parent, and the handle to it
abbrev pub job_made : State → ℕ → ℕ → State × Reply
job_made S p parent =
    (install p (caller S p) (whole (next_koid S) kind.Job) (make (counters S) (fresh kind.Job parent) S), reply.Handle (value_of (caller S p).next))

-- a live process under the job with what is handed over, the handle to it, and its koid
abbrev pub process_made : State → ℕ → ℕ → Option Held → State × Reply
process_made S p job given =
    let made = hand_over given (next_koid S) (make (counters S) (child given job) S) in
    (install p (caller S p) (whole (next_koid S) kind.Process) made, reply.Spawned (value_of (caller S p).next) (next_koid S))
