-- One call of one process, and a list of calls: the checks and the direct change of the call itself, then the
-- removal of what nothing supports, the derived signals, and the firing of waits. The calls are Fuchsia's; that
-- these four come in this order, complete within the call, is this project's own profile.
use Rattle.std.specs.Prelude.{ℕ, ⊤, List, [], ◌∷◌}
use Rattle.zt_rows.specs.declared.calls.Call.{Call}
use Rattle.zt_rows.specs.declared.calls.Call.TheVariants as call
use Rattle.zt_rows.specs.declared.calls.Reply.{Reply}
use Rattle.zt_rows.specs.Contents.{IsWithinMessage}
use Rattle.zt_rows.specs.State.{State}
use Rattle.zt_rows.specs.Collect.{collect}
use Rattle.zt_rows.specs.Settle.{settle}
use Rattle.zt_rows.specs.ObjectCalls.{event_create, eventpair_create, handle_close, handle_duplicate, handle_replace, object_signal, object_signal_peer}
use Rattle.zt_rows.specs.ChannelCalls.{channel_create, channel_write, channel_read}
use Rattle.zt_rows.specs.PortCalls.{port_create, object_wait_async, port_queue, port_wait, port_cancel}
use Rattle.zt_rows.specs.JobCalls.{job_create, spawn, job_set_critical, task_kill, process_exit}

-- a call that there can be: what it sends is within a message
abbrev pub IsCall : Call → Type 0
IsCall (call.ChannelWrite _ parcel) = IsWithinMessage parcel.bytes parcel.handles
IsCall _ = ⊤

-- what the call itself does and answers
unfoldable pub direct : State → ℕ → Call → State × Reply
direct S p call.EventCreate = event_create S p
direct S p call.EventPairCreate = eventpair_create S p
direct S p (call.HandleClose h) = handle_close S p h
direct S p (call.HandleDuplicate h rights) = handle_duplicate S p h rights
direct S p (call.HandleReplace h rights) = handle_replace S p h rights
direct S p (call.ObjectSignal h clear set) = object_signal S p h clear.0 set.0
direct S p (call.ObjectSignalPeer h clear set) = object_signal_peer S p h clear.0 set.0
direct S p call.ChannelCreate = channel_create S p
direct S p (call.ChannelWrite h parcel) = channel_write S p h parcel.bytes parcel.handles
direct S p (call.ChannelRead h bytes handles discard) = channel_read S p h bytes handles discard
direct S p call.PortCreate = port_create S p
direct S p (call.ObjectWaitAsync h port packet_key signals edge) = object_wait_async S p h port packet_key signals.0 edge
direct S p (call.PortQueue port packet_key bytes) = port_queue S p port packet_key bytes
direct S p (call.PortWait port) = port_wait S p port
direct S p (call.PortCancel port source packet_key) = port_cancel S p port source packet_key
direct S p (call.JobCreate job) = job_create S p job
direct S p (call.Spawn job argument) = spawn S p job argument
direct S p (call.JobSetCritical job process) = job_set_critical S p job process
direct S p (call.TaskKill h) = task_kill S p h
direct S p (call.ProcessExit code) = process_exit S p code

-- the state after the direct change of a call that began in S has been carried through, with its reply
abbrev pub completed : State → State × Reply → State × Reply
completed S d = (settle S (collect d.0), d.1)

-- one call of a process; that p is a live process of S, `has_live_process S p`, is the premise under which it is a call
unfoldable pub step : State → ℕ → Call → State × Reply
step S p c = completed S (direct S p c)

abbrev pub followed : Reply → State × List Reply → State × List Reply
followed first rest = (rest.0, first ∷ rest.1)

-- the calls one after another, each of its process: the last state, and all replies
abbrev pub run : State → List (ℕ × Call) → State × List Reply
run S [] = (S, [])
run S (c ∷ cs) = followed (step S c.0 c.1).1 (run (step S c.0 c.1).0 cs)
