-- How worked rows are written: the calls with their arguments, as a list from the opening, and what is read of
-- the state that they lead to. The rows themselves are theorems that hold by computation alone.
use Rattle.std.specs.Prelude.{ℕ, Bool, true, false, ℤ, List, [], ◌∷◌, Option}
use Rattle.zt_bits.specs.declared.kinds.Kind.{Kind}
use Rattle.zt_bits.specs.declared.kinds.Kind.TheVariants as kind
use Rattle.zt_bits.specs.declared.statuses.Status.{Status}
use Rattle.zt_rows.specs.declared.calls.Reply.{Reply}
use Rattle.zt_rows.specs.declared.calls.Reply.TheVariants as reply
use Rattle.zt_rows.specs.declared.keys.RowKey.{RowKey}
use Rattle.zt_rows.specs.declared.rows.Life.{Life}
use Rattle.zt_rows.specs.declared.rows.Life.TheVariants as life
use Rattle.zt_rows.specs.declared.rows.Row.{Row}
use Rattle.zt_rows.specs.declared.rows.Row.TheVariants as rows
use Rattle.zt_rows.specs.declared.supports.Support.{Support}
use Rattle.zt_rows.specs.State.{State, row, put, change}
use Rattle.zt_rows.specs.Reads.{objects, waits, queue, packets}
use Rattle.zt_rows.specs.Tests.{any_row, count_row}
use Rattle.zt_rows.specs.Support.{supports, support_count, is_supported}
use Rattle.zt_rows.specs.Change.{keys_of_both, changed}
use Rattle.zt_rows.specs.Opening.{opening}
use Rattle.zt_rows.specs.Collect.{without, goes, rounds, collect}
use Rattle.zt_rows.specs.Settle.{refresh, settle}
use Rattle.zt_rows.specs.End.{links, chain, highest, end}
use Rattle.zt_rows.specs.ObjectCalls.{event_create, eventpair_create, handle_close, handle_duplicate, handle_replace, object_signal, object_signal_peer}
use Rattle.zt_rows.specs.ChannelCalls.{channel_create, channel_write, channel_read}
use Rattle.zt_rows.specs.PortCalls.{port_create, object_wait_async, port_queue, port_wait, port_cancel}
use Rattle.zt_rows.specs.JobCalls.{job_create, spawn, job_set_critical, task_kill, process_exit}
use Rattle.zt_rows.specs.Step.{completed}

-- a call with its arguments, in the order of the lines of a trace
pub data Asked : Type 0 where
  EventCreate PortCreate EventPairCreate ChannelCreate : Asked
  HandleClose : (handle : ℕ) → Asked
  HandleDuplicate HandleReplace : (handle rights : ℕ) → Asked
  ChannelWrite : (handle : ℕ) (bytes handles : List ℕ) → Asked
  ChannelRead : (handle bytes handles : ℕ) (discard : Bool) → Asked
  ObjectSignal ObjectSignalPeer : (handle clear set : ℕ) → Asked
  ObjectWaitAsync ObjectWaitEdge : (handle port packet_key signals : ℕ) → Asked
  PortQueue : (port packet_key : ℕ) (bytes : List ℕ) → Asked
  PortWait : (port : ℕ) → Asked
  PortCancel : (port source packet_key : ℕ) → Asked
  JobCreate : (job : ℕ) → Asked
  Spawn : (job arg : ℕ) → Asked
  JobSetCritical : (job process : ℕ) → Asked
  TaskKill : (handle : ℕ) → Asked
  ProcessExit : (code : ℤ) → Asked

-- what the call itself does and answers
abbrev pub performed : State → ℕ → Asked → State × Reply
performed S p EventCreate = event_create S p
performed S p PortCreate = port_create S p
performed S p EventPairCreate = eventpair_create S p
performed S p ChannelCreate = channel_create S p
performed S p (HandleClose h) = handle_close S p h
performed S p (HandleDuplicate h r) = handle_duplicate S p h r
performed S p (HandleReplace h r) = handle_replace S p h r
performed S p (ChannelWrite h bytes hs) = channel_write S p h bytes hs
performed S p (ChannelRead h nb nh discard) = channel_read S p h nb nh discard
performed S p (ObjectSignal h c s) = object_signal S p h c s
performed S p (ObjectSignalPeer h c s) = object_signal_peer S p h c s
performed S p (ObjectWaitAsync h port k s) = object_wait_async S p h port k s false
performed S p (ObjectWaitEdge h port k s) = object_wait_async S p h port k s true
performed S p (PortQueue port k bytes) = port_queue S p port k bytes
performed S p (PortWait port) = port_wait S p port
performed S p (PortCancel port h k) = port_cancel S p port h k
performed S p (JobCreate h) = job_create S p h
performed S p (Spawn h arg) = spawn S p h arg
performed S p (JobSetCritical job process) = job_set_critical S p job process
performed S p (TaskKill h) = task_kill S p h
performed S p (ProcessExit code) = process_exit S p code

abbrev followed : State × Reply → State × List Reply → State × List Reply
followed one rest = (rest.0, one.1 ∷ rest.1)

-- the last state and all replies of the calls, each carried through
abbrev pub all_of : State → List (ℕ × Asked) → State × List Reply
all_of S [] = (S, [])
all_of S (c ∷ cs) = let one = completed S (performed S c.0 c.1) in followed one (all_of one.0 cs)

-- the last state and all replies of the calls from the opening on, each carried through
unfoldable pub ran : List (ℕ × Asked) → State × List Reply
unfolding row put change objects waits queue packets any_row count_row supports support_count is_supported without goes rounds collect refresh settle links chain highest end
ran cs = all_of opening cs

-- a call of the root process
abbrev pub root : Asked → ℕ × Asked
root c = (1025, c)

-- the calls of the root process
abbrev pub by_root : List Asked → List (ℕ × Asked)
by_root [] = []
by_root (c ∷ cs) = root c ∷ by_root cs

abbrev pub replies : List (ℕ × Asked) → List Reply
replies cs = (ran cs).1

abbrev pub rows_after : List (ℕ × Asked) → List (RowKey × Row)
rows_after cs = (ran cs).0.rows

unfoldable pub row_after : List (ℕ × Asked) → RowKey → Option Row
unfolding ran
row_after cs k = row (ran cs).0 k

unfoldable pub supports_after : List (ℕ × Asked) → ℕ → List Support
unfolding ran
supports_after cs x = supports (ran cs).0 x

-- the reply of one more call, and the keys that it changes
unfoldable pub then_one : List (ℕ × Asked) → ℕ × Asked → Reply × List RowKey
unfolding ran keys_of_both changed
then_one cs c =
    let S = (ran cs).0 in
    let T = completed S (performed S c.0 c.1) in
    (T.1, changed S T.0)

-- ---- replies and rows in short

-- the reply of a check that failed
abbrev pub failed : Status → Reply
failed wrong = reply.Status wrong

abbrev pub counters_row : ℕ → ℕ → Row
counters_row koid number = rows.Counters (record { next_koid = koid; next_wait = number })

abbrev pub object_row : Kind → ℕ → ℕ → Life → ℕ → Row
object_row made signals link how next = rows.Object (record { kind = made; signals = record { 0 = signals }; link = link; life = how; next = next; critical = 0 })

-- a live process that is critical to a job
abbrev pub critical_row : ℕ → ℕ → ℕ → Row
critical_row signals link job = rows.Object (record { kind = kind.Process; signals = record { 0 = signals }; link = link; life = life.Live; next = 0; critical = job })

abbrev pub held_row : ℕ → ℕ → Row
held_row koid rights = rows.Entry (record { koid = koid; rights = record { 0 = rights } })
