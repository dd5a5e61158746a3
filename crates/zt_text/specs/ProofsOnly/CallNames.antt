-- The name of a call as a value, and the call of that name. Used by proofs only.
use Rattle.std.specs.Prelude.{ℕ, List, Option, Some, None, Result, if◌then◌else◌, codes}
use Rattle.std.specs.Str.{bytes_eq}
use Rattle.zt_rows.specs.declared.refusals.Refusal.{Refusal}
use Rattle.zt_rows.specs.declared.calls.Call.{Call}
use Rattle.zt_text.specs.declared.call_names.CallName.{CallName}
use Rattle.zt_text.specs.declared.call_names.CallName.TheVariants as called
use Rattle.zt_text.specs.Fields.{Unread}
use Rattle.zt_text.specs.ReadCalls.{channel_write, event_create, eventpair_create, object_signal, object_signal_peer, handle_close, handle_duplicate, handle_replace, channel_create, channel_read, port_create, object_wait_async, port_queue, port_wait, port_cancel, job_create, spawn, job_set_critical, task_kill, process_exit}

-- the write to a channel, and the calls on events
unfoldable pub name_of_object : List ℕ → Option CallName
name_of_object field =
    if bytes_eq field (codes "object_signal") then Some called.ObjectSignal
    else (if bytes_eq field (codes "channel_write") then Some called.ChannelWrite
    else (if bytes_eq field (codes "event_create") then Some called.EventCreate
    else (if bytes_eq field (codes "eventpair_create") then Some called.EventPairCreate
    else (if bytes_eq field (codes "object_signal_peer") then Some called.ObjectSignalPeer
    else None))))

-- the calls on handles, and those on channels that carry no parcel
unfoldable pub name_of_handle : List ℕ → Option CallName
name_of_handle field =
    if bytes_eq field (codes "handle_close") then Some called.HandleClose
    else (if bytes_eq field (codes "handle_duplicate") then Some called.HandleDuplicate
    else (if bytes_eq field (codes "handle_replace") then Some called.HandleReplace
    else (if bytes_eq field (codes "channel_create") then Some called.ChannelCreate
    else (if bytes_eq field (codes "channel_read") then Some called.ChannelRead
    else None))))

-- the calls on ports
unfoldable pub name_of_port : List ℕ → Option CallName
name_of_port field =
    if bytes_eq field (codes "port_create") then Some called.PortCreate
    else (if bytes_eq field (codes "object_wait_async") then Some called.ObjectWaitAsync
    else (if bytes_eq field (codes "port_queue") then Some called.PortQueue
    else (if bytes_eq field (codes "port_wait") then Some called.PortWait
    else (if bytes_eq field (codes "port_cancel") then Some called.PortCancel
    else None))))

-- the calls on jobs and processes
unfoldable pub name_of_task : List ℕ → Option CallName
name_of_task field =
    if bytes_eq field (codes "job_create") then Some called.JobCreate
    else (if bytes_eq field (codes "spawn") then Some called.Spawn
    else (if bytes_eq field (codes "job_set_critical") then Some called.JobSetCritical
    else (if bytes_eq field (codes "task_kill") then Some called.TaskKill
    else (if bytes_eq field (codes "process_exit") then Some called.ProcessExit
    else None))))

-- this name, or else that one
abbrev pub or_name : Option CallName → Option CallName → Option CallName
or_name None others = others
or_name (Some name) others = Some name

-- the call that a field names
unfoldable pub name_of : List ℕ → Option CallName
name_of field = or_name (or_name (or_name (name_of_object field) (name_of_handle field)) (name_of_port field)) (name_of_task field)

-- the call of this name, with the arguments behind it
unfoldable pub call_with : CallName → Unread → Result Call Refusal
call_with called.ChannelWrite left = channel_write left
call_with called.EventCreate left = event_create left
call_with called.EventPairCreate left = eventpair_create left
call_with called.ObjectSignal left = object_signal left
call_with called.ObjectSignalPeer left = object_signal_peer left
call_with called.HandleClose left = handle_close left
call_with called.HandleDuplicate left = handle_duplicate left
call_with called.HandleReplace left = handle_replace left
call_with called.ChannelCreate left = channel_create left
call_with called.ChannelRead left = channel_read left
call_with called.PortCreate left = port_create left
call_with called.ObjectWaitAsync left = object_wait_async left
call_with called.PortQueue left = port_queue left
call_with called.PortWait left = port_wait left
call_with called.PortCancel left = port_cancel left
call_with called.JobCreate left = job_create left
call_with called.Spawn left = spawn left
call_with called.JobSetCritical left = job_set_critical left
call_with called.TaskKill left = task_kill left
call_with called.ProcessExit left = process_exit left

-- the call of this name, with the arguments behind it, or `others` where there is no name
abbrev pub call_or : Option CallName → Unread → Result Call Refusal → Result Call Refusal
call_or None left others = others
call_or (Some name) left others = call_with name left
