-- The names of calls.
use Rattle.std.specs.Prelude.{ℕ, List, Option, Some, None, take, drop, if◌then◌else◌, codes}
use Rattle.std.specs.Str.{bytes_eq}
use Rattle.zt_logs.specs.declared.call_names.CallName.{CallName}
use Rattle.zt_logs.specs.declared.call_names.CallName.TheVariants as called
use Rattle.zt_logs.specs.declared.other_kinds.OtherKind.{OtherKind}
use Rattle.zt_logs.specs.OtherKinds.{kind_made}

-- a name without the `zx_` ahead, if it has it
abbrev pub bare : List ℕ → List ℕ
bare name = if bytes_eq (take 3 name) (codes "zx_") then drop 3 name else name

-- the calls on events, pairs of events and handles
unfoldable pub name_of_handle : List ℕ → Option CallName
name_of_handle name =
    if bytes_eq name (codes "event_create") then Some called.EventCreate
    else (if bytes_eq name (codes "eventpair_create") then Some called.EventPairCreate
    else (if bytes_eq name (codes "handle_close") then Some called.HandleClose
    else (if bytes_eq name (codes "handle_duplicate") then Some called.HandleDuplicate
    else (if bytes_eq name (codes "handle_replace") then Some called.HandleReplace
    else None))))

-- the calls on signals and channels
unfoldable pub name_of_channel : List ℕ → Option CallName
name_of_channel name =
    if bytes_eq name (codes "object_signal") then Some called.ObjectSignal
    else (if bytes_eq name (codes "object_signal_peer") then Some called.ObjectSignalPeer
    else (if bytes_eq name (codes "channel_create") then Some called.ChannelCreate
    else (if bytes_eq name (codes "channel_write") then Some called.ChannelWrite
    else (if bytes_eq name (codes "channel_read") then Some called.ChannelRead
    else None))))

-- the calls on ports
unfoldable pub name_of_port : List ℕ → Option CallName
name_of_port name =
    if bytes_eq name (codes "port_create") then Some called.PortCreate
    else (if bytes_eq name (codes "object_wait_async") then Some called.ObjectWaitAsync
    else (if bytes_eq name (codes "port_queue") then Some called.PortQueue
    else (if bytes_eq name (codes "port_wait") then Some called.PortWait
    else (if bytes_eq name (codes "port_cancel") then Some called.PortCancel
    else None))))

-- the calls on jobs and processes
unfoldable pub name_of_task : List ℕ → Option CallName
name_of_task name =
    if bytes_eq name (codes "job_create") then Some called.JobCreate
    else (if bytes_eq name (codes "spawn") then Some called.Spawn
    else (if bytes_eq name (codes "job_set_critical") then Some called.JobSetCritical
    else (if bytes_eq name (codes "task_kill") then Some called.TaskKill
    else (if bytes_eq name (codes "process_exit") then Some called.ProcessExit
    else None))))

-- the calls that are others of these here, one or several
unfoldable pub name_of_form : List ℕ → Option CallName
name_of_form name =
    if bytes_eq name (codes "handle_close_many") then Some called.HandleCloseMany
    else (if bytes_eq name (codes "channel_write_etc") then Some called.ChannelWriteEtc
    else (if bytes_eq name (codes "channel_read_etc") then Some called.ChannelReadEtc
    else (if bytes_eq name (codes "channel_call") then Some called.ChannelCall
    else (if bytes_eq name (codes "channel_call_etc") then Some called.ChannelCallEtc
    else (if bytes_eq name (codes "process_create") then Some called.ProcessCreate
    else (if bytes_eq name (codes "process_start") then Some called.ProcessStart
    else None))))))

-- the calls that make objects which the semantics has not
abbrev pub made_of : Option OtherKind → Option CallName
made_of None = None
made_of (Some kind) = Some (called.Made kind)

abbrev pub name_of_made : List ℕ → Option CallName
name_of_made name = made_of (kind_made name)

-- this name, or else that one
abbrev pub or_name : Option CallName → Option CallName → Option CallName
or_name None other = other
or_name (Some name) other = Some name

-- the call of this name
unfoldable pub name_of : List ℕ → Option CallName
name_of name =
    or_name (or_name (or_name (or_name (or_name (name_of_handle name) (name_of_channel name)) (name_of_port name)) (name_of_task name)) (name_of_form name))
    (name_of_made name)

-- the call of this name, which may have `zx_` ahead
abbrev pub call_named : List ℕ → Option CallName
call_named name = name_of (bare name)
