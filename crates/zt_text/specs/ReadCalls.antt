-- What the fields behind a process read as: a call by its name, with its arguments.
use Rattle.std.specs.Prelude.{ℕ, Result, Ok, Err, if◌then◌else◌, codes}
use Rattle.std.specs.Str.{bytes_eq}
use Rattle.zt_rows.specs.declared.refusals.Refusal.{Refusal}
use Rattle.zt_rows.specs.declared.refusals.Refusal.TheVariants.{BadLine}
use Rattle.zt_rows.specs.declared.calls.Call.{Call}
use Rattle.zt_rows.specs.declared.calls.Call.TheVariants as calls
use Rattle.zt_text.specs.Numbers.{process_of, key_of, code_of, handle_of, amount_of, mask_of, signals_of}
use Rattle.zt_text.specs.Bytes.{bytes_of, packet_bytes_of}
use Rattle.zt_text.specs.Lists.{handles_of}
use Rattle.zt_text.specs.Fields.{Placed, Unread, ◌>>=◌, next, field, ended, flag}

-- the arguments of each call
unfoldable pub event_create : Unread → Result Call Refusal
event_create left = do
  _ ← ended left
  Ok calls.EventCreate

unfoldable pub eventpair_create : Unread → Result Call Refusal
eventpair_create left = do
  _ ← ended left
  Ok calls.EventPairCreate

unfoldable pub handle_close : Unread → Result Call Refusal
handle_close left = do
  handle ← field handle_of left
  _ ← ended handle.1
  Ok (calls.HandleClose handle.0)

unfoldable pub handle_duplicate : Unread → Result Call Refusal
handle_duplicate left = do
  handle ← field handle_of left
  rights ← field mask_of handle.1
  _ ← ended rights.1
  Ok (calls.HandleDuplicate handle.0 rights.0)

unfoldable pub handle_replace : Unread → Result Call Refusal
handle_replace left = do
  handle ← field handle_of left
  rights ← field mask_of handle.1
  _ ← ended rights.1
  Ok (calls.HandleReplace handle.0 rights.0)

unfoldable pub object_signal : Unread → Result Call Refusal
object_signal left = do
  handle ← field handle_of left
  clear ← field signals_of handle.1
  set ← field signals_of clear.1
  _ ← ended set.1
  Ok (calls.ObjectSignal handle.0 clear.0 set.0)

unfoldable pub object_signal_peer : Unread → Result Call Refusal
object_signal_peer left = do
  handle ← field handle_of left
  clear ← field signals_of handle.1
  set ← field signals_of clear.1
  _ ← ended set.1
  Ok (calls.ObjectSignalPeer handle.0 clear.0 set.0)

unfoldable pub channel_create : Unread → Result Call Refusal
channel_create left = do
  _ ← ended left
  Ok calls.ChannelCreate

unfoldable pub channel_write : Unread → Result Call Refusal
channel_write left = do
  handle ← field handle_of left
  bytes ← field bytes_of handle.1
  handles ← field handles_of bytes.1
  _ ← ended handles.1
  Ok (calls.ChannelWrite handle.0 (record { bytes = bytes.0; handles = handles.0 }))

unfoldable pub channel_read : Unread → Result Call Refusal
channel_read left = do
  handle ← field handle_of left
  bytes ← field amount_of handle.1
  handles ← field amount_of bytes.1
  discard ← flag (codes "discard") handles.1
  Ok (calls.ChannelRead handle.0 bytes.0 handles.0 discard)

unfoldable pub port_create : Unread → Result Call Refusal
port_create left = do
  _ ← ended left
  Ok calls.PortCreate

unfoldable pub object_wait_async : Unread → Result Call Refusal
object_wait_async left = do
  handle ← field handle_of left
  port ← field handle_of handle.1
  key ← field key_of port.1
  signals ← field signals_of key.1
  edge ← flag (codes "edge") signals.1
  Ok (calls.ObjectWaitAsync handle.0 port.0 key.0 signals.0 edge)

unfoldable pub port_queue : Unread → Result Call Refusal
port_queue left = do
  port ← field handle_of left
  key ← field key_of port.1
  bytes ← field packet_bytes_of key.1
  _ ← ended bytes.1
  Ok (calls.PortQueue port.0 key.0 bytes.0)

unfoldable pub port_wait : Unread → Result Call Refusal
port_wait left = do
  port ← field handle_of left
  _ ← ended port.1
  Ok (calls.PortWait port.0)

unfoldable pub port_cancel : Unread → Result Call Refusal
port_cancel left = do
  port ← field handle_of left
  source ← field handle_of port.1
  key ← field key_of source.1
  _ ← ended key.1
  Ok (calls.PortCancel port.0 source.0 key.0)

unfoldable pub job_create : Unread → Result Call Refusal
job_create left = do
  job ← field handle_of left
  _ ← ended job.1
  Ok (calls.JobCreate job.0)

unfoldable pub spawn : Unread → Result Call Refusal
spawn left = do
  job ← field handle_of left
  argument ← field handle_of job.1
  _ ← ended argument.1
  Ok (calls.Spawn job.0 argument.0)

unfoldable pub job_set_critical : Unread → Result Call Refusal
job_set_critical left = do
  job ← field handle_of left
  process ← field handle_of job.1
  _ ← ended process.1
  Ok (calls.JobSetCritical job.0 process.0)

unfoldable pub task_kill : Unread → Result Call Refusal
task_kill left = do
  handle ← field handle_of left
  _ ← ended handle.1
  Ok (calls.TaskKill handle.0)

unfoldable pub process_exit : Unread → Result Call Refusal
process_exit left = do
  code ← field code_of left
  _ ← ended code.1
  Ok (calls.ProcessExit code.0)

-- the call of this name, of those on jobs and processes
unfoldable pub task_call_named : Placed → Unread → Result Call Refusal
task_call_named name left =
    if bytes_eq name.bytes (codes "job_create") then job_create left
    else (if bytes_eq name.bytes (codes "spawn") then spawn left
    else (if bytes_eq name.bytes (codes "job_set_critical") then job_set_critical left
    else (if bytes_eq name.bytes (codes "task_kill") then task_kill left
    else (if bytes_eq name.bytes (codes "process_exit") then process_exit left
    else Err (BadLine name.column)))))

-- the call of this name, of those on ports
unfoldable pub port_call_named : Placed → Unread → Result Call Refusal
port_call_named name left =
    if bytes_eq name.bytes (codes "port_create") then port_create left
    else (if bytes_eq name.bytes (codes "object_wait_async") then object_wait_async left
    else (if bytes_eq name.bytes (codes "port_queue") then port_queue left
    else (if bytes_eq name.bytes (codes "port_wait") then port_wait left
    else (if bytes_eq name.bytes (codes "port_cancel") then port_cancel left
    else task_call_named name left))))

-- the call of this name, of those on channels that carry no parcel
unfoldable pub channel_call_named : Placed → Unread → Result Call Refusal
channel_call_named name left =
    if bytes_eq name.bytes (codes "channel_create") then channel_create left
    else (if bytes_eq name.bytes (codes "channel_read") then channel_read left
    else port_call_named name left)

-- the call of this name, of those on handles
unfoldable pub handle_call_named : Placed → Unread → Result Call Refusal
handle_call_named name left =
    if bytes_eq name.bytes (codes "handle_close") then handle_close left
    else (if bytes_eq name.bytes (codes "handle_duplicate") then handle_duplicate left
    else (if bytes_eq name.bytes (codes "handle_replace") then handle_replace left
    else channel_call_named name left))

-- the call of this name
unfoldable pub call_named : Placed → Unread → Result Call Refusal
call_named name left =
    if bytes_eq name.bytes (codes "event_create") then event_create left
    else (if bytes_eq name.bytes (codes "eventpair_create") then eventpair_create left
    else (if bytes_eq name.bytes (codes "object_signal_peer") then object_signal_peer left
    else handle_call_named name left))

-- the call of this name, of all twenty
unfoldable pub any_call_named : Placed → Unread → Result Call Refusal
any_call_named name left =
    if bytes_eq name.bytes (codes "object_signal") then object_signal left
    else (if bytes_eq name.bytes (codes "channel_write") then channel_write left
    else call_named name left)

unfoldable pub call : Unread → Result Call Refusal
call left = do
  name ← next left
  any_call_named name.0 name.1

-- a process and its call
unfoldable pub process_call : Unread → Result (ℕ × Call) Refusal
process_call left = do
  process ← field process_of left
  made ← call process.1
  Ok (process.0, made)
