-- The call of a name is the same, whether its bytes are compared one name after another or are read as a name first.
use Rattle.std.proofs.Common.{◌≡◌, Bool, true, false, Option, Some, None, Result, Err, if◌then◌else◌, codes, refl}
use Rattle.std.specs.Str.{bytes_eq}
use Rattle.zt_rows.specs.declared.refusals.Refusal.{Refusal}
use Rattle.zt_rows.specs.declared.refusals.Refusal.TheVariants.{BadLine}
use Rattle.zt_rows.specs.declared.calls.Call.{Call}
use Rattle.zt_text.specs.declared.call_names.CallName.{CallName}
use Rattle.zt_text.specs.declared.call_names.CallName.TheVariants as called
use Rattle.zt_text.specs.Fields.{Placed, Unread}
use Rattle.zt_text.specs.ReadCalls.{any_call_named, call_named, handle_call_named, channel_call_named, port_call_named, task_call_named}
use Rattle.zt_text.specs.ProofsOnly.CallNames.{name_of, or_name, name_of_object, name_of_handle, name_of_port, name_of_task, call_with, call_or}

-- the call of the name that a test chose is the one that the test chose
chosen : (left : Unread) (test : Bool) (name : CallName) (others : Option CallName) (chain rest : Result Call Refusal)
    → chain ≡ call_or others left rest
    → (if test then call_with name left else chain) ≡ call_or (if test then Some name else others) left rest
chosen left true name others chain rest e = refl
chosen left false name others chain rest e = e

-- group by group, in the order in which the names are compared
objects_named : (name : Placed) (left : Unread) → any_call_named name left ≡ call_or (name_of_object name.bytes) left (handle_call_named name left)
unfolding any_call_named call_named name_of_object call_with
objects_named name left =
    chosen left (bytes_eq name.bytes (codes "object_signal")) called.ObjectSignal _ _ _
    (chosen left (bytes_eq name.bytes (codes "channel_write")) called.ChannelWrite _ _ _
    (chosen left (bytes_eq name.bytes (codes "event_create")) called.EventCreate _ _ _
    (chosen left (bytes_eq name.bytes (codes "eventpair_create")) called.EventPairCreate _ _ _
    (chosen left (bytes_eq name.bytes (codes "object_signal_peer")) called.ObjectSignalPeer _ _ _
    refl))))

handles_named : (name : Placed) (left : Unread) → handle_call_named name left ≡ call_or (name_of_handle name.bytes) left (port_call_named name left)
unfolding handle_call_named channel_call_named name_of_handle call_with
handles_named name left =
    chosen left (bytes_eq name.bytes (codes "handle_close")) called.HandleClose _ _ _
    (chosen left (bytes_eq name.bytes (codes "handle_duplicate")) called.HandleDuplicate _ _ _
    (chosen left (bytes_eq name.bytes (codes "handle_replace")) called.HandleReplace _ _ _
    (chosen left (bytes_eq name.bytes (codes "channel_create")) called.ChannelCreate _ _ _
    (chosen left (bytes_eq name.bytes (codes "channel_read")) called.ChannelRead _ _ _
    refl))))

ports_named : (name : Placed) (left : Unread) → port_call_named name left ≡ call_or (name_of_port name.bytes) left (task_call_named name left)
unfolding port_call_named name_of_port call_with
ports_named name left =
    chosen left (bytes_eq name.bytes (codes "port_create")) called.PortCreate _ _ _
    (chosen left (bytes_eq name.bytes (codes "object_wait_async")) called.ObjectWaitAsync _ _ _
    (chosen left (bytes_eq name.bytes (codes "port_queue")) called.PortQueue _ _ _
    (chosen left (bytes_eq name.bytes (codes "port_wait")) called.PortWait _ _ _
    (chosen left (bytes_eq name.bytes (codes "port_cancel")) called.PortCancel _ _ _
    refl))))

tasks_named : (name : Placed) (left : Unread) → task_call_named name left ≡ call_or (name_of_task name.bytes) left (Err (BadLine name.column))
unfolding task_call_named name_of_task call_with
tasks_named name left =
    chosen left (bytes_eq name.bytes (codes "job_create")) called.JobCreate _ _ _
    (chosen left (bytes_eq name.bytes (codes "spawn")) called.Spawn _ _ _
    (chosen left (bytes_eq name.bytes (codes "job_set_critical")) called.JobSetCritical _ _ _
    (chosen left (bytes_eq name.bytes (codes "task_kill")) called.TaskKill _ _ _
    (chosen left (bytes_eq name.bytes (codes "process_exit")) called.ProcessExit _ _ _
    refl))))

-- a name of one group or else of the next
or_else_named : (first second : Option CallName) (left : Unread) (rest : Result Call Refusal) → call_or first left (call_or second left rest) ≡ call_or (or_name first second) left rest
or_else_named None second left rest = refl
or_else_named (Some name) second left rest = refl

-- the call of a name, whatever it is
pub named : (name : Placed) (left : Unread) → any_call_named name left ≡ call_or (name_of name.bytes) left (Err (BadLine name.column))
unfolding name_of
named name left =
    rw (objects_named name left, handles_named name left, ports_named name left, tasks_named name left, or_else_named, or_else_named, or_else_named) refl
