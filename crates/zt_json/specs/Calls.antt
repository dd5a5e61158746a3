-- The arguments and the values of each call, as tables of `src/steps.rt`.
use Rattle.std.specs.Prelude.{ℕ, List, ◌||◌, if◌then◌else◌, codes}
use Rattle.std.specs.Str.{bytes_eq}
use Rattle.zt_json.specs.declared.steps.Step.{Step}
use Rattle.zt_json.specs.declared.steps.TheConstants.{NOTHING, ONE_HANDLE, HANDLE_RIGHTS, SIGNAL, WAIT_ASYNC, CHANNEL_WRITE, CHANNEL_READ, PORT_QUEUE, ONE_PORT, PORT_CANCEL, ONE_JOB, SPAWN, SET_CRITICAL, ONE_CODE, TWO_ENDS, SPAWNED, MESSAGE_READ, NEEDED}

-- the arguments of the calls on ports, jobs and processes; none for any other word
unfoldable pub more_arguments_of : List ℕ → List Step
more_arguments_of name =
    if bytes_eq name (codes "object_wait_async") then WAIT_ASYNC
    else (if bytes_eq name (codes "port_queue") then PORT_QUEUE
    else (if bytes_eq name (codes "port_wait") then ONE_PORT
    else (if bytes_eq name (codes "port_cancel") then PORT_CANCEL
    else (if bytes_eq name (codes "job_create") then ONE_JOB
    else (if bytes_eq name (codes "spawn") then SPAWN
    else (if bytes_eq name (codes "job_set_critical") then SET_CRITICAL
    else (if bytes_eq name (codes "process_exit") then ONE_CODE
    else NOTHING)))))))

-- the arguments of a call
unfoldable pub arguments_of : List ℕ → List Step
arguments_of name =
    if bytes_eq name (codes "channel_write") then CHANNEL_WRITE
    else (if bytes_eq name (codes "channel_read") then CHANNEL_READ
    else (if bytes_eq name (codes "handle_close") || bytes_eq name (codes "task_kill") then ONE_HANDLE
    else (if bytes_eq name (codes "handle_duplicate") || bytes_eq name (codes "handle_replace") then HANDLE_RIGHTS
    else (if bytes_eq name (codes "object_signal") || bytes_eq name (codes "object_signal_peer") then SIGNAL
    else more_arguments_of name))))

-- the values of a call that has some: those behind `buffer_too_small`, or else those behind `ok`
unfoldable pub values_of : List ℕ → List ℕ → List Step
values_of name status =
    if bytes_eq status (codes "buffer_too_small") then NEEDED
    else (if bytes_eq name (codes "channel_read") then MESSAGE_READ
    else (if bytes_eq name (codes "spawn") then SPAWNED
    else (if bytes_eq name (codes "channel_create") || bytes_eq name (codes "eventpair_create") then TWO_ENDS
    else ONE_HANDLE)))
