-- What kind of object a call takes by a handle, and the status of a handle to another kind. Used by proofs only.
use Rattle.std.specs.Prelude.{ℕ, Bool, Result}
use Rattle.zt_bits.specs.declared.kinds.Kind.{Kind}
use Rattle.zt_bits.specs.declared.statuses.Status.{Status}
use Rattle.zt_bits.specs.declared.statuses.Status.TheVariants as status
use Rattle.zt_rows.specs.declared.rows.Held.{Held}
use Rattle.zt_rows.specs.declared.rows.ObjectRow.{ObjectRow}
use Rattle.zt_rows.specs.State.{State}
use Rattle.zt_rows.specs.Reads.{is_job, is_process}
use Rattle.zt_rows.specs.Tests.{any_kind, is_channel, is_port, is_task, is_endpoint}
use Rattle.zt_rows.specs.Handles.{handle_else}
use Rattle.zt_calls.specs.declared.handle_arguments.ExpectedKind.{ExpectedKind}
use Rattle.zt_calls.specs.declared.handle_arguments.ExpectedKind.TheVariants as want

-- the kind is among those that are wanted
abbrev pub takes : ExpectedKind → Kind → Bool
takes want.Any = any_kind
takes want.Channel = is_channel
takes want.Port = is_port
takes want.Job = is_job
takes want.Process = is_process
takes want.Task = is_task
takes want.Endpoint = is_endpoint

-- the status of a handle to another kind
abbrev pub wrong_kind : ExpectedKind → Status
wrong_kind want.Endpoint = status.NotSupported
wrong_kind _ = status.WrongType

-- what the handle of process p holds, and the object, or the status of the first check that fails
abbrev pub handle_to : State → ℕ → ℕ → ExpectedKind → ℕ → Result (Held × ObjectRow) Status
handle_to S p h wanted right = handle_else (wrong_kind wanted) S p h (takes wanted) right
