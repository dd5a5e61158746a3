-- One message more at the end of an endpoint's queue, and nothing else.
use Rattle.std.specs.Prelude.{ℕ, Option, None, Some}
use Rattle.zt_rows.specs.declared.rows.ObjectRow.{ObjectRow}
use Rattle.zt_rows.specs.Contents.{MessageContent}
use Rattle.zt_rows.specs.State.{State}
use Rattle.zt_rows.specs.Reads.{object}
use Rattle.zt_rows.specs.ChannelCalls.{push_message}

abbrev pub pushed_to : Option ObjectRow → State → ℕ → MessageContent → State
pushed_to (Some o) S e m = push_message e o m S
pushed_to None S e m = S

-- the message at the end of the endpoint's queue; without the endpoint nothing changes
abbrev pub pushed : State → ℕ → MessageContent → State
pushed S e m = pushed_to (object S e) S e m
