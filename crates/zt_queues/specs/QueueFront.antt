-- Messages taken from the front of an endpoint's queue, and nothing else.
use Rattle.std.specs.Prelude.{ℕ, if◌then◌else◌, List, Option, None, Some}
use Rattle.std.specs.List.{flat_map}
use Rattle.zt_rows.specs.declared.keys.RowKey.{RowKey}
use Rattle.zt_rows.specs.declared.keys.RowKey.TheVariants as key
use Rattle.zt_rows.specs.declared.rows.Held.{Held}
use Rattle.zt_rows.specs.declared.rows.Row.{Row}
use Rattle.zt_rows.specs.Contents.{MessageContent}
use Rattle.zt_rows.specs.State.{State, put, change}
use Rattle.zt_rows.specs.Reads.{queue}
use Rattle.zt_rows.specs.Settle.{is_message_of}
use Rattle.zt_rows.specs.Tests.{first}

abbrev pub without_message : Option (ℕ × MessageContent) → State → ℕ → State
without_message (Some (n, m)) S e = put S (key.Msg e n) None
without_message None S e = S

-- the state without the first message of the endpoint's queue; where the queue is empty nothing changes
abbrev pub popped : State → ℕ → State
popped S e = without_message (first (queue S e)) S e

-- what is left under a key when the endpoint's messages go
abbrev pub left_by : ℕ → RowKey → Row → Option Row
left_by e k r = if is_message_of e k r then None else Some r

-- the state without the messages of the endpoint
unfoldable pub without_messages : State → ℕ → State
without_messages S e = change (left_by e) S

-- what the handles of the listed messages hold, in the messages' order
abbrev pub handles_of : List (ℕ × MessageContent) → List Held
handles_of messages = flat_map (λ e. e.1.handles) messages
