-- The messages that were queued at an endpoint, along a path: when each came, and what became of it. This project's own.
use Rattle.std.specs.Prelude.{ℕ, Bool, false, ◌==◌, if◌then◌else◌, List, [], ◌∷◌, ◌++◌, Option, None, Some, is_some, Result, Ok}
use Rattle.std.specs.List.{filter_map}
use Rattle.std.specs.Option.{option_map}
use Rattle.zt_rows.specs.declared.calls.Call.{Call}
use Rattle.zt_rows.specs.declared.calls.Call.TheVariants as call
use Rattle.zt_rows.specs.declared.calls.Reply.{Reply}
use Rattle.zt_rows.specs.declared.calls.Reply.TheVariants as reply
use Rattle.zt_rows.specs.declared.keys.RowKey.{RowKey}
use Rattle.zt_rows.specs.declared.keys.RowKey.TheVariants as key
use Rattle.zt_rows.specs.declared.refusals.Refusal.{Refusal}
use Rattle.zt_rows.specs.declared.refusals.Refusal.TheVariants as refusal
use Rattle.zt_rows.specs.declared.rows.Held.{Held}
use Rattle.zt_rows.specs.Contents.{MessageContent}
use Rattle.zt_rows.specs.Reads.{as_message, entry, message}
use Rattle.zt_rows.specs.State.{State}
use Rattle.zt_history.specs.HistoryRefusals.{check, moment_on, ◌>>=◌}
use Rattle.zt_history.specs.Tree.{Made, Tree, made_at, path, state_at}
use Rattle.zt_queries.specs.HappeningTimes.{is_known}
use Rattle.zt_look.specs.declared.changes.Change.{Change}
use Rattle.zt_look.specs.declared.message_list.MessageEnd.{MessageEnd}
use Rattle.zt_look.specs.declared.message_list.MessageEnd.TheVariants as message_end
use Rattle.zt_look.specs.declared.message_list.QueuedMessage.{QueuedMessage}
use Rattle.zt_look.specs.Changes.{changes_at}

-- ---- a message that goes

-- the handle names the endpoint
abbrev pub names_it : ℕ → Option Held → Bool
names_it e (Some held) = held.koid == e
names_it e None = false

-- the call reads at the endpoint: by a handle that names it in the state in which the process calls
abbrev pub reads_at : ℕ → State → ℕ → Call → Bool
reads_at e S p (call.ChannelRead h bytes handles discard) = names_it e (entry S p h)
reads_at e S p _ = false

-- the reader got the message, or was told that it is too small for it
abbrev pub read_or_discarded : Reply → MessageEnd
read_or_discarded (reply.Message _ _) = message_end.Read
read_or_discarded (reply.TooSmall _ _) = message_end.Discarded
read_or_discarded _ = message_end.Lost

-- what becomes of a message at the endpoint that goes in this call; where the call reads elsewhere or does not read, the
-- endpoint went
abbrev pub end_by : ℕ → State → ℕ → Call → Reply → MessageEnd
end_by e S p c answered = if reads_at e S p c then read_or_discarded answered else message_end.Lost

abbrev pub end_in : List Made → ℕ → Option Made → MessageEnd
end_in made e (Some x) = end_by e (state_at made x.parent) x.process x.call x.reply
end_in made e None = message_end.Lost

-- what becomes of a message at the endpoint e that goes in the call of a moment; `Lost` where no call made the moment
abbrev pub end_at : List Made → ℕ → ℕ → MessageEnd
end_at made e m = end_in made e (made_at made m)

-- the first of these moments at which the endpoint has no message of the number, and what became of it there
abbrev pub gone_on : List Made → ℕ → ℕ → List ℕ → Option (ℕ × MessageEnd)
gone_on made e n [] = None
gone_on made e n (m ∷ later) = if is_some (message (state_at made m) e n) then gone_on made e n later else Some (m, end_at made e m)

-- ---- a message that comes

-- the key is that of a message of the endpoint, which was not there before and is there after
abbrev pub comes_under : ℕ → RowKey → Option MessageContent → Option MessageContent → Option (ℕ × MessageContent)
comes_under e (key.Msg f n) None (Some m) = if f == e then Some (n, m) else None
comes_under e _ _ _ = None

abbrev pub comes : ℕ → Change → Option (ℕ × MessageContent)
comes e c = comes_under e c.key (as_message c.before) (as_message c.after)

-- the message that comes to the endpoint by the change, which this moment made, with its end by its number
abbrev pub queued_at : (ℕ → Option (ℕ × MessageEnd)) → ℕ → ℕ → Change → Option QueuedMessage
queued_at ended e m c = option_map (λ q. record { number = q.0; message = q.1; written = m; ended = ended q.0 }) (comes e c)

-- ---- along a path

-- the messages that come at each of the moments, in their order, each with its end at the later ones
abbrev pub messages_along : List Made → ℕ → List ℕ → List QueuedMessage
messages_along made e [] = []
messages_along made e (m ∷ later) = filter_map (queued_at (λ n. gone_on made e n later) e m) (changes_at made m) ++ messages_along made e later

-- those on the path to a moment of the tree, of an endpoint whose koid was given out by then
abbrev pub messages_on : Tree → ℕ → ℕ → Result (List QueuedMessage) Refusal
messages_on t at e = do
  _ ← moment_on t at
  _ ← check (is_known (state_at t.made at) e) refusal.NoObject
  Ok (messages_along t.made e (path t.made at))
