-- Ends of messages by their numbers, as they are noted on the way back along a path.
use Rattle.std.specs.Prelude.{◌≡◌, ℕ, Bool, true, false, ◌==◌, if◌then◌else◌, List, [], ◌∷◌, Option, None, Some, is_some}
use Rattle.std.specs.List.{list_any}
use Rattle.zt_rows.specs.declared.keys.RowKey.{RowKey}
use Rattle.zt_rows.specs.declared.keys.RowKey.TheVariants as key
use Rattle.zt_rows.specs.Contents.{MessageContent}
use Rattle.zt_rows.specs.Reads.{as_message, message}
use Rattle.zt_rows.specs.State.{State}
use Rattle.zt_history.specs.Tree.{Made}
use Rattle.zt_look.specs.declared.changes.Change.{Change}
use Rattle.zt_look.specs.declared.message_list.MessageEnd.{MessageEnd}
use Rattle.zt_look.specs.declared.message_list.QueuedMessage.{QueuedMessage}
use Rattle.zt_look.specs.MessageList.{gone_on}

-- the key is that of a message of the endpoint, which was there before and is not there after
abbrev pub goes_under : ℕ → RowKey → Option MessageContent → Option MessageContent → Option ℕ
goes_under e (key.Msg f n) (Some m) None = if f == e then Some n else None
goes_under e _ _ _ = None

abbrev pub goes : ℕ → Change → Option ℕ
goes e c = goes_under e c.key (as_message c.before) (as_message c.after)

abbrev pub is_number : ℕ → Option ℕ → Bool
is_number n (Some k) = k == n
is_number n None = false

-- the message of the number goes by the change
abbrev pub is_going : ℕ → ℕ → Change → Bool
is_going e n c = is_number n (goes e c)

-- the end of the number, where its message goes by one of the changes, or else the one before
abbrev pub end_over : ℕ → ℕ → List Change → ℕ × MessageEnd → Option (ℕ × MessageEnd) → Option (ℕ × MessageEnd)
end_over e n changes new old = if list_any (is_going e n) changes then Some new else old

-- of each message that is there in the state, the first of these moments at which it is gone
abbrev pub AreEnds : List Made → ℕ → State → List ℕ → (ℕ → Option (ℕ × MessageEnd)) → Type 0
AreEnds made e S later ended = (n : ℕ) → is_some (message S e n) ≡ true → ended n ≡ gone_on made e n later

-- the message with its end by its number, if there is one
abbrev pub came_list : (ℕ → Option (ℕ × MessageEnd)) → ℕ → Option (ℕ × MessageContent) → List QueuedMessage
came_list ended m (Some q) = record { number = q.0; message = q.1; written = m; ended = ended q.0 } ∷ []
came_list ended m None = []
