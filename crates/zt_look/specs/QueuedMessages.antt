-- What the queues of the path's states tell of a message that is listed. This project's own.
use Rattle.std.specs.Prelude.{◌≡◌, ℕ, ◌<◌, true, List, Option, None, Some, is_some}
use Rattle.zt_rows.specs.Reads.{message}
use Rattle.zt_rows.specs.Tests.{among}
use Rattle.zt_history.specs.Tree.{Made, parent_at, path, state_at}
use Rattle.zt_look.specs.declared.message_list.MessageEnd.{MessageEnd}
use Rattle.zt_look.specs.declared.message_list.QueuedMessage.{QueuedMessage}
use Rattle.zt_look.specs.MessageList.{end_at}

-- the message of the number went at a later moment of the path, in the way that the call there tells
pub record GoesAt (made : List Made) (at e n written m : ℕ) (how : MessageEnd) : Type 0 where
  pub on_path : among (path made at) m ≡ true
  pub later : written < m
  pub before : is_some (message (state_at made (parent_at made m)) e n) ≡ true
  pub gone : message (state_at made m) e n ≡ None
  pub told : how ≡ end_at made e m

-- it went so, or there is still one of the number at the end of the path
abbrev pub EndsSo : List Made → ℕ → ℕ → ℕ → ℕ → Option (ℕ × MessageEnd) → Type 0
EndsSo made at e n written (Some (m, how)) = GoesAt made at e n written m how
EndsSo made at e n written None = is_some (message (state_at made at) e n) ≡ true

-- it came at a moment of the path: it was not there before and is there after; and it ended as is told
pub record IsQueued (made : List Made) (at e : ℕ) (q : QueuedMessage) : Type 0 where
  pub on_path : among (path made at) q.written ≡ true
  pub before : message (state_at made (parent_at made q.written)) e q.number ≡ None
  pub came : message (state_at made q.written) e q.number ≡ Some q.message
  pub ended : EndsSo made at e q.number q.written q.ended
