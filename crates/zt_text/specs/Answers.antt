-- The lines of rows, of answers and of refusals.
use Rattle.std.specs.Prelude.{ℕ, ◌==◌, List, [], ◌∷◌, ◌++◌, length, Option, None, Some, if◌then◌else◌, codes}
use Rattle.std.specs.List.{flat_map}
use Rattle.std.specs.Fmt.{decimal, signed_decimal}
use Rattle.zt_bits.specs.declared.kinds.Kind.{Kind}
use Rattle.zt_bits.specs.Words.{kind_word, status_word}
use Rattle.zt_rows.specs.declared.keys.RowKey.{RowKey}
use Rattle.zt_rows.specs.declared.keys.RowKey.TheVariants as key
use Rattle.zt_rows.specs.declared.rows.Row.{Row}
use Rattle.zt_rows.specs.declared.rows.Row.TheVariants as rows
use Rattle.zt_rows.specs.declared.rows.Life.{Life}
use Rattle.zt_rows.specs.declared.rows.Life.TheVariants as life
use Rattle.zt_rows.specs.declared.rows.ObjectRow.{ObjectRow}
use Rattle.zt_rows.specs.declared.rows.Packet.{Packet}
use Rattle.zt_rows.specs.declared.rows.Packet.TheVariants as packet
use Rattle.zt_rows.specs.declared.rows.Wait.{Wait}
use Rattle.zt_rows.specs.declared.calls.Reply.{Reply}
use Rattle.zt_rows.specs.declared.calls.Reply.TheVariants as reply
use Rattle.zt_rows.specs.declared.calls.Event.{Event}
use Rattle.zt_rows.specs.declared.calls.Answer.{Answer}
use Rattle.zt_rows.specs.declared.calls.Answer.TheVariants as answer
use Rattle.zt_rows.specs.declared.supports.Support.{Support}
use Rattle.zt_rows.specs.declared.supports.Support.TheVariants as support
use Rattle.zt_rows.specs.declared.refusals.Refusal.{Refusal}
use Rattle.zt_rows.specs.declared.refusals.Refusal.TheVariants as refusal
use Rattle.zt_rows.specs.Refusals.{refusal_number, refusal_name}
use Rattle.zt_text.specs.ShownNumbers.{words, shown_mask, shown_bytes, shown_list, shown_held}
use Rattle.zt_text.specs.Calls.{flag_words, shown_call}

-- a packet as the reader of its port gets it
unfoldable pub shown_packet : Packet → List ℕ
shown_packet (packet.User number bytes) = words (codes "user" ∷ decimal number ∷ shown_bytes bytes ∷ [])
shown_packet (packet.Signal number trigger observed _ _) =
    words (codes "signal" ∷ decimal number ∷ shown_mask trigger.0 ∷ shown_mask observed.0 ∷ [])

-- a status and its values
unfoldable pub shown_reply : Reply → List ℕ
shown_reply (reply.Status status) = status_word status
shown_reply (reply.Handle handle) = words (codes "ok" ∷ decimal handle ∷ [])
shown_reply (reply.Handles first second) = words (codes "ok" ∷ decimal first ∷ decimal second ∷ [])
shown_reply (reply.Spawned handle process) = words (codes "ok" ∷ decimal handle ∷ decimal process ∷ [])
shown_reply (reply.Message bytes handles) =
    words (codes "ok" ∷ shown_bytes bytes ∷ shown_list decimal handles ∷ [])
shown_reply (reply.TooSmall bytes handles) = words (codes "buffer_too_small" ∷ decimal bytes ∷ decimal handles ∷ [])
shown_reply (reply.Packet held) = words (codes "ok" ∷ shown_packet held ∷ [])

-- the key of a row
unfoldable pub shown_key : RowKey → List ℕ
shown_key key.Counters = codes "counters"
shown_key (key.Object koid) = words (codes "object" ∷ decimal koid ∷ [])
shown_key (key.Entry process handle) = words (codes "entry" ∷ decimal process ∷ decimal handle ∷ [])
shown_key (key.Msg endpoint number) = words (codes "msg" ∷ decimal endpoint ∷ decimal number ∷ [])
shown_key (key.Packet port number) = words (codes "packet" ∷ decimal port ∷ decimal number ∷ [])
shown_key (key.Wait number) = words (codes "wait" ∷ decimal number ∷ [])

abbrev pub shown_life : Life → List ℕ
shown_life life.Live = codes "live"
shown_life life.Killed = codes "killed"
shown_life (life.Exited code) = codes "exit:" ++ signed_decimal code

-- the job to which an object is critical, where there is one
abbrev pub shown_critical : ℕ → List ℕ
shown_critical job = if job == 0 then [] else codes " critical:" ++ decimal job

unfoldable pub shown_object : ObjectRow → List ℕ
shown_object object =
    words (kind_word object.kind ∷ shown_mask object.signals.0 ∷ decimal object.link ∷ shown_life object.life ∷ decimal object.next ∷ [])
    ++ shown_critical object.critical

-- a wait on an edge says so at its end
unfoldable pub shown_wait : Wait → List ℕ
shown_wait wait =
    words (decimal wait.process ∷ decimal wait.handle ∷ decimal wait.port ∷ decimal wait.key ∷ shown_mask wait.signals.0
    ∷ flag_words (codes "edge") wait.edge)

-- a packet as it waits: what its reader will get, and behind that, for a signal, the process and the handle that was waited on
unfoldable pub shown_queued : Packet → List ℕ
shown_queued (packet.User number bytes) = shown_packet (packet.User number bytes)
shown_queued (packet.Signal number trigger observed process handle) =
    words (shown_packet (packet.Signal number trigger observed process handle) ∷ decimal process ∷ decimal handle ∷ [])

-- what stands under a key
unfoldable pub shown_row : Row → List ℕ
shown_row (rows.Counters counters) = words (decimal counters.next_koid ∷ decimal counters.next_wait ∷ [])
shown_row (rows.Object object) = shown_object object
shown_row (rows.Entry held) = words (decimal held.koid ∷ shown_mask held.rights.0 ∷ [])
shown_row (rows.Msg message) = words (shown_bytes message.bytes ∷ shown_list shown_held message.handles ∷ [])
shown_row (rows.Packet held) = shown_queued held
shown_row (rows.Wait wait) = shown_wait wait

-- a text as a line
abbrev pub as_line : List ℕ → List ℕ
as_line text = text ++ (10 ∷ [])

abbrev pub row_line : RowKey × Row → List ℕ
row_line row = as_line (words (shown_key row.0 ∷ shown_row row.1 ∷ []))

-- what keeps an object
unfoldable pub shown_support : Support → List ℕ
shown_support (support.Entry process handle) = words (codes "entry" ∷ decimal process ∷ decimal handle ∷ [])
shown_support (support.Message endpoint number index) =
    words (codes "message" ∷ decimal endpoint ∷ decimal number ∷ decimal index ∷ [])
shown_support (support.Child koid) = words (codes "child" ∷ decimal koid ∷ [])
shown_support support.Itself = codes "self"

abbrev pub support_line : Support → List ℕ
support_line kept = as_line (shown_support kept)

-- a leaked object
abbrev pub leak_line : ℕ × Kind → List ℕ
leak_line leaked = as_line (words (decimal leaked.0 ∷ kind_word leaked.1 ∷ []))

-- a moment with the call that made it
abbrev pub shown_event : Option Event → List ℕ
shown_event None = codes "never"
shown_event (Some event) = words (decimal event.moment ∷ shown_call event.process event.call ∷ [])

-- a word with a moment, and one with a name and a moment
abbrev pub moment_line : List ℕ → ℕ → List ℕ
moment_line word moment = as_line (words (word ∷ decimal moment ∷ []))

abbrev pub name_line : List ℕ → List ℕ → ℕ → List ℕ
name_line word name moment = as_line (words (word ∷ name ∷ decimal moment ∷ []))

-- a word with a number, in front of so many lines
abbrev pub heading : List ℕ → ℕ → ℕ → List ℕ
heading word number lines = as_line (words (word ∷ decimal number ∷ decimal lines ∷ []))

-- the lines of an answer
unfoldable pub shown_answer : Answer → List ℕ
shown_answer (answer.Called moment made) = as_line (words (decimal moment ∷ shown_reply made ∷ []))
shown_answer (answer.At moment) = moment_line (codes "at") moment
shown_answer (answer.Branched name moment) = name_line (codes "branch") name moment
shown_answer (answer.Followed name moment) = name_line (codes "follow") name moment
shown_answer (answer.Rows moment listed) = heading (codes "rows") moment (length listed) ++ flat_map row_line listed
shown_answer (answer.Holders koid kept) = heading (codes "holders") koid (length kept) ++ flat_map support_line kept
shown_answer (answer.Leaks moment leaked) = heading (codes "leaks") moment (length leaked) ++ flat_map leak_line leaked
shown_answer (answer.When event) = as_line (shown_event event)
shown_answer (answer.Pinned moment) = moment_line (codes "pinned") moment

-- the column behind the name of a line's fault
abbrev pub shown_column : Refusal → List ℕ
shown_column (refusal.BadLine column) = 32 ∷ decimal column
shown_column _ = []

-- the words of a refusal, with a space between
abbrev pub refusal_words : Refusal → List ℕ
refusal_words refused =
    words (codes "refused" ∷ decimal (refusal_number refused) ∷ refusal_name refused ∷ []) ++ shown_column refused

-- the line of a refusal
unfoldable pub shown_refusal : Refusal → List ℕ
shown_refusal refused = as_line (refusal_words refused)
