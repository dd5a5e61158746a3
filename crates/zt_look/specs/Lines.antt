-- The lines of the answers of a look. The first argument of most says whether rights and signals are shown by their names.
use Rattle.std.specs.Prelude.{ℕ, Bool, List, [], ◌∷◌, ◌++◌, length, Option, None, Some, codes}
use Rattle.std.specs.List.{flat_map}
use Rattle.std.specs.Fmt.{decimal}
use Rattle.zt_bits.specs.Words.{kind_word, status_word}
use Rattle.zt_rows.specs.Contents.{MessageContent}
use Rattle.zt_rows.specs.declared.calls.Call.{Call}
use Rattle.zt_rows.specs.declared.calls.Happening.{Happening}
use Rattle.zt_rows.specs.declared.calls.Happening.TheVariants as happening
use Rattle.zt_rows.specs.declared.keys.RowKey.{RowKey}
use Rattle.zt_rows.specs.declared.keys.RowKey.TheVariants as key
use Rattle.zt_rows.specs.declared.rows.ObjectRow.{ObjectRow}
use Rattle.zt_rows.specs.declared.rows.Row.{Row}
use Rattle.zt_rows.specs.declared.rows.Row.TheVariants as rows
use Rattle.zt_rows.specs.declared.supports.Support.{Support}
use Rattle.zt_rows.specs.State.{State}
use Rattle.zt_text.specs.Answers.{as_line, heading, support_line}
use Rattle.zt_text.specs.ShownNumbers.{words, shown_bytes, shown_list}
use Rattle.zt_look.specs.declared.alive_list.AliveObject.{AliveObject}
use Rattle.zt_look.specs.declared.call_list.CallMade.{CallMade}
use Rattle.zt_look.specs.declared.changes.Change.{Change}
use Rattle.zt_look.specs.declared.event_list.ObjectEvent.{ObjectEvent}
use Rattle.zt_look.specs.declared.handle_list.Handle.{Handle}
use Rattle.zt_look.specs.declared.message_list.MessageEnd.{MessageEnd}
use Rattle.zt_look.specs.declared.message_list.MessageEnd.TheVariants as message_end
use Rattle.zt_look.specs.declared.message_list.QueuedMessage.{QueuedMessage}
use Rattle.zt_look.specs.declared.object_look.ObjectLook.{ObjectLook}
use Rattle.zt_look.specs.declared.call_counts.CallCount.{CallCount}
use Rattle.zt_look.specs.declared.fates.Fate.{Fate}
use Rattle.zt_look.specs.declared.fates.Fate.TheVariants as fate
use Rattle.zt_look.specs.declared.fates.ObjectFate.{ObjectFate}
use Rattle.zt_look.specs.declared.lines.names.Naming.{Naming}
use Rattle.zt_look.specs.Names.{shown_rights}
use Rattle.zt_look.specs.NamedTexts.{held_text, line_of_row, call_text, reply_text}
use Rattle.zt_look.specs.Signaled.{kind_of_row}

-- names for signals of an object whose kind is not known
abbrev pub of_any : Bool → Naming
of_any names = record { names = names; kind = None }

-- a line of words with a space between
abbrev pub line : List (List ℕ) → List ℕ
line fields = as_line (words fields)

-- ---- words

abbrev pub happening_word : Happening → List ℕ
happening_word happening.Made = codes "made"
happening_word happening.Ended = codes "ended"
happening_word happening.PeerClosed = codes "peer_closed"
happening_word happening.Leaked = codes "leaked"

abbrev pub end_word : MessageEnd → List ℕ
end_word message_end.Read = codes "read"
end_word message_end.Discarded = codes "discarded"
end_word message_end.Lost = codes "lost"

abbrev pub fate_word : Fate → List ℕ
fate_word fate.Alive = codes "alive"
fate_word fate.Leaked = codes "leaked"
fate_word fate.Dead = codes "dead"

-- ---- calls

-- a call with its moment and its reply
abbrev pub call_made_line : Naming → CallMade → List ℕ
call_made_line naming made =
    line (decimal made.moment ∷ call_text naming made.process made.call ∷ codes "=>" ∷ reply_text naming made.reply ∷ [])

-- ---- what a call changed

-- a row behind a mark, where there is one
abbrev pub marked_line : Naming → List ℕ → RowKey → Option Row → List ℕ
marked_line naming mark under None = []
marked_line naming mark under (Some row) = mark ++ line_of_row naming (under, row)

abbrev pub change_lines : Naming → Change → List ℕ
change_lines naming change =
    marked_line naming (codes "- ") change.key change.before ++ marked_line naming (codes "+ ") change.key change.after

-- ---- handles

abbrev pub handle_line : Bool → Handle → List ℕ
handle_line names handle =
    line (decimal handle.value ∷ decimal handle.koid ∷ kind_word handle.kind ∷ shown_rights names handle.rights.0 ∷ [])

-- ---- what happened to objects

-- an event with the call of its moment
abbrev pub event_line : Bool → ObjectEvent → ℕ → Call → List ℕ
event_line names event process made =
    line (decimal event.moment ∷ happening_word event.what ∷ decimal event.koid ∷ kind_word event.kind ∷ call_text (of_any names) process made ∷ [])

-- what is alive, with the call that made it
abbrev pub alive_line : Bool → AliveObject → ℕ → Call → List ℕ
alive_line names object process made =
    line (decimal object.koid ∷ kind_word object.kind ∷ decimal object.holders ∷ decimal object.made ∷ call_text (of_any names) process made ∷ [])

-- when it happened, with the call of the moment, or that it did not
abbrev pub when_words : Bool → Option (ℕ × ℕ × Call) → List (List ℕ)
when_words names None = codes "never" ∷ []
when_words names (Some (moment, process, made)) = decimal moment ∷ call_text (of_any names) process made ∷ []

abbrev pub when_line : Bool → Happening → Option (ℕ × ℕ × Call) → List ℕ
when_line names what found = line (happening_word what ∷ when_words names found)

-- ---- messages

abbrev pub content_line : Bool → ℕ → MessageContent → List ℕ
content_line names number content =
    line (decimal number ∷ codes "message" ∷ shown_bytes content.bytes ∷ shown_list (held_text names) content.handles ∷ [])

abbrev pub written_line : Bool → ℕ → ℕ → ℕ × Call → List ℕ
written_line names number moment (process, made) =
    line (decimal number ∷ codes "written" ∷ decimal moment ∷ call_text (of_any names) process made ∷ [])

-- a call, where one is told
abbrev pub call_words : Bool → Option (ℕ × Call) → List (List ℕ)
call_words names None = []
call_words names (Some (process, made)) = call_text (of_any names) process made ∷ []

-- what became of a message, with the call that did it
abbrev pub end_words : Bool → Option (ℕ × MessageEnd) → Option (ℕ × Call) → List (List ℕ)
end_words names None by = codes "waits" ∷ []
end_words names (Some (moment, what)) by = end_word what ∷ decimal moment ∷ call_words names by

abbrev pub end_line : Bool → ℕ → Option (ℕ × MessageEnd) → Option (ℕ × Call) → List ℕ
end_line names number ended by = line (decimal number ∷ end_words names ended by)

-- a message, the call that wrote it, and what became of it
abbrev pub message_lines : Bool → QueuedMessage → ℕ × Call → Option (ℕ × Call) → List ℕ
message_lines names queued written by =
    content_line names queued.number queued.message ++ written_line names queued.number queued.written written
    ++ end_line names queued.number queued.ended by

-- ---- branches

-- which branch a branch leaves, and at which moment
abbrev pub leaves_words : Option (List ℕ × ℕ) → List (List ℕ)
leaves_words None = []
leaves_words (Some (name, moment)) = codes "leaves" ∷ name ∷ decimal moment ∷ []

abbrev pub branch_line : List ℕ → ℕ → Option (List ℕ × ℕ) → List ℕ
branch_line name head leaves = line (codes "branch" ∷ name ∷ decimal head ∷ leaves_words leaves)

-- ---- an object

-- its row, or that it has none
abbrev pub object_line : Bool → ℕ → Option ObjectRow → List ℕ
object_line names koid None = line (codes "object" ∷ decimal koid ∷ codes "gone" ∷ [])
object_line names koid (Some object) = line_of_row (of_any names) (key.Object koid, rows.Object object)

-- what keeps it, where it has a row
abbrev pub holder_lines : ℕ → Option ObjectRow → List Support → List ℕ
holder_lines koid None kept = []
holder_lines koid (Some object) kept = heading (codes "holders") koid (length kept) ++ flat_map support_line kept

-- a row, with signals by their names as the state tells the kind of their object
abbrev pub line_in : Bool → State → RowKey × Row → List ℕ
line_in names S row = line_of_row (record { names = names; kind = kind_of_row S row.1 }) row

abbrev pub object_lines : Bool → State → ObjectLook → List ℕ
object_lines names S object =
    object_line names object.koid object.row ++ holder_lines object.koid object.row object.holders
    ++ flat_map (line_in names S) object.messages.items ++ flat_map (line_in names S) object.packets.items
    ++ flat_map (line_in names S) object.waits.items

-- ---- counts

abbrev pub call_count_line : CallCount → List ℕ
call_count_line count =
    line (codes "calls" ∷ decimal count.process ∷ status_word count.status ∷ decimal count.count ∷ [])

abbrev pub fate_line : ObjectFate → List ℕ
fate_line object = line (fate_word object.fate ∷ decimal object.koid ∷ kind_word object.kind ∷ decimal object.since ∷ [])
