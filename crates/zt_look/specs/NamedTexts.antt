-- Rows, calls and replies with their rights and signals by names, where these are asked for, and as zt_text shows them
-- otherwise.
use Rattle.std.specs.Prelude.{ℕ, Bool, List, [], ◌∷◌, ◌++◌, Some, codes}
use Rattle.std.specs.Fmt.{decimal}
use Rattle.zt_bits.specs.Words.{kind_word}
use Rattle.zt_rows.specs.declared.calls.Call.{Call}
use Rattle.zt_rows.specs.declared.calls.Call.TheVariants as calls
use Rattle.zt_rows.specs.declared.calls.Reply.{Reply}
use Rattle.zt_rows.specs.declared.calls.Reply.TheVariants as reply
use Rattle.zt_rows.specs.declared.keys.RowKey.{RowKey}
use Rattle.zt_rows.specs.declared.rows.Held.{Held}
use Rattle.zt_rows.specs.declared.rows.ObjectRow.{ObjectRow}
use Rattle.zt_rows.specs.declared.rows.Packet.{Packet}
use Rattle.zt_rows.specs.declared.rows.Packet.TheVariants as packet
use Rattle.zt_rows.specs.declared.rows.Row.{Row}
use Rattle.zt_rows.specs.declared.rows.Row.TheVariants as rows
use Rattle.zt_rows.specs.declared.rows.Wait.{Wait}
use Rattle.zt_text.specs.Answers.{as_line, shown_key, shown_life, shown_critical, shown_reply}
use Rattle.zt_text.specs.Calls.{call_name, call_arguments, flag_words}
use Rattle.zt_text.specs.ShownNumbers.{words, shown_bytes, shown_list}
use Rattle.zt_look.specs.declared.lines.names.Naming.{Naming}
use Rattle.zt_look.specs.Names.{shown_rights, shown_signals}

-- ---- rows

-- what a handle holds
abbrev pub held_text : Bool → Held → List ℕ
held_text names held = decimal held.koid ++ (58 ∷ shown_rights names held.rights.0)

unfoldable pub object_text : Bool → ObjectRow → List ℕ
object_text names object =
    words (kind_word object.kind ∷ shown_signals (record { names = names; kind = Some object.kind }) object.signals.0 ∷ decimal object.link
    ∷ shown_life object.life ∷ decimal object.next ∷ [])
    ++ shown_critical object.critical

-- a packet as the reader of its port gets it
unfoldable pub packet_text : Naming → Packet → List ℕ
packet_text naming (packet.User number bytes) = words (codes "user" ∷ decimal number ∷ shown_bytes bytes ∷ [])
packet_text naming (packet.Signal number trigger observed _ _) =
    words (codes "signal" ∷ decimal number ∷ shown_signals naming trigger.0 ∷ shown_signals naming observed.0 ∷ [])

-- a packet as it waits in its queue: that of a signal also tells the process and the handle of its wait
unfoldable pub queued_text : Naming → Packet → List ℕ
queued_text naming (packet.User number bytes) = packet_text naming (packet.User number bytes)
queued_text naming (packet.Signal number trigger observed process handle) =
    words (packet_text naming (packet.Signal number trigger observed process handle) ∷ decimal process ∷ decimal handle ∷ [])

unfoldable pub wait_text : Naming → Wait → List ℕ
wait_text naming wait =
    words (decimal wait.process ∷ decimal wait.handle ∷ decimal wait.port ∷ decimal wait.key
    ∷ shown_signals naming wait.signals.0 ∷ flag_words (codes "edge") wait.edge)

-- what stands under a key
unfoldable pub row_text : Naming → Row → List ℕ
row_text naming (rows.Counters counters) = words (decimal counters.next_koid ∷ decimal counters.next_wait ∷ [])
row_text naming (rows.Object object) = object_text naming.names object
row_text naming (rows.Entry held) = words (decimal held.koid ∷ shown_rights naming.names held.rights.0 ∷ [])
row_text naming (rows.Msg message) = words (shown_bytes message.bytes ∷ shown_list (held_text naming.names) message.handles ∷ [])
row_text naming (rows.Packet held) = queued_text naming held
row_text naming (rows.Wait wait) = wait_text naming wait

abbrev pub line_of_row : Naming → RowKey × Row → List ℕ
line_of_row naming row = as_line (words (shown_key row.0 ∷ row_text naming row.1 ∷ []))

-- ---- calls and replies

abbrev pub argument_texts : Naming → Call → List (List ℕ)
argument_texts naming (calls.HandleDuplicate handle rights) = decimal handle ∷ shown_rights naming.names rights ∷ []
argument_texts naming (calls.HandleReplace handle rights) = decimal handle ∷ shown_rights naming.names rights ∷ []
argument_texts naming (calls.ObjectSignal handle clear set) =
    decimal handle ∷ shown_signals naming clear.0 ∷ shown_signals naming set.0 ∷ []
argument_texts naming (calls.ObjectSignalPeer handle clear set) =
    decimal handle ∷ shown_signals naming clear.0 ∷ shown_signals naming set.0 ∷ []
argument_texts naming (calls.ObjectWaitAsync handle port key signals edge) =
    decimal handle ∷ decimal port ∷ decimal key ∷ shown_signals naming signals.0 ∷ flag_words (codes "edge") edge
argument_texts naming made = call_arguments made

unfoldable pub call_text : Naming → ℕ → Call → List ℕ
call_text naming process made = words (decimal process ∷ call_name made ∷ argument_texts naming made)

unfoldable pub reply_text : Naming → Reply → List ℕ
reply_text naming (reply.Packet held) = words (codes "ok" ∷ packet_text naming held ∷ [])
reply_text naming made = shown_reply made
