-- Rows, calls and replies with their masks are those of zt_text.
use Rattle.std.proofs.Common.{◌≡◌, ℕ, Option, false, refl}
use Rattle.zt_bits.specs.declared.kinds.Kind.{Kind}
use Rattle.zt_rows.specs.declared.calls.Call.{Call}
use Rattle.zt_rows.specs.declared.calls.Call.TheVariants as calls
use Rattle.zt_rows.specs.declared.calls.Reply.{Reply}
use Rattle.zt_rows.specs.declared.calls.Reply.TheVariants as reply
use Rattle.zt_rows.specs.declared.keys.RowKey.{RowKey}
use Rattle.zt_rows.specs.declared.rows.Packet.TheVariants as packet
use Rattle.zt_rows.specs.declared.rows.Row.{Row}
use Rattle.zt_rows.specs.declared.rows.Row.TheVariants as rows
use Rattle.zt_text.specs.Answers.{row_line, shown_object, shown_packet, shown_queued, shown_wait, shown_row, shown_reply}
use Rattle.zt_text.specs.Calls.{shown_call}
use Rattle.zt_look.specs.declared.lines.names.Naming.{Naming}
use Rattle.zt_look.specs.Names.{shown_rights, shown_signals}
use Rattle.zt_look.specs.NamedTexts.{object_text, packet_text, queued_text, wait_text, row_text, line_of_row, call_text, reply_text}

-- masks, whatever the kind of the object of the signals
abbrev masks_of : Option Kind → Naming
masks_of kind = record { names = false; kind = kind }

pub row_by_masks : (kind : Option Kind) (key : RowKey) (row : Row) → line_of_row (masks_of kind) (key, row) ≡ row_line (key, row)
unfolding shown_rights shown_signals object_text packet_text queued_text wait_text row_text shown_object shown_packet shown_queued shown_wait shown_row
row_by_masks kind key (rows.Counters counters) = refl
row_by_masks kind key (rows.Object object) = refl
row_by_masks kind key (rows.Entry held) = refl
row_by_masks kind key (rows.Msg message) = refl
row_by_masks kind key (rows.Packet (packet.User number bytes)) = refl
row_by_masks kind key (rows.Packet (packet.Signal number trigger observed process handle)) = refl
row_by_masks kind key (rows.Wait wait) = refl

pub call_by_masks : (kind : Option Kind) (process : ℕ) (made : Call) → call_text (masks_of kind) process made ≡ shown_call process made
unfolding shown_rights shown_signals call_text shown_call
call_by_masks kind process (calls.HandleDuplicate handle rights) = refl
call_by_masks kind process (calls.HandleReplace handle rights) = refl
call_by_masks kind process (calls.ObjectSignal handle clear set) = refl
call_by_masks kind process (calls.ObjectSignalPeer handle clear set) = refl
call_by_masks kind process (calls.ObjectWaitAsync handle port key signals edge) = refl
call_by_masks kind process made = refl

pub reply_by_masks : (kind : Option Kind) (made : Reply) → reply_text (masks_of kind) made ≡ shown_reply made
unfolding shown_rights shown_signals packet_text reply_text shown_packet shown_reply
reply_by_masks kind (reply.Packet (packet.User number bytes)) = refl
reply_by_masks kind (reply.Packet (packet.Signal number trigger observed process handle)) = refl
reply_by_masks kind made = refl
