-- Lines that were written by hand, as theorems.
use Rattle.std.proofs.Common.{◌≡◌, [], ◌∷◌, ◌++◌, refl}
use Rattle.std.specs.Prelude.{codes, pos, true, false, None, Some}
use Rattle.std.specs.Fmt.{digits}
use Rattle.zt_bits.specs.declared.kinds.Kind.{Kind}
use Rattle.zt_bits.specs.declared.kinds.Kind.TheVariants as kind
use Rattle.zt_bits.specs.declared.statuses.Status.TheVariants as status
use Rattle.zt_rows.specs.declared.calls.Call.TheVariants as calls
use Rattle.zt_rows.specs.declared.calls.Happening.TheVariants as happening
use Rattle.zt_rows.specs.declared.calls.Reply.TheVariants as reply
use Rattle.zt_rows.specs.declared.keys.RowKey.TheVariants as key
use Rattle.zt_rows.specs.declared.rows.Life.TheVariants as life
use Rattle.zt_rows.specs.declared.rows.ObjectRow.{ObjectRow}
use Rattle.zt_rows.specs.declared.rows.Packet.TheVariants as packet
use Rattle.zt_rows.specs.declared.rows.Row.{Row}
use Rattle.zt_rows.specs.declared.rows.Row.TheVariants as rows
use Rattle.zt_rows.specs.declared.supports.Support.TheVariants as support
use Rattle.zt_text.specs.Bytes.{hex_text}
use Rattle.zt_text.specs.ShownNumbers.{hexadecimal}
use Rattle.zt_text.specs.Answers.{shown_key, shown_reply, shown_support}
use Rattle.zt_text.specs.Calls.{shown_call}
use Rattle.zt_look.specs.declared.message_list.MessageEnd.TheVariants as message_end
use Rattle.zt_look.specs.declared.fates.Fate.TheVariants as fate
use Rattle.zt_look.specs.declared.lines.names.Naming.{Naming}
use Rattle.zt_look.specs.Names.{masks, shown_bits, shown_rights, shown_signals}
use Rattle.zt_look.specs.NamedTexts.{object_text, packet_text, row_text, call_text, reply_text}
use Rattle.zt_look.specs.Lines.{of_any, alive_line, call_made_line, change_lines, handle_line, event_line, when_line, content_line, written_line, end_line, branch_line, object_line, holder_lines, call_count_line, fate_line}

abbrev of_kind : Kind → Naming
of_kind kind = record { names = true; kind = Some kind }

-- ---- names

record Names : Type 0 where
  none : shown_rights true 0 ≡ codes "NONE"
  three : shown_rights true 0x7 ≡ codes "DUPLICATE|TRANSFER|READ"
  job : shown_rights true 0x3d203 ≡ codes "DUPLICATE|TRANSFER|DESTROY|SIGNAL|WAIT|INSPECT|MANAGE_JOB|MANAGE_PROCESS"
  same : shown_rights true 0x80000000 ≡ codes "SAME_RIGHTS"
  unnamed : shown_rights true 0x10 ≡ codes "0x00000010"
  partly : shown_rights true 0x40000014 ≡ codes "READ|0x40000010"
  mask : shown_rights false 0x7 ≡ codes "0x00000007"
  signaled : shown_signals (of_kind kind.Event) 0x8 ≡ codes "SIGNALED"
  terminated : shown_signals (of_kind kind.Process) 0x8 ≡ codes "TERMINATED"
  of_a_job : shown_signals (of_kind kind.Job) 0x38 ≡ codes "TERMINATED|NO_JOBS|NO_PROCESSES"
  unknown : shown_signals (of_any true) 0xf ≡ codes "READABLE|WRITABLE|PEER_CLOSED|0x00000008"
  user : shown_signals (of_any true) 0x81000000 ≡ codes "USER_0|USER_7"

names : Names
unfolding digits hexadecimal shown_bits shown_rights shown_signals
names = record {
  none = refl;
  three = refl;
  job = refl;
  same = refl;
  unnamed = refl;
  partly = refl;
  mask = refl;
  signaled = refl;
  terminated = refl;
  of_a_job = refl;
  unknown = refl;
  user = refl;
}

-- ---- calls, changes, handles, events

abbrev process : ObjectRow
process = record { kind = kind.Process; signals = record { 0 = 0x8 }; link = 1026; life = life.Live; next = 4; critical = 0 }

abbrev held_row : Row
held_row = rows.Entry (record { koid = 1026; rights = record { 0 = 0xf } })

record Calls : Type 0 where
  closed : call_made_line masks (record { moment = 3; process = 1025; call = calls.HandleClose 7; reply = reply.Status status.Ok }) ≡ codes "3 1025 handle_close 7 => ok" ++ (10 ∷ [])
  copied : call_made_line (of_any true) (record { moment = 4; process = 1025; call = calls.HandleDuplicate 7 0x80000000; reply = reply.Handle 11 }) ≡ codes "4 1025 handle_duplicate 7 SAME_RIGHTS => ok 11" ++ (10 ∷ [])
  signaled : call_made_line (of_kind kind.EventPair) (record { moment = 5; process = 1025; call = calls.ObjectSignal 7 (record { 0 = 0 }) (record { 0 = 0x8 }); reply = reply.Status status.AccessDenied }) ≡ codes "5 1025 object_signal 7 NONE SIGNALED => access_denied" ++ (10 ∷ [])
  waited : call_made_line (of_kind kind.Process) (record { moment = 6; process = 1025; call = calls.ObjectWaitAsync 7 11 4 (record { 0 = 0x8 }) true; reply = reply.Status status.Ok }) ≡ codes "6 1025 object_wait_async 7 11 4 TERMINATED edge => ok" ++ (10 ∷ [])
  fired : call_made_line (of_kind kind.Job) (record { moment = 7; process = 1025; call = calls.PortWait 11; reply = reply.Packet (packet.Signal 4 (record { 0 = 0x8 }) (record { 0 = 0x1000008 }) 1025 7) }) ≡ codes "7 1025 port_wait 11 => ok signal 4 TERMINATED TERMINATED|USER_0" ++ (10 ∷ [])
  changed : change_lines (of_any true) (record { key = key.Object 1030; before = Some (rows.Object process); after = None }) ≡ codes "- object 1030 process TERMINATED 1026 live 4" ++ (10 ∷ [])
  new : change_lines masks (record { key = key.Entry 1025 7; before = None; after = Some held_row }) ≡ codes "+ entry 1025 7 1026 0x0000000f" ++ (10 ∷ [])
  both : change_lines (of_any true) (record { key = key.Counters; before = Some (rows.Counters (record { next_koid = 1026; next_wait = 0 })); after = Some (rows.Counters (record { next_koid = 1027; next_wait = 0 })) }) ≡ codes "- counters 1026 0" ++ (10 ∷ (codes "+ counters 1027 0" ++ (10 ∷ [])))
  handle : handle_line false (record { value = 7; koid = 1026; kind = kind.Job; rights = record { 0 = 0xf } }) ≡ codes "7 1026 job 0x0000000f" ++ (10 ∷ [])
  named : handle_line true (record { value = 7; koid = 1026; kind = kind.Job; rights = record { 0 = 0xf } }) ≡ codes "7 1026 job DUPLICATE|TRANSFER|READ|WRITE" ++ (10 ∷ [])
  event : event_line false (record { moment = 8; koid = 1030; what = happening.Made; kind = kind.Process }) 1025 (calls.Spawn 3 23) ≡ codes "8 made 1030 process 1025 spawn 3 23" ++ (10 ∷ [])
  left : alive_line false (record { koid = 1030; kind = kind.Process; holders = 2; made = 8 }) 1025 (calls.Spawn 3 23) ≡ codes "1030 process 2 8 1025 spawn 3 23" ++ (10 ∷ [])
  never : when_line false happening.PeerClosed None ≡ codes "peer_closed never" ++ (10 ∷ [])
  when : when_line true happening.Ended (Some (6, 1030, calls.ProcessExit (pos 5))) ≡ codes "ended 6 1030 process_exit 5" ++ (10 ∷ [])

lines_of_calls : Calls
unfolding digits hexadecimal shown_bits shown_rights shown_signals shown_key object_text packet_text row_text call_text reply_text shown_reply
lines_of_calls = record {
  closed = refl;
  copied = refl;
  signaled = refl;
  waited = refl;
  fired = refl;
  changed = refl;
  new = refl;
  both = refl;
  handle = refl;
  named = refl;
  event = refl;
  left = refl;
  never = refl;
  when = refl;
}

-- ---- messages, branches, objects, counts

record Others : Type 0 where
  content : content_line true 2 (record { bytes = 104 ∷ 105 ∷ []; handles = record { koid = 1030; rights = record { 0 = 0x3 } } ∷ record { koid = 1031; rights = record { 0 = 0 } } ∷ [] }) ≡ codes "2 message 6869 1030:DUPLICATE|TRANSFER,1031:NONE" ++ (10 ∷ [])
  written : written_line false 2 9 (1025, calls.HandleClose 7) ≡ codes "2 written 9 1025 handle_close 7" ++ (10 ∷ [])
  waits : end_line false 2 None None ≡ codes "2 waits" ++ (10 ∷ [])
  read : end_line false 2 (Some (12, message_end.Read)) (Some (1028, calls.ChannelRead 7 16 2 false)) ≡ codes "2 read 12 1028 channel_read 7 16 2" ++ (10 ∷ [])
  lost : end_line false 2 (Some (12, message_end.Lost)) (Some (1028, calls.HandleClose 7)) ≡ codes "2 lost 12 1028 handle_close 7" ++ (10 ∷ [])
  main : branch_line (codes "main") 30 None ≡ codes "branch main 30" ++ (10 ∷ [])
  leaves : branch_line (codes "fix") 12 (Some (codes "main", 7)) ≡ codes "branch fix 12 leaves main 7" ++ (10 ∷ [])
  gone : object_line false 1030 None ≡ codes "object 1030 gone" ++ (10 ∷ [])
  there : object_line false 1030 (Some process) ≡ codes "object 1030 process 0x00000008 1026 live 4" ++ (10 ∷ [])
  holders : holder_lines 1030 (Some process) (support.Entry 1025 7 ∷ support.Itself ∷ []) ≡ codes "holders 1030 2" ++ (10 ∷ (codes "entry 1025 7" ++ (10 ∷ (codes "self" ++ (10 ∷ [])))))
  count : call_count_line (record { process = 1025; status = status.BadHandle; count = 3 }) ≡ codes "calls 1025 bad_handle 3" ++ (10 ∷ [])
  alive : fate_line (record { koid = 1024; kind = kind.Job; fate = fate.Alive; since = 0 }) ≡ codes "alive 1024 job 0" ++ (10 ∷ [])
  dead : fate_line (record { koid = 1030; kind = kind.Process; fate = fate.Dead; since = 9 }) ≡ codes "dead 1030 process 9" ++ (10 ∷ [])

other_lines : Others
unfolding digits hexadecimal hex_text shown_bits shown_rights shown_signals shown_key shown_support object_text row_text call_text shown_call
other_lines = record {
  content = refl;
  written = refl;
  waits = refl;
  read = refl;
  lost = refl;
  main = refl;
  leaves = refl;
  gone = refl;
  there = refl;
  holders = refl;
  count = refl;
  alive = refl;
  dead = refl;
}
