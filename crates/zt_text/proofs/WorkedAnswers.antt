-- Answers and refusals that were shown by hand, as theorems: the forms of replies and rows.
use Rattle.std.proofs.Common.{◌≡◌, List, ℕ, [], ◌∷◌, ◌++◌, refl}
use Rattle.std.specs.Prelude.{codes, negsuc, pos, true, false, None, Some}
use Rattle.std.specs.Fmt.{digits}
use Rattle.zt_bits.specs.declared.kinds.Kind.TheVariants as kind
use Rattle.zt_rows.specs.declared.refusals.Refusal.TheVariants.{BadName}
use Rattle.zt_rows.specs.declared.calls.Reply.{Reply}
use Rattle.zt_rows.specs.declared.calls.Reply.TheVariants as reply
use Rattle.zt_rows.specs.declared.calls.Answer.TheVariants as answer
use Rattle.zt_rows.specs.declared.calls.Call.TheVariants as calls
use Rattle.zt_rows.specs.declared.supports.Support.TheVariants as support
use Rattle.zt_rows.specs.declared.keys.RowKey.{RowKey}
use Rattle.zt_rows.specs.declared.keys.RowKey.TheVariants as key
use Rattle.zt_rows.specs.declared.rows.Row.{Row}
use Rattle.zt_rows.specs.declared.rows.Row.TheVariants as rows
use Rattle.zt_rows.specs.declared.rows.Life.TheVariants as life
use Rattle.zt_rows.specs.declared.rows.Packet.{Packet}
use Rattle.zt_rows.specs.declared.rows.Packet.TheVariants as packet
use Rattle.zt_text.specs.Bytes.{hex_text}
use Rattle.zt_text.specs.ShownNumbers.{hexadecimal}
use Rattle.zt_text.specs.Answers.{shown_packet, shown_reply, shown_key, shown_object, shown_wait, shown_queued, shown_row, shown_support, shown_answer, shown_refusal}
use Rattle.zt_text.specs.Calls.{shown_call}

-- the line of a reply, and the line of a row that is shown alone
abbrev called : Reply → List ℕ
called made = shown_answer (answer.Called 4 made)

abbrev alone : RowKey → Row → List ℕ
alone under row = shown_answer (answer.Rows 8 ((under, row) ∷ []))

abbrev behind_rows : List ℕ → List ℕ
behind_rows line = codes "rows 8 1" ++ (10 ∷ (line ++ (10 ∷ [])))

abbrev fired : Packet
fired = packet.Signal 4 (record { 0 = 0x8 }) (record { 0 = 0xff000008 }) 1025 7

record Replies : Type 0 where
  handles : called (reply.Handles 7 11) ≡ codes "4 ok 7 11" ++ (10 ∷ [])
  spawned : called (reply.Spawned 15 1028) ≡ codes "4 ok 15 1028" ++ (10 ∷ [])
  too_small : called (reply.TooSmall 16 2) ≡ codes "4 buffer_too_small 16 2" ++ (10 ∷ [])
  bytes : called (reply.Message (104 ∷ 105 ∷ []) []) ≡ codes "4 ok 6869 -" ++ (10 ∷ [])
  no_bytes : called (reply.Message [] (15 ∷ 19 ∷ [])) ≡ codes "4 ok - 15,19" ++ (10 ∷ [])
  user : called (reply.Packet (packet.User 1 (0 ∷ 1 ∷ 171 ∷ []))) ≡ codes "4 ok user 1 0001ab" ++ (10 ∷ [])
  signal : called (reply.Packet fired) ≡ codes "4 ok signal 4 0x00000008 0xff000008" ++ (10 ∷ [])

shows_replies : Replies
unfolding digits hexadecimal hex_text shown_packet shown_reply shown_answer
shows_replies = record {
  handles = refl;
  spawned = refl;
  too_small = refl;
  bytes = refl;
  no_bytes = refl;
  user = refl;
  signal = refl;
}

record Positions : Type 0 where
  at : shown_answer (answer.At 1) ≡ codes "at 1" ++ (10 ∷ [])
  no_rows : shown_answer (answer.Rows 4294967295 []) ≡ codes "rows 4294967295 0" ++ (10 ∷ [])
  bad_name : shown_refusal BadName ≡ codes "refused 16 BadName" ++ (10 ∷ [])

shows_positions : Positions
unfolding digits shown_answer shown_refusal
shows_positions = record { at = refl; no_rows = refl; bad_name = refl }

record Questions : Type 0 where
  branched : shown_answer (answer.Branched (codes "fix") 0) ≡ codes "branch fix 0" ++ (10 ∷ [])
  followed : shown_answer (answer.Followed (codes "main") 3) ≡ codes "follow main 3" ++ (10 ∷ [])
  pinned : shown_answer (answer.Pinned 1) ≡ codes "pinned 1" ++ (10 ∷ [])
  holders : shown_answer (answer.Holders 1027 (support.Entry 1025 7 ∷ support.Message 1027 0 1 ∷ support.Child 1030 ∷ support.Itself ∷ [])) ≡ codes "holders 1027 4" ++ (10 ∷ (codes "entry 1025 7" ++ (10 ∷ (codes "message 1027 0 1" ++ (10 ∷ (codes "child 1030" ++ (10 ∷ (codes "self" ++ (10 ∷ [])))))))))
  leaks : shown_answer (answer.Leaks 2 ((1027, kind.Channel) ∷ [])) ≡ codes "leaks 2 1" ++ (10 ∷ (codes "1027 channel" ++ (10 ∷ [])))
  no_leaks : shown_answer (answer.Leaks 1 []) ≡ codes "leaks 1 0" ++ (10 ∷ [])
  never : shown_answer (answer.When None) ≡ codes "never" ++ (10 ∷ [])
  when : shown_answer (answer.When (Some (record { moment = 5; process = 1028; call = calls.ProcessExit (pos 5) }))) ≡ codes "5 1028 process_exit 5" ++ (10 ∷ [])
  when_critical : shown_answer (answer.When (Some (record { moment = 6; process = 1025; call = calls.JobSetCritical 3 15 }))) ≡ codes "6 1025 job_set_critical 3 15" ++ (10 ∷ [])

shows_questions : Questions
unfolding digits shown_support shown_call shown_answer
shows_questions = record {
  branched = refl;
  followed = refl;
  pinned = refl;
  holders = refl;
  leaks = refl;
  no_leaks = refl;
  never = refl;
  when = refl;
  when_critical = refl;
}

record Rows : Type 0 where
  counters : alone key.Counters (rows.Counters (record { next_koid = 1027; next_wait = 0 })) ≡ behind_rows (codes "counters 1027 0")
  killed : alone (key.Object 1027) (rows.Object (record { kind = kind.Process; signals = record { 0 = 0x8 }; link = 0; life = life.Killed; next = 1; critical = 0 })) ≡ behind_rows (codes "object 1027 process 0x00000008 0 killed 1")
  exited : alone (key.Object 1027) (rows.Object (record { kind = kind.Process; signals = record { 0 = 0x8 }; link = 0; life = life.Exited (negsuc 4); next = 1; critical = 0 })) ≡ behind_rows (codes "object 1027 process 0x00000008 0 exit:-5 1")
  critical : alone (key.Object 1027) (rows.Object (record { kind = kind.Process; signals = record { 0 = 0 }; link = 1026; life = life.Live; next = 0; critical = 1026 })) ≡ behind_rows (codes "object 1027 process 0x00000000 1026 live 0 critical:1026")
  not_critical : alone (key.Object 1027) (rows.Object (record { kind = kind.Process; signals = record { 0 = 0 }; link = 1026; life = life.Live; next = 0; critical = 0 })) ≡ behind_rows (codes "object 1027 process 0x00000000 1026 live 0")
  message : alone (key.Msg 1026 0) (rows.Msg (record { bytes = 104 ∷ 105 ∷ []; handles = record { koid = 1030; rights = record { 0 = 0xd003 } } ∷ record { koid = 1031; rights = record { 0 = 0 } } ∷ [] })) ≡ behind_rows (codes "msg 1026 0 6869 1030:0x0000d003,1031:0x00000000")
  empty_message : alone (key.Msg 1026 1) (rows.Msg (record { bytes = []; handles = [] })) ≡ behind_rows (codes "msg 1026 1 - -")
  user : alone (key.Packet 1027 0) (rows.Packet (packet.User 18446744073709551615 (7 ∷ 171 ∷ []))) ≡ behind_rows (codes "packet 1027 0 user 18446744073709551615 07ab")
  signal : alone (key.Packet 1027 1) (rows.Packet fired) ≡ behind_rows (codes "packet 1027 1 signal 4 0x00000008 0xff000008 1025 7")
  wait : alone (key.Wait 0) (rows.Wait (record { process = 1025; handle = 7; port = 1027; key = 4; signals = record { 0 = 0x8 }; edge = false })) ≡ behind_rows (codes "wait 0 1025 7 1027 4 0x00000008")
  wait_on_an_edge : alone (key.Wait 0) (rows.Wait (record { process = 1025; handle = 7; port = 1027; key = 4; signals = record { 0 = 0x8 }; edge = true })) ≡ behind_rows (codes "wait 0 1025 7 1027 4 0x00000008 edge")

shows_rows : Rows
unfolding digits hexadecimal hex_text shown_packet shown_key shown_object shown_wait shown_queued shown_row shown_answer
shows_rows = record {
  counters = refl;
  killed = refl;
  exited = refl;
  critical = refl;
  not_critical = refl;
  message = refl;
  empty_message = refl;
  user = refl;
  signal = refl;
  wait = refl;
  wait_on_an_edge = refl;
}
