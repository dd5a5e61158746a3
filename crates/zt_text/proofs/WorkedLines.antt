-- Lines that were read and shown by hand, as theorems.
use Rattle.std.proofs.Common.{◌≡◌, ℕ, List, [], ◌∷◌, ◌++◌, Some, None, Ok, Err, refl}
use Rattle.std.specs.Prelude.{codes, pos, negsuc, ⊤, true, false, replicate}
use Rattle.std.specs.List.{flat_map}
use Rattle.std.specs.Fmt.{digits}
use Rattle.zt_bits.specs.declared.kinds.Kind.TheVariants.{Job}
use Rattle.zt_bits.specs.declared.statuses.Status.TheVariants.{BadHandle}
use Rattle.zt_rows.specs.declared.refusals.Refusal.TheVariants.{BadLine, NoProcess}
use Rattle.zt_rows.specs.declared.calls.Call.{Call}
use Rattle.zt_rows.specs.declared.calls.Call.TheVariants as calls
use Rattle.zt_rows.specs.declared.calls.Command.TheVariants as commands
use Rattle.zt_rows.specs.declared.calls.Happening.TheVariants as happening
use Rattle.zt_rows.specs.declared.calls.Reply.TheVariants as reply
use Rattle.zt_rows.specs.declared.calls.Answer.TheVariants as answer
use Rattle.zt_rows.specs.declared.keys.RowKey.TheVariants as key
use Rattle.zt_rows.specs.declared.rows.Row.TheVariants as rows
use Rattle.zt_rows.specs.declared.rows.Life.TheVariants.{Live}
use Rattle.zt_text.specs.declared.read_lines.Line.{Line}
use Rattle.zt_text.specs.declared.read_lines.Line.TheVariants as line
use Rattle.zt_text.specs.Numbers.{decimal_of, code_of, mask_of}
use Rattle.zt_text.specs.Bytes.{hex_bytes, bytes_of, packet_bytes_of}
use Rattle.zt_text.specs.Lists.{listed, handles_of}
use Rattle.zt_text.specs.Names.{name_of, happening_of}
use Rattle.zt_text.specs.Fields.{placed, field, flag, ended}
use Rattle.zt_text.specs.ReadCalls.{event_create, eventpair_create, handle_close, handle_duplicate, handle_replace, object_signal, object_signal_peer, channel_create, channel_write, channel_read, port_create, object_wait_async, port_queue, port_wait, port_cancel, job_create, spawn, job_set_critical, task_kill, process_exit, task_call_named, port_call_named, channel_call_named, handle_call_named, call_named, any_call_named, call, process_call}
use Rattle.zt_text.specs.ReadLines.{fields_in, back, show, goto, only_name, branch, follow, holders, leaks, when, pin, question_named, plain_command_named, command_named, pinned_show, pinned_holders, pinned_leaks, pinned_named, pinned, word_named, asked_by, read_as}
use Rattle.zt_text.specs.Session.{call_in, calls_in, session_of}
use Rattle.zt_text.specs.ShownNumbers.{hexadecimal}
use Rattle.zt_text.specs.Answers.{shown_reply, shown_key, shown_object, shown_row, shown_answer, shown_refusal}
use Rattle.zt_text.specs.Lines.{lines_of}

-- what is unfolded to read a line
unfoldable read_on_literals : ⊤
unfolding decimal_of code_of mask_of hex_bytes bytes_of packet_bytes_of listed handles_of name_of happening_of placed field flag ended event_create eventpair_create handle_close handle_duplicate handle_replace object_signal object_signal_peer channel_create channel_write channel_read port_create object_wait_async port_queue port_wait port_cancel job_create spawn job_set_critical task_kill process_exit task_call_named port_call_named channel_call_named handle_call_named call_named any_call_named call goto back only_name branch follow show holders leaks when pin question_named plain_command_named command_named pinned_show pinned_holders pinned_leaks pinned_named pinned word_named asked_by fields_in read_as
read_on_literals = tt

abbrev called : ℕ → Call → Line
called process made = line.Command (commands.Call process made)

reads_event : read_as (codes "1025 event_create") ≡ Ok (Some (called 1025 calls.EventCreate))
unfolding read_on_literals
reads_event = refl

reads_signal : read_as (codes "1025 object_signal 7 0x00000000 0x00000008") ≡ Ok (Some (called 1025 (calls.ObjectSignal 7 (record { 0 = 0 }) (record { 0 = 8 }))))
unfolding read_on_literals
reads_signal = refl

record HandleCalls : Type 0 where
  pair : read_as (codes "1025 eventpair_create") ≡ Ok (Some (called 1025 calls.EventPairCreate))
  close : read_as (codes "1025 handle_close 0") ≡ Ok (Some (called 1025 (calls.HandleClose 0)))
  duplicate : read_as (codes "1025 handle_duplicate 7 0x80000000") ≡ Ok (Some (called 1025 (calls.HandleDuplicate 7 0x80000000)))
  replace : read_as (codes "1025 handle_replace 7 0x0000c003") ≡ Ok (Some (called 1025 (calls.HandleReplace 7 0xc003)))
  signal_peer : read_as (codes "1025 object_signal_peer 7 0x00000008 0x01000000") ≡ Ok (Some (called 1025 (calls.ObjectSignalPeer 7 (record { 0 = 8 }) (record { 0 = 0x1000000 }))))
  close_of_a_word : read_as (codes "1025 handle_close x") ≡ Err (BadLine 19)
  close_of_nothing : read_as (codes "1025 handle_close") ≡ Err (BadLine 18)
  rights_in_decimal : read_as (codes "1025 handle_replace 7 0") ≡ Err (BadLine 23)

reads_handle_calls : HandleCalls
unfolding read_on_literals
reads_handle_calls = record {
  pair = refl;
  close = refl;
  duplicate = refl;
  replace = refl;
  signal_peer = refl;
  close_of_a_word = refl;
  close_of_nothing = refl;
  rights_in_decimal = refl;
}

record ChannelCalls : Type 0 where
  create : read_as (codes "1025 channel_create") ≡ Ok (Some (called 1025 calls.ChannelCreate))
  write : read_as (codes "1025 channel_write 7 6869 15,19") ≡ Ok (Some (called 1025 (calls.ChannelWrite 7 (record { bytes = 104 ∷ 105 ∷ []; handles = 15 ∷ 19 ∷ [] }))))
  nothing : read_as (codes "1025 channel_write 0 - -") ≡ Ok (Some (called 1025 (calls.ChannelWrite 0 (record { bytes = []; handles = [] }))))
  read : read_as (codes "1025 channel_read 7 16 0") ≡ Ok (Some (called 1025 (calls.ChannelRead 7 16 0 false)))
  discard : read_as (codes "1025 channel_read 7 0 4294967295 discard") ≡ Ok (Some (called 1025 (calls.ChannelRead 7 0 4294967295 true)))

reads_channel_calls : ChannelCalls
unfolding read_on_literals
reads_channel_calls = record {
  create = refl;
  write = refl;
  nothing = refl;
  read = refl;
  discard = refl;
}

-- faults of their bytes, of their lists and of what stands at their end
record ChannelColumns : Type 0 where
  odd : read_as (codes "1025 channel_write 7 686 -") ≡ Err (BadLine 22)
  upper : read_as (codes "1025 channel_write 7 6A -") ≡ Err (BadLine 22)
  no_digit : read_as (codes "1025 channel_write 7 6g -") ≡ Err (BadLine 22)
  no_bytes : read_as (codes "1025 channel_write 7  -") ≡ Err (BadLine 22)
  empty_element : read_as (codes "1025 channel_write 7 - 3,,7") ≡ Err (BadLine 24)
  empty_end : read_as (codes "1025 channel_write 7 - 3,") ≡ Err (BadLine 24)
  dash_in_a_list : read_as (codes "1025 channel_write 7 - 3,-") ≡ Err (BadLine 24)
  wide_element : read_as (codes "1025 channel_write 7 - 4294967296") ≡ Err (BadLine 24)
  no_list : read_as (codes "1025 channel_write 7 -") ≡ Err (BadLine 23)
  behind : read_as (codes "1025 channel_write 7 - - -") ≡ Err (BadLine 26)
  no_rights : read_as (codes "1025 handle_duplicate 7") ≡ Err (BadLine 24)
  misspelt : read_as (codes "1025 channel_read 7 0 0 discar") ≡ Err (BadLine 25)
  twice : read_as (codes "1025 channel_read 7 0 0 discard discard") ≡ Err (BadLine 33)
  no_amount : read_as (codes "1025 channel_read 7 0 discard") ≡ Err (BadLine 23)

channel_columns : ChannelColumns
unfolding read_on_literals
channel_columns = record {
  odd = refl;
  upper = refl;
  no_digit = refl;
  no_bytes = refl;
  empty_element = refl;
  empty_end = refl;
  dash_in_a_list = refl;
  wide_element = refl;
  no_list = refl;
  behind = refl;
  no_rights = refl;
  misspelt = refl;
  twice = refl;
  no_amount = refl;
}

-- a list is as long as a message's, and no longer
record ListsAtTheirEnds : Type 0 where
  longest : handles_of (codes "7" ++ flat_map (λ (_ : ℕ). codes ",7") (replicate 63 0)) ≡ Some (replicate 64 7)
  too_long : handles_of (codes "7" ++ flat_map (λ (_ : ℕ). codes ",7") (replicate 64 0)) ≡ None

lists_at_their_ends : ListsAtTheirEnds
unfolding decimal_of listed handles_of
lists_at_their_ends = record { longest = refl; too_long = refl }

record PortCalls : Type 0 where
  create : read_as (codes "1025 port_create") ≡ Ok (Some (called 1025 calls.PortCreate))
  wait_async : read_as (codes "1025 object_wait_async 7 11 18446744073709551615 0x00000008") ≡ Ok (Some (called 1025 (calls.ObjectWaitAsync 7 11 18446744073709551615 (record { 0 = 8 }) false)))
  wait_on_an_edge : read_as (codes "1025 object_wait_async 7 11 4 0x00000008 edge") ≡ Ok (Some (called 1025 (calls.ObjectWaitAsync 7 11 4 (record { 0 = 8 }) true)))
  queue : read_as (codes "1025 port_queue 11 1 00000000000000000000000000000000000000000000000000000000000000ff") ≡ Ok (Some (called 1025 (calls.PortQueue 11 1 (replicate 31 0 ++ 255 ∷ []))))
  wait : read_as (codes "1025 port_wait 11") ≡ Ok (Some (called 1025 (calls.PortWait 11)))
  cancel : read_as (codes "1025 port_cancel 11 7 9") ≡ Ok (Some (called 1025 (calls.PortCancel 11 7 9)))
  no_bytes : read_as (codes "1025 port_queue 11 1 -") ≡ Err (BadLine 22)
  few_digits : read_as (codes "1025 port_queue 11 1 000000000000000000000000000000000000000000000000000000000000ff") ≡ Err (BadLine 22)
  upper : read_as (codes "1025 port_queue 11 1 00000000000000000000000000000000000000000000000000000000000000Ff") ≡ Err (BadLine 22)
  wide_key : read_as (codes "1025 port_cancel 11 7 18446744073709551616") ≡ Err (BadLine 23)
  misspelt : read_as (codes "1025 object_wait_async 7 11 4 0x00000008 edges") ≡ Err (BadLine 42)

reads_port_calls : PortCalls
unfolding read_on_literals
reads_port_calls = record {
  create = refl;
  wait_async = refl;
  wait_on_an_edge = refl;
  queue = refl;
  wait = refl;
  cancel = refl;
  no_bytes = refl;
  few_digits = refl;
  upper = refl;
  wide_key = refl;
  misspelt = refl;
}

record TaskCalls : Type 0 where
  create : read_as (codes "1025 job_create 3") ≡ Ok (Some (called 1025 (calls.JobCreate 3)))
  spawn : read_as (codes "1025 spawn 3 11") ≡ Ok (Some (called 1025 (calls.Spawn 3 11)))
  set_critical : read_as (codes "1025 job_set_critical 3 15") ≡ Ok (Some (called 1025 (calls.JobSetCritical 3 15)))
  kill : read_as (codes "1025 task_kill 15") ≡ Ok (Some (called 1025 (calls.TaskKill 15)))
  exit : read_as (codes "1028 process_exit 5") ≡ Ok (Some (called 1028 (calls.ProcessExit (pos 5))))
  no_argument : read_as (codes "1025 spawn 3") ≡ Err (BadLine 13)
  critical_to_nothing : read_as (codes "1025 job_set_critical") ≡ Err (BadLine 22)
  critical_to_a_word : read_as (codes "1025 job_set_critical job 15") ≡ Err (BadLine 23)
  no_process : read_as (codes "1025 job_set_critical 3") ≡ Err (BadLine 24)
  process_in_hexadecimal : read_as (codes "1025 job_set_critical 3 0xf") ≡ Err (BadLine 25)
  two_processes : read_as (codes "1025 job_set_critical 3 15 19") ≡ Err (BadLine 28)
  no_code : read_as (codes "1028 process_exit") ≡ Err (BadLine 18)

reads_task_calls : TaskCalls
unfolding read_on_literals
reads_task_calls = record {
  create = refl;
  spawn = refl;
  set_critical = refl;
  kill = refl;
  exit = refl;
  no_argument = refl;
  critical_to_nothing = refl;
  critical_to_a_word = refl;
  no_process = refl;
  process_in_hexadecimal = refl;
  two_processes = refl;
  no_code = refl;
}

record Codes : Type 0 where
  zero : code_of (codes "0") ≡ Some (pos 0)
  five : code_of (codes "-5") ≡ Some (negsuc 4)
  most : code_of (codes "9223372036854775807") ≡ Some (pos 9223372036854775807)
  least : code_of (codes "-9223372036854775808") ≡ Some (negsuc 9223372036854775807)
  too_great : code_of (codes "9223372036854775808") ≡ None
  too_small : code_of (codes "-9223372036854775809") ≡ None
  negative_zero : code_of (codes "-0") ≡ None
  sign_alone : code_of (codes "-") ≡ None
  leading_zero : code_of (codes "-05") ≡ None
  two_signs : code_of (codes "--5") ≡ None
  plus : code_of (codes "+5") ≡ None

reads_codes : Codes
unfolding decimal_of code_of
reads_codes = record {
  zero = refl;
  five = refl;
  most = refl;
  least = refl;
  too_great = refl;
  too_small = refl;
  negative_zero = refl;
  sign_alone = refl;
  leading_zero = refl;
  two_signs = refl;
  plus = refl;
}

-- numbers at their ends
record Ends : Type 0 where
  no_process : read_as (codes "0 event_create") ≡ Ok (Some (called 0 calls.EventCreate))
  last_process : read_as (codes "18446744073709551615 event_create") ≡ Ok (Some (called 18446744073709551615 calls.EventCreate))
  last_handle : read_as (codes "9 object_signal 4294967295 0xffffffff 0x0123abcd") ≡ Ok (Some (called 9 (calls.ObjectSignal 4294967295 (record { 0 = 0xffffffff }) (record { 0 = 0x0123abcd }))))
  no_handle : read_as (codes "9 object_signal 0 0xfedcba98 0x00000000") ≡ Ok (Some (called 9 (calls.ObjectSignal 0 (record { 0 = 0xfedcba98 }) (record { 0 = 0 }))))

reads_ends : Ends
unfolding read_on_literals
reads_ends = record {
  no_process = refl;
  last_process = refl;
  last_handle = refl;
  no_handle = refl;
}

-- commands, and questions to the pinned copy
record Commands : Type 0 where
  goto : read_as (codes "goto 4294967295") ≡ Ok (Some (line.Command (commands.Goto 4294967295)))
  back : read_as (codes "back 1048576") ≡ Ok (Some (line.Command (commands.Back 1048576)))
  branch : read_as (codes "branch ~F-1") ≡ Ok (Some (line.Command (commands.Branch (codes "~F-1"))))
  follow : read_as (codes "follow main") ≡ Ok (Some (line.Command (commands.Follow (codes "main"))))
  show : read_as (codes "show") ≡ Ok (Some (line.Command commands.Show))
  holders : read_as (codes "holders 1027") ≡ Ok (Some (line.Command (commands.Holders 1027)))
  leaks : read_as (codes "leaks") ≡ Ok (Some (line.Command commands.Leaks))
  made : read_as (codes "when made 1026") ≡ Ok (Some (line.Command (commands.When happening.Made 1026)))
  ended : read_as (codes "when ended 1028") ≡ Ok (Some (line.Command (commands.When happening.Ended 1028)))
  peer_closed : read_as (codes "when peer_closed 1027") ≡ Ok (Some (line.Command (commands.When happening.PeerClosed 1027)))
  leaked : read_as (codes "when leaked 18446744073709551615") ≡ Ok (Some (line.Command (commands.When happening.Leaked 18446744073709551615)))
  pin : read_as (codes "pin") ≡ Ok (Some (line.Command commands.Pin))
  pinned_show : read_as (codes "pinned show") ≡ Ok (Some line.PinnedShow)
  pinned_holders : read_as (codes "pinned holders 1027") ≡ Ok (Some (line.PinnedHolders 1027))
  pinned_leaks : read_as (codes "pinned leaks") ≡ Ok (Some line.PinnedLeaks)

reads_commands : Commands
unfolding read_on_literals
reads_commands = record {
  goto = refl;
  back = refl;
  branch = refl;
  follow = refl;
  show = refl;
  holders = refl;
  leaks = refl;
  made = refl;
  ended = refl;
  peer_closed = refl;
  leaked = refl;
  pin = refl;
  pinned_show = refl;
  pinned_holders = refl;
  pinned_leaks = refl;
}

-- their faults
record CommandColumns : Type 0 where
  no_moment : read_as (codes "goto") ≡ Err (BadLine 5)
  wide_moment : read_as (codes "goto 4294967296") ≡ Err (BadLine 6)
  wide_count : read_as (codes "back 1048577") ≡ Err (BadLine 6)
  no_name : read_as (codes "branch") ≡ Err (BadLine 7)
  empty_name : read_as (codes "branch ") ≡ Err (BadLine 8)
  two_names : read_as (codes "follow main fix") ≡ Err (BadLine 13)
  no_character : read_as (codes "follow a" ++ 127 ∷ []) ≡ Err (BadLine 8)
  no_koid : read_as (codes "holders x") ≡ Err (BadLine 9)
  no_such_happening : read_as (codes "when closed 7") ≡ Err (BadLine 6)
  nothing_happened_to : read_as (codes "when made") ≡ Err (BadLine 10)
  pin_of_something : read_as (codes "pin 7") ≡ Err (BadLine 5)
  pinned_alone : read_as (codes "pinned") ≡ Err (BadLine 7)
  pinned_hide : read_as (codes "pinned hide") ≡ Err (BadLine 8)
  pinned_show_more : read_as (codes "pinned show x") ≡ Err (BadLine 13)

command_columns : CommandColumns
unfolding read_on_literals
command_columns = record {
  no_moment = refl;
  wide_moment = refl;
  wide_count = refl;
  no_name = refl;
  empty_name = refl;
  two_names = refl;
  no_character = refl;
  no_koid = refl;
  no_such_happening = refl;
  nothing_happened_to = refl;
  pin_of_something = refl;
  pinned_alone = refl;
  pinned_hide = refl;
  pinned_show_more = refl;
}

skips : (read_as [] ≡ Ok None) × (read_as (codes "# show") ≡ Ok None)
unfolding fields_in read_as
skips = (refl, refl)

-- the columns of faults: a space in front, one behind, two in the middle, and a carriage return
record Columns : Type 0 where
  front : read_as (codes " show") ≡ Err (BadLine 1)
  behind : read_as (codes "show ") ≡ Err (BadLine 6)
  double : read_as (codes "1025  event_create") ≡ Err (BadLine 6)
  returned : read_as (codes "1025 event_create" ++ 13 ∷ []) ≡ Err (BadLine 6)
  zero_count : read_as (codes "back 0") ≡ Err (BadLine 6)
  nonsense : read_as (codes "1025 nonsense") ≡ Err (BadLine 6)
  hello : read_as (codes "hello") ≡ Err (BadLine 1)
  wide : read_as (codes "18446744073709551616 event_create") ≡ Err (BadLine 1)
  missing : read_as (codes "1025 object_signal 7") ≡ Err (BadLine 21)
  upper : read_as (codes "1025 object_signal 7 0x00000000 0x0000000A") ≡ Err (BadLine 33)

columns : Columns
unfolding read_on_literals
columns = record {
  front = refl;
  behind = refl;
  double = refl;
  returned = refl;
  zero_count = refl;
  nonsense = refl;
  hello = refl;
  wide = refl;
  missing = refl;
  upper = refl;
}

shows_handle : shown_answer (answer.Called 1 (reply.Handle 7)) ≡ codes "1 ok 7" ++ 10 ∷ []
unfolding digits shown_reply shown_answer
shows_handle = refl

shows_status : shown_answer (answer.Called 3 (reply.Status BadHandle)) ≡ codes "3 bad_handle" ++ 10 ∷ []
unfolding digits shown_reply shown_answer
shows_status = refl

shows_rows : shown_answer (answer.Rows 1 ((key.Object 1024, rows.Object (record { kind = Job; signals = record { 0 = 0x10 }; link = 0; life = Live; next = 0; critical = 0 })) ∷ (key.Entry 1025 7, rows.Entry (record { koid = 1026; rights = record { 0 = 0xd003 } })) ∷ [])) ≡ codes "rows 1 2" ++ (10 ∷ (codes "object 1024 job 0x00000010 0 live 0" ++ (10 ∷ (codes "entry 1025 7 1026 0x0000d003" ++ 10 ∷ []))))
unfolding digits hexadecimal shown_key shown_object shown_row shown_answer
shows_rows = refl

shows_refusals : (shown_refusal NoProcess ≡ codes "refused 2 NoProcess" ++ 10 ∷ []) × (shown_refusal (BadLine 19) ≡ codes "refused 10 BadLine 19" ++ 10 ∷ [])
unfolding digits shown_refusal
shows_refusals = (refl, refl)

-- a last line without a line feed counts where it is not empty
lines : (lines_of (97 ∷ 10 ∷ 10 ∷ 98 ∷ []) ≡ (97 ∷ []) ∷ [] ∷ (98 ∷ []) ∷ []) × (lines_of (97 ∷ 10 ∷ []) ≡ (97 ∷ []) ∷ [])
lines = (refl, refl)

-- session texts: their first line, skipped lines, which are counted, and faults
abbrev line_end : List ℕ → List ℕ
line_end line = line ++ 10 ∷ []

record Sessions : Type 0 where
  empty : session_of [] ≡ Err (1, BadLine 1)
  other_version : session_of (codes "zxtt 2") ≡ Err (1, BadLine 1)
  comment_first : session_of (line_end (codes "# x") ++ codes "zxtt 1") ≡ Err (1, BadLine 1)
  space_behind : session_of (codes "zxtt 1 ") ≡ Err (1, BadLine 1)
  no_calls : session_of (codes "zxtt 1") ≡ Ok []
  two_calls : session_of (line_end (codes "zxtt 1") ++ (line_end (codes "1025 event_create") ++ codes "1025 handle_close 7")) ≡ Ok ((1025, calls.EventCreate) ∷ (1025, calls.HandleClose 7) ∷ [])
  skipped : session_of (line_end (codes "zxtt 1") ++ (10 ∷ (line_end (codes "# x") ++ codes "1025 port_create"))) ≡ Ok ((1025, calls.PortCreate) ∷ [])
  command : session_of (line_end (codes "zxtt 1") ++ codes "show") ≡ Err (2, BadLine 1)
  faulty_command : session_of (line_end (codes "zxtt 1") ++ codes "goto x") ≡ Err (2, BadLine 1)
  counted : session_of (line_end (codes "zxtt 1") ++ (10 ∷ (line_end (codes "# x") ++ codes "1025 handle_close x"))) ≡ Err (4, BadLine 19)

reads_sessions : Sessions
unfolding read_on_literals process_call call_in calls_in session_of
reads_sessions = record {
  empty = refl;
  other_version = refl;
  comment_first = refl;
  space_behind = refl;
  no_calls = refl;
  two_calls = refl;
  skipped = refl;
  command = refl;
  faulty_command = refl;
  counted = refl;
}
