-- The line of a call reads as that call.
use Rattle.std.proofs.Common.{lit<, lit≤, ◌≡◌, ℕ, ◌+◌, ◌-◌, ◌^◌, ◌<◌, true, false, List, [], ◌∷◌, ◌++◌, length, Some, Ok, refl, ap, ◌∙◌, arith}
use Rattle.std.specs.Prelude.{Option, Result, nat_lt, codes}
use Rattle.std.specs.Char.{is_ascii_digit}
use Rattle.std.specs.List.{list_all}
use Rattle.std.specs.Fmt.{decimal}
use Rattle.std.proofs.lemmas.Bool.{and_parts}
use Rattle.std.proofs.lemmas.Bool.Decides.{nat_tests}
use Rattle.std.proofs.lemmas.Fmt.{decimal_is_IsNumeral}
use Rattle.zt_rows.specs.declared.refusals.Refusal.{Refusal}
use Rattle.zt_rows.specs.declared.calls.Call.{Call}
use Rattle.zt_rows.specs.declared.calls.Call.TheVariants as calls
use Rattle.zt_rows.specs.declared.calls.Command.TheVariants as commands
use Rattle.zt_text.specs.declared.read_lines.Line.{Line}
use Rattle.zt_text.specs.declared.read_lines.Line.TheVariants as line
use Rattle.zt_text.specs.Numbers.{decimal_of}
use Rattle.zt_text.specs.Fields.{fields_of, unread, placed, field, flag, ended}
use Rattle.zt_text.specs.ReadCalls.{event_create, eventpair_create, handle_close, handle_duplicate, handle_replace, object_signal, object_signal_peer, channel_create, channel_write, channel_read, port_create, object_wait_async, port_queue, port_wait, port_cancel, job_create, spawn, job_set_critical, task_kill, process_exit, task_call_named, port_call_named, channel_call_named, handle_call_named, call_named, any_call_named, call, process_call}
use Rattle.zt_text.specs.ReadLines.{fields_in, asked_by, is_skipped, read_as}
use Rattle.zt_text.specs.ShownNumbers.{words}
use Rattle.zt_text.specs.Calls.{IsWithin, call_name, call_arguments, shown_call}
use Rattle.zt_text.proofs.ShownFields.{decimal_read, decimal_digits, mask_read, bytes_read, packet_bytes_read, code_read}
use Rattle.zt_text.proofs.ShownWords.{is_free, is_seen, AreSeen, parts_joined, free_seen, all_free, line_free, seen_decimal, seen_code, seen_mask, seen_bytes, seen_handles, seen_flag, handles_read}
use Rattle.zt_text.proofs.ShownLengths.{call_line_few}

pub handle_read : (n : ℕ) → n < 2 ^ 32 → decimal_of (2 ^ 32 - 1) (decimal n) ≡ Some n
handle_read n small = decimal_read (2 ^ 32 - 1) n (omega (arith, small)) (lit< tt)

pub key_read : (n : ℕ) → n < 2 ^ 64 → decimal_of (2 ^ 64 - 1) (decimal n) ≡ Some n
key_read n small = decimal_read (2 ^ 64 - 1) n (omega (arith, small)) (lit< tt)

seen_handle : (n : ℕ) → n < 2 ^ 32 → is_seen (decimal n) ≡ true
seen_handle n small = seen_decimal n (omega (arith, small))

-- every word of a call is of visible bytes
pub words_seen : (made : Call) → IsWithin made → AreSeen (call_name made ∷ call_arguments made)
words_seen calls.EventCreate h = (refl, tt)
words_seen calls.EventPairCreate h = (refl, tt)
words_seen (calls.HandleClose handle) h = (refl, (seen_handle handle h, tt))
words_seen (calls.HandleDuplicate handle rights) (a, b) = (refl, (seen_handle handle a, (seen_mask rights b, tt)))
words_seen (calls.HandleReplace handle rights) (a, b) = (refl, (seen_handle handle a, (seen_mask rights b, tt)))
words_seen (calls.ObjectSignal handle clear set) (a, b, c) = (refl, (seen_handle handle a, (seen_mask clear.0 b, (seen_mask set.0 c, tt))))
words_seen (calls.ObjectSignalPeer handle clear set) (a, b, c) = (refl, (seen_handle handle a, (seen_mask clear.0 b, (seen_mask set.0 c, tt))))
words_seen calls.ChannelCreate h = (refl, tt)
words_seen (calls.ChannelWrite handle parcel) (a, b, few, c, short) = (refl, (seen_handle handle a, (seen_bytes parcel.bytes b, (seen_handles parcel.handles c, tt))))
words_seen (calls.ChannelRead handle bytes handles discard) (a, b, c) =
    (refl, (seen_handle handle a, (seen_handle bytes b, (seen_handle handles c, seen_flag (codes "discard") discard refl))))
words_seen calls.PortCreate h = (refl, tt)
words_seen (calls.ObjectWaitAsync handle port key signals edge) (a, b, c, d) =
    (refl, (seen_handle handle a, (seen_handle port b, (seen_decimal key c, (seen_mask signals.0 d, seen_flag (codes "edge") edge refl)))))
words_seen (calls.PortQueue port key bytes) (a, b, c, whole) = (refl, (seen_handle port a, (seen_decimal key b, (seen_bytes bytes c, tt))))
words_seen (calls.PortWait port) h = (refl, (seen_handle port h, tt))
words_seen (calls.PortCancel port source key) (a, b, c) = (refl, (seen_handle port a, (seen_handle source b, (seen_decimal key c, tt))))
words_seen (calls.JobCreate job) h = (refl, (seen_handle job h, tt))
words_seen (calls.Spawn job argument) (a, b) = (refl, (seen_handle job a, (seen_handle argument b, tt)))
words_seen (calls.JobSetCritical job process) (a, b) = (refl, (seen_handle job a, (seen_handle process b, tt)))
words_seen (calls.TaskKill handle) h = (refl, (seen_handle handle h, tt))
words_seen (calls.ProcessExit code) h = (refl, (seen_code code h, tt))

-- the words of a call read as that call, at whatever column they begin
pub call_read : (made : Call) → IsWithin made → (column behind : ℕ) → call (record { fields = placed column (call_name made ∷ call_arguments made); behind = behind }) ≡ Ok made
unfolding placed field flag ended event_create eventpair_create handle_close handle_duplicate handle_replace object_signal object_signal_peer channel_create channel_write channel_read port_create object_wait_async port_queue port_wait port_cancel job_create spawn job_set_critical task_kill process_exit task_call_named port_call_named channel_call_named handle_call_named call_named any_call_named call
call_read calls.EventCreate h column behind = refl
call_read calls.EventPairCreate h column behind = refl
call_read (calls.HandleClose handle) h column behind = rw (handle_read handle h) refl
call_read (calls.HandleDuplicate handle rights) (a, b) column behind = rw (handle_read handle a, mask_read rights b) refl
call_read (calls.HandleReplace handle rights) (a, b) column behind = rw (handle_read handle a, mask_read rights b) refl
call_read (calls.ObjectSignal handle clear set) (a, b, c) column behind = rw (handle_read handle a, mask_read clear.0 b, mask_read set.0 c) refl
call_read (calls.ObjectSignalPeer handle clear set) (a, b, c) column behind = rw (handle_read handle a, mask_read clear.0 b, mask_read set.0 c) refl
call_read calls.ChannelCreate h column behind = refl
call_read (calls.ChannelWrite handle parcel) (a, b, few, c, short) column behind =
    rw (handle_read handle a, bytes_read parcel.bytes b few, handles_read parcel.handles c short) refl
call_read (calls.ChannelRead handle bytes handles true) (a, b, c) column behind =
    rw (handle_read handle a, handle_read bytes b, handle_read handles c) refl
call_read (calls.ChannelRead handle bytes handles false) (a, b, c) column behind =
    rw (handle_read handle a, handle_read bytes b, handle_read handles c) refl
call_read calls.PortCreate h column behind = refl
call_read (calls.ObjectWaitAsync handle port key signals true) (a, b, c, d) column behind =
    rw (handle_read handle a, handle_read port b, key_read key c, mask_read signals.0 d) refl
call_read (calls.ObjectWaitAsync handle port key signals false) (a, b, c, d) column behind =
    rw (handle_read handle a, handle_read port b, key_read key c, mask_read signals.0 d) refl
call_read (calls.PortQueue port key bytes) (a, b, c, whole) column behind =
    rw (handle_read port a, key_read key b, packet_bytes_read bytes c whole) refl
call_read (calls.PortWait port) h column behind = rw (handle_read port h) refl
call_read (calls.PortCancel port source key) (a, b, c) column behind =
    rw (handle_read port a, handle_read source b, key_read key c) refl
call_read (calls.JobCreate job) h column behind = rw (handle_read job h) refl
call_read (calls.Spawn job argument) (a, b) column behind = rw (handle_read job a, handle_read argument b) refl
call_read (calls.JobSetCritical job process) (a, b) column behind = rw (handle_read job a, handle_read process b) refl
call_read (calls.TaskKill handle) h column behind = rw (handle_read handle h) refl
call_read (calls.ProcessExit code) h column behind = rw (code_read code h) refl

-- a line that begins with a digit is not skipped
not_skipped : (ds rest : List ℕ) → 0 < length ds → list_all is_ascii_digit ds ≡ true → is_skipped (ds ++ rest) ≡ false
not_skipped [] rest some all = absurd (omega arith)
not_skipped (d ∷ ds) rest some all =
    let parts = and_parts (is_ascii_digit d) (list_all is_ascii_digit ds) all in
    grind (arith, nat_tests, parts.0)

-- the words of a line that shows a call
abbrev line_words : ℕ → Call → List (List ℕ)
line_words process made = decimal process ∷ call_name made ∷ call_arguments made

-- the line of a call is of visible bytes and spaces
pub call_line_free : (process : ℕ) (made : Call) → process < 2 ^ 64 → IsWithin made → is_free 10 (shown_call process made) ≡ true
unfolding shown_call
call_line_free process made small within = line_free (line_words process made) (seen_decimal process small, words_seen made within)

-- its fields are the words of the call
line_fields : (process : ℕ) (made : Call) → process < 2 ^ 64 → IsWithin made → fields_of (words (line_words process made)) ≡ line_words process made
line_fields process made small within =
    parts_joined 32 (decimal process) (call_name made ∷ call_arguments made) (free_seen 32 (lit≤ tt) (decimal process) (seen_decimal process small))
    (all_free (call_name made ∷ call_arguments made) (words_seen made within))

-- it is neither too long nor skipped
pub call_line_kept : (process : ℕ) (made : Call) → process < 2 ^ 64 → IsWithin made → fields_in (shown_call process made) ≡ Ok (Some (unread (shown_call process made)))
unfolding fields_in shown_call
call_line_kept process made small within =
    let numeral = decimal_is_IsNumeral process small in
    let few : nat_lt 140000 (length (words (line_words process made))) ≡ false = call_line_few process made small within in
    let asked = not_skipped (decimal process) (32 ∷ words (call_name made ∷ call_arguments made)) numeral.0.0 (decimal_digits process small) in
    rw (few, asked) refl

-- the process and the call that its fields read as
pub call_line_made : (process : ℕ) (made : Call) → process < 2 ^ 64 → IsWithin made → process_call (unread (shown_call process made)) ≡ Ok (process, made)
unfolding process_call shown_call placed field
call_line_made process made small within =
    let text : List ℕ = words (line_words process made) in
    let fields = line_fields process made small within in
    rw (fields, key_read process small, call_read made within (1 + length (decimal process) + 1) (length text + 1)) refl

call_line_asked : (process : ℕ) (made : Call) → process < 2 ^ 64 → IsWithin made → asked_by (unread (shown_call process made)) ≡ Ok (line.Command (commands.Call process made))
unfolding asked_by shown_call placed field
call_line_asked process made small within =
    let text : List ℕ = words (line_words process made) in
    let fields = line_fields process made small within in
    rw (fields, key_read process small, call_read made within (1 + length (decimal process) + 1) (length text + 1)) refl

-- the line of a call reads as that call
pub call_line_read : (process : ℕ) (made : Call) → process < 2 ^ 64 → IsWithin made → read_as (shown_call process made) ≡ Ok (Some (line.Command (commands.Call process made)))
unfolding read_as
call_line_read process made small within = rw (call_line_kept process made small within, call_line_asked process made small within) refl

same_command : (p q : ℕ) (c d : Call) (r : Result (Option Line) Refusal) → r ≡ Ok (Some (line.Command (commands.Call p c))) → r ≡ Ok (Some (line.Command (commands.Call q d))) → (p ≡ q) × (c ≡ d)
same_command p q c d r first second = (cc, cc)

-- two calls have two lines
pub call_lines_differ : (p q : ℕ) (c d : Call) → p < 2 ^ 64 → q < 2 ^ 64 → IsWithin c → IsWithin d → shown_call p c ≡ shown_call q d → (p ≡ q) × (c ≡ d)
call_lines_differ p q c d small_p small_q within_c within_d same =
    same_command p q c d (read_as (shown_call p c)) (call_line_read p c small_p within_c) (ap read_as same ∙ call_line_read q d small_q within_d)
