-- No two rows have one line: a reader of rows gives each row back from its line.
use Rattle.std.proofs.Common.{lit<, lit≤, ◌≡◌, ℕ, ◌-◌, ◌^◌, ◌<◌, Bool, true, false, List, [], ◌∷◌, ◌++◌, map, drop, Option, Some, None, Result, Ok, refl, sym, ap, ◌∙◌, arith, All, append_assoc}
use Rattle.std.specs.Prelude.{codes, ok_or, ◌==◌, not, if◌then◌else◌}
use Rattle.std.specs.Char.{is_ascii_digit}
use Rattle.std.specs.Str.{bytes_eq}
use Rattle.std.specs.Option.{option_map}
use Rattle.std.specs.List.{list_all, join_with_byte}
use Rattle.std.specs.Fmt.{decimal}
use Rattle.std.proofs.lemmas.Bool.{eqb-true}
use Rattle.std.proofs.lemmas.Bool.Decides.{nat_tests}
use Rattle.std.proofs.lemmas.Fmt.{decimal_is_IsNumeral}
use Rattle.std.proofs.lemmas.List.Elements.{All-head, All-tail}
use Rattle.std.proofs.lemmas.List.Folds.{list_all-append}
use Rattle.zt_bits.specs.declared.kinds.Kind.{Kind}
use Rattle.zt_bits.specs.declared.kinds.Kind.TheVariants as kind
use Rattle.zt_bits.specs.declared.right_bits.Rights.{Rights}
use Rattle.zt_bits.specs.Words.{kind_word}
use Rattle.zt_rows.specs.declared.refusals.Refusal.{Refusal}
use Rattle.zt_rows.specs.declared.refusals.Refusal.TheVariants.{BadLine}
use Rattle.zt_rows.specs.declared.keys.RowKey.{RowKey}
use Rattle.zt_rows.specs.declared.keys.RowKey.TheVariants as key
use Rattle.zt_rows.specs.declared.rows.Held.{Held}
use Rattle.zt_rows.specs.declared.rows.Life.{Life}
use Rattle.zt_rows.specs.declared.rows.Life.TheVariants as life
use Rattle.zt_rows.specs.declared.rows.Packet.{Packet}
use Rattle.zt_rows.specs.declared.rows.Packet.TheVariants as packet
use Rattle.zt_rows.specs.declared.rows.Row.{Row}
use Rattle.zt_rows.specs.declared.rows.Row.TheVariants as rows
use Rattle.zt_rows.specs.Room.{suits}
use Rattle.zt_text.specs.Numbers.{is_hex_digit, decimal_of, koid_of, key_of, handle_of, code_of, mask_of, signals_of}
use Rattle.zt_text.specs.Bytes.{hex_bytes, hex_text}
use Rattle.zt_text.specs.Fields.{Placed, Unread, ◌>>=◌, next, field, flag_of, placed, unread, parts_of, fields_of}
use Rattle.zt_text.specs.Lines.{lines_of}
use Rattle.zt_text.specs.ShownNumbers.{words, hexadecimal, shown_mask, shown_bytes, shown_list, shown_held}
use Rattle.zt_text.specs.Answers.{shown_life, row_line}
use Rattle.zt_text.specs.Calls.{IsByte, flag_words}
use Rattle.zt_text.specs.Rows.{IsKeyWithin, IsHeldWithin, IsLifeWithin, IsPacketWithin, IsRowWithin}
use Rattle.zt_text.proofs.ShownFields.{decimal_read, decimal_digits, mask_read, mask_digits_shown, code_read, digits_of, not_dash}
use Rattle.zt_text.proofs.ShownWords.{is_free, AreFree, parts_joined, passing, free_digits, free_hex, free_seen, all_free, line_free, no_dash}
use Rattle.zt_text.proofs.LineLemmas.{line_written}
use Rattle.zt_text.proofs.RowWords.{key_word, key_numbers, critical_words, row_word, row_words, line_words, line_shown, line_seen}

-- ---- the forms of a row's fields

abbrev rights_of : List ℕ → Option Rights
rights_of text = option_map (λ n. record { 0 = n }) (mask_of text)

unfoldable kind_of : List ℕ → Option Kind
kind_of text =
    if bytes_eq text (codes "job") then Some kind.Job
    else (if bytes_eq text (codes "process") then Some kind.Process
    else (if bytes_eq text (codes "channel") then Some kind.Channel
    else (if bytes_eq text (codes "event") then Some kind.Event
    else (if bytes_eq text (codes "eventpair") then Some kind.EventPair
    else Some kind.Port))))

unfoldable life_of : List ℕ → Option Life
life_of text =
    if bytes_eq text (codes "live") then Some life.Live
    else (if bytes_eq text (codes "killed") then Some life.Killed else option_map life.Exited (code_of (drop 5 text)))

-- bytes of any number
unfoldable any_bytes_of : List ℕ → Option (List ℕ)
any_bytes_of text = if bytes_eq text (codes "-") then Some [] else Some (hex_bytes text)

abbrev both : Option ℕ → Option ℕ → Option Held
both (Some koid) (Some rights) = Some (record { koid = koid; rights = record { 0 = rights } })
both _ _ = None

abbrev held_parts : List (List ℕ) → Option Held
held_parts (koid ∷ rights ∷ []) = both (koid_of koid) (mask_of rights)
held_parts _ = None

abbrev in_front : Option Held → Option (List Held) → Option (List Held)
in_front (Some held) (Some others) = Some (held ∷ others)
in_front _ _ = None

abbrev each_held : List (List ℕ) → Option (List Held)
each_held [] = Some []
each_held (element ∷ elements) = in_front (held_parts (parts_of 58 element)) (each_held elements)

unfoldable all_held_of : List ℕ → Option (List Held)
all_held_of text = if bytes_eq text (codes "-") then Some [] else each_held (parts_of 44 text)

-- ---- the reader

unfoldable counters_of : Unread → Result (RowKey × Row) Refusal
counters_of left = do
  koid ← field koid_of left
  wait ← field key_of koid.1
  Ok (key.Counters, rows.Counters (record { next_koid = koid.0; next_wait = wait.0 }))

-- the job behind `critical:`; 0, where no field is left
abbrev critical_in : List Placed → Result ℕ Refusal
critical_in [] = Ok 0
critical_in (word ∷ _) = ok_or (koid_of (drop 9 word.bytes)) (BadLine word.column)

unfoldable object_of : Unread → Result (RowKey × Row) Refusal
object_of left = do
  koid ← field koid_of left
  what ← field kind_of koid.1
  signals ← field signals_of what.1
  link ← field koid_of signals.1
  how ← field life_of link.1
  number ← field key_of how.1
  critical ← critical_in number.1.fields
  Ok (key.Object koid.0, rows.Object (record { kind = what.0; signals = signals.0; link = link.0; life = how.0; next = number.0; critical = critical }))

unfoldable entry_of : Unread → Result (RowKey × Row) Refusal
entry_of left = do
  process ← field koid_of left
  handle ← field handle_of process.1
  koid ← field koid_of handle.1
  rights ← field rights_of koid.1
  Ok (key.Entry process.0 handle.0, rows.Entry (record { koid = koid.0; rights = rights.0 }))

unfoldable message_of : Unread → Result (RowKey × Row) Refusal
message_of left = do
  endpoint ← field koid_of left
  number ← field key_of endpoint.1
  bytes ← field any_bytes_of number.1
  handles ← field all_held_of bytes.1
  Ok (key.Msg endpoint.0 number.0, rows.Msg (record { bytes = bytes.0; handles = handles.0 }))

unfoldable user_of : Unread → Result Packet Refusal
user_of left = do
  number ← field key_of left
  bytes ← field any_bytes_of number.1
  Ok (packet.User number.0 bytes.0)

unfoldable signal_of : Unread → Result Packet Refusal
signal_of left = do
  number ← field key_of left
  trigger ← field signals_of number.1
  observed ← field signals_of trigger.1
  process ← field koid_of observed.1
  handle ← field handle_of process.1
  Ok (packet.Signal number.0 trigger.0 observed.0 process.0 handle.0)

unfoldable packet_of : Unread → Result (RowKey × Row) Refusal
packet_of left = do
  port ← field koid_of left
  number ← field key_of port.1
  name ← next number.1
  held ← (if bytes_eq name.0.bytes (codes "user") then user_of name.1 else signal_of name.1)
  Ok (key.Packet port.0 number.0, rows.Packet held)

unfoldable wait_of : Unread → Result (RowKey × Row) Refusal
wait_of left = do
  number ← field key_of left
  process ← field koid_of number.1
  handle ← field handle_of process.1
  port ← field koid_of handle.1
  under ← field key_of port.1
  signals ← field signals_of under.1
  edge ← flag_of (codes "edge") signals.1.fields
  Ok (key.Wait number.0, rows.Wait (record { process = process.0; handle = handle.0; port = port.0; key = under.0; signals = signals.0; edge = edge }))

unfoldable row_named : List ℕ → Unread → Result (RowKey × Row) Refusal
row_named name left =
    if bytes_eq name (codes "counters") then counters_of left
    else (if bytes_eq name (codes "object") then object_of left
    else (if bytes_eq name (codes "entry") then entry_of left
    else (if bytes_eq name (codes "msg") then message_of left
    else (if bytes_eq name (codes "packet") then packet_of left
    else wait_of left))))

unfoldable row_of : Unread → Result (RowKey × Row) Refusal
row_of left = do
  name ← next left
  row_named name.0.bytes name.1

-- ---- what is shown reads as what it was

handle_read : (n : ℕ) → n < 2 ^ 32 → decimal_of (2 ^ 32 - 1) (decimal n) ≡ Some n
handle_read n small = decimal_read (2 ^ 32 - 1) n (omega (arith, small)) (lit< tt)

key_read : (n : ℕ) → n < 2 ^ 64 → decimal_of (2 ^ 64 - 1) (decimal n) ≡ Some n
key_read n small = decimal_read (2 ^ 64 - 1) n (omega (arith, small)) (lit< tt)

rights_read : (n : ℕ) → n < 2 ^ 32 → rights_of (shown_mask n) ≡ Some (record { 0 = n })
rights_read n small = rw (mask_read n small) refl

kind_read : (what : Kind) → kind_of (kind_word what) ≡ Some what
unfolding kind_of
kind_read kind.Job = refl
kind_read kind.Process = refl
kind_read kind.Channel = refl
kind_read kind.Event = refl
kind_read kind.EventPair = refl
kind_read kind.Port = refl

life_read : (how : Life) → IsLifeWithin how → life_of (shown_life how) ≡ Some how
unfolding life_of
life_read life.Live h = refl
life_read life.Killed h = refl
life_read (life.Exited code) h = rw (code_read code h) refl

critical_read : (job column : ℕ) (none : Bool) → (job == 0) ≡ none → job < 2 ^ 64 → critical_in (placed column (critical_words job)) ≡ Ok job
unfolding placed
critical_read job column true is small = rw is (ap Ok (sym (eqb-true job 0 is)))
critical_read job column false is small = rw (is, key_read job small) refl

edge_read : (edge : Bool) (column : ℕ) → flag_of (codes "edge") (placed column (flag_words (codes "edge") edge)) ≡ Ok edge
unfolding placed
edge_read true column = refl
edge_read false column = refl

any_bytes_read : (bytes : List ℕ) → All IsByte bytes → any_bytes_of (shown_bytes bytes) ≡ Some bytes
unfolding any_bytes_of
any_bytes_read [] are = refl
any_bytes_read (byte ∷ bytes) are =
    let digits = digits_of (byte ∷ bytes) are in
    let dash : bytes_eq (hex_text (byte ∷ bytes)) (codes "-") ≡ false = not_dash (hex_text (byte ∷ bytes)) (omega (arith, digits.twice)) digits.all in
    rw (dash, digits.value) refl

-- ---- lists of what handles hold

free_of_digits : (c : ℕ) → 57 < c → c < 97 → (bs : List ℕ) → list_all is_ascii_digit bs ≡ true → is_free c bs ≡ true
free_of_digits c high low bs all = passing is_ascii_digit c (λ b h. let other : (b == c) ≡ false = grind (arith, nat_tests) in rw other refl) bs all

free_of_hex : (c : ℕ) → 57 < c → c < 97 → (bs : List ℕ) → list_all is_hex_digit bs ≡ true → is_free c bs ≡ true
free_of_hex c high low bs all = passing is_hex_digit c (λ b h. let other : (b == c) ≡ false = grind (arith, nat_tests) in rw other refl) bs all

held_read : (held : Held) → IsHeldWithin held → held_parts (parts_of 58 (shown_held held)) ≡ Some held
held_read held (koid, rights) =
    let digits = free_of_digits 58 (lit< tt) (lit< tt) (decimal held.koid) (decimal_digits held.koid koid) in
    let mask = free_of_hex 58 (lit< tt) (lit< tt) (hexadecimal 8 held.rights.0) (mask_digits_shown held.rights.0 rights) in
    let parts = parts_joined 58 (decimal held.koid) (shown_mask held.rights.0 ∷ []) digits (mask, tt) in
    ap held_parts parts ∙ rw (key_read held.koid koid, mask_read held.rights.0 rights) refl

free_held : (held : Held) → IsHeldWithin held → is_free 44 (shown_held held) ≡ true
free_held held (koid, rights) =
    list_all-append (λ byte. not (byte == 44)) (decimal held.koid) (58 ∷ shown_mask held.rights.0)
    ∙ rw (free_digits 44 (lit< tt) (decimal held.koid) (decimal_digits held.koid koid), free_hex 44 (lit< tt) (hexadecimal 8 held.rights.0) (mask_digits_shown held.rights.0 rights)) refl

each_free : (handles : List Held) → All IsHeldWithin handles → AreFree 44 (map shown_held handles)
each_free [] are = tt
each_free (h ∷ hs) are = (free_held h (All-head IsHeldWithin h hs are), each_free hs (All-tail IsHeldWithin h hs are))

each_read : (handles : List Held) → All IsHeldWithin handles → each_held (map shown_held handles) ≡ Some handles
each_read [] are = refl
each_read (h ∷ hs) are = rw (held_read h (All-head IsHeldWithin h hs are), each_read hs (All-tail IsHeldWithin h hs are)) refl

no_dash_held : (h : Held) (hs : List Held) → IsHeldWithin h → bytes_eq (join_with_byte 44 (map shown_held (h ∷ hs))) (codes "-") ≡ false
no_dash_held h [] (koid, rights) =
    let numeral = decimal_is_IsNumeral h.koid koid in
    no_dash (decimal h.koid) (58 ∷ shown_mask h.rights.0) numeral.0.0 (decimal_digits h.koid koid)
no_dash_held h (g ∷ hs) (koid, rights) =
    let numeral = decimal_is_IsNumeral h.koid koid in
    rw (append_assoc (decimal h.koid) (58 ∷ shown_mask h.rights.0) (44 ∷ join_with_byte 44 (map shown_held (g ∷ hs))))
    (no_dash (decimal h.koid) (58 ∷ (shown_mask h.rights.0 ++ (44 ∷ join_with_byte 44 (map shown_held (g ∷ hs))))) numeral.0.0 (decimal_digits h.koid koid))

all_held_read : (handles : List Held) → All IsHeldWithin handles → all_held_of (shown_list shown_held handles) ≡ Some handles
unfolding all_held_of
all_held_read [] are = refl
all_held_read (h ∷ hs) are =
    let free = each_free (h ∷ hs) are in
    let parts = parts_joined 44 (shown_held h) (map shown_held hs) free.0 free.1 in
    rw (no_dash_held h hs (All-head IsHeldWithin h hs are)) (ap each_held parts ∙ each_read (h ∷ hs) are)

-- ---- lines

packet_read : (held : Packet) → IsPacketWithin held → (port number column behind : ℕ) → port < 2 ^ 64 → number < 2 ^ 64
    → row_of (record { fields = placed column (line_words (key.Packet port number) (rows.Packet held)); behind = behind }) ≡ Ok (key.Packet port number, rows.Packet held)
unfolding placed field user_of signal_of packet_of row_named row_of
packet_read (packet.User n bytes) (a, b) port number column behind p q =
    rw (key_read port p, key_read number q, key_read n a, any_bytes_read bytes b) refl
packet_read (packet.Signal n trigger observed process handle) (a, b, c, d, e) port number column behind p q =
    rw (key_read port p, key_read number q, key_read n a, mask_read trigger.0 b, mask_read observed.0 c, key_read process d, handle_read handle e) refl

row_read : (k : RowKey) (r : Row) → suits k r ≡ true → IsKeyWithin k → IsRowWithin r → (column behind : ℕ)
    → row_of (record { fields = placed column (line_words k r); behind = behind }) ≡ Ok (k, r)
unfolding placed field counters_of object_of entry_of message_of wait_of row_named row_of
row_read key.Counters (rows.Counters counters) fits of_key (a, b) column behind =
    rw (key_read counters.next_koid a, key_read counters.next_wait b) refl
row_read (key.Object koid) (rows.Object object) fits of_key (a, b, c, d, e) column behind =
    let critical : (at : ℕ) → critical_in (placed at (critical_words object.critical)) ≡ Ok object.critical = λ at. critical_read object.critical at (object.critical == 0) refl e in
    rw (key_read koid of_key, kind_read object.kind, mask_read object.signals.0 a, key_read object.link b, life_read object.life c, key_read object.next d, critical) refl
row_read (key.Entry process handle) (rows.Entry held) fits (p, q) (a, b) column behind =
    rw (key_read process p, handle_read handle q, key_read held.koid a, rights_read held.rights.0 b) refl
row_read (key.Msg endpoint number) (rows.Msg message) fits (p, q) (a, b) column behind =
    rw (key_read endpoint p, key_read number q, any_bytes_read message.bytes a, all_held_read message.handles b) refl
row_read (key.Packet port number) (rows.Packet held) fits (p, q) of_row column behind = packet_read held of_row port number column behind p q
row_read (key.Wait number) (rows.Wait wait) fits of_key (a, b, c, d, e) column behind =
    let edge : (at : ℕ) → flag_of (codes "edge") (placed at (flag_words (codes "edge") wait.edge)) ≡ Ok wait.edge = λ at. edge_read wait.edge at in
    rw (key_read number of_key, key_read wait.process a, handle_read wait.handle b, key_read wait.port c, key_read wait.key d, mask_read wait.signals.0 e, edge) refl
row_read _ _ fits of_key of_row column behind = cc fits

-- the line of a row is one line, whose fields are its words
row_line_is : (k : RowKey) (r : Row) → IsKeyWithin k → IsRowWithin r → lines_of (row_line (k, r)) ≡ words (line_words k r) ∷ []
row_line_is k r of_key of_row =
    ap (λ text. lines_of (text ++ (10 ∷ []))) (line_shown k r)
    ∙ line_written (words (line_words k r)) [] (line_free (line_words k r) (line_seen k r of_key of_row))

row_line_read : (k : RowKey) (r : Row) → suits k r ≡ true → IsKeyWithin k → IsRowWithin r → row_of (unread (words (line_words k r))) ≡ Ok (k, r)
row_line_read k r fits of_key of_row =
    let seen = line_seen k r of_key of_row in
    let others : List (List ℕ) = key_numbers k ++ (row_word r ∷ row_words r) in
    let fields : fields_of (words (line_words k r)) ≡ line_words k r =
    parts_joined 32 (key_word k) others (free_seen 32 (lit≤ tt) (key_word k) seen.0) (all_free others seen.1) in
    rw fields (row_read k r fits of_key of_row 1 _)

one_read : (read : Result (RowKey × Row) Refusal) (x y : RowKey × Row) → read ≡ Ok x → read ≡ Ok y → x ≡ y
one_read read x y first second = cc

same_read : (read : Result (RowKey × Row) Refusal) (k j : RowKey) (r s : Row) → read ≡ Ok (k, r) → read ≡ Ok (j, s) → (k ≡ j) × (r ≡ s)
same_read read k j r s first second =
    let pair = one_read read (k, r) (j, s) first second in
    (ap (λ (x : RowKey × Row). x.0) pair, ap (λ (x : RowKey × Row). x.1) pair)

same_row : (k j : RowKey) (r s : Row) (x y : List ℕ) → row_of (unread x) ≡ Ok (k, r) → row_of (unread y) ≡ Ok (j, s) → x ∷ [] ≡ y ∷ [] → (k ≡ j) × (r ≡ s)
same_row k j r s x y first second same =
    let text : x ≡ y = cc in
    same_read (row_of (unread x)) k j r s first (ap (λ t. row_of (unread t)) text ∙ second)

-- two rows have two lines
pub row_lines_differ : (k j : RowKey) (r s : Row) → suits k r ≡ true → suits j s ≡ true → IsKeyWithin k → IsKeyWithin j → IsRowWithin r → IsRowWithin s
    → row_line (k, r) ≡ row_line (j, s) → (k ≡ j) × (r ≡ s)
row_lines_differ k j r s fits fits_too of_k of_j of_r of_s same =
    same_row k j r s (words (line_words k r)) (words (line_words j s)) (row_line_read k r fits of_k of_r) (row_line_read j s fits_too of_j of_s)
    (sym (row_line_is k r of_k of_r) ∙ ap lines_of same ∙ row_line_is j s of_j of_s)
