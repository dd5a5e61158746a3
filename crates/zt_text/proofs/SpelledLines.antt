-- A line that reads as something is spelled as that is shown: field by field from the left, where the first words tell
-- the fields that are wanted behind them.
use Rattle.std.proofs.Common.{lit<, ◌≡◌, ℕ, ◌+◌, ◌-◌, ◌^◌, Bool, true, false, List, [], ◌∷◌, Option, Some, None, Result, Ok, Err, ℤ, refl, sym, ap, ◌∙◌, subst}
use Rattle.std.specs.Prelude.{codes, ok_or, nat_lt, length, if◌then◌else◌}
use Rattle.std.specs.Fmt.{decimal, signed_decimal}
use Rattle.std.specs.Str.{bytes_eq}
use Rattle.std.proofs.lemmas.List.Splits.{join_with_byte-slice_split}
use Rattle.std.proofs.lemmas.Slice.Eq.{bytes_eq-Decides}
use Rattle.zt_bits.specs.declared.signal_bits.Signals.{Signals}
use Rattle.zt_rows.specs.declared.refusals.Refusal.{Refusal}
use Rattle.zt_rows.specs.declared.refusals.Refusal.TheVariants.{BadLine, LineTooLong}
use Rattle.zt_rows.specs.declared.calls.Call.{Call}
use Rattle.zt_rows.specs.declared.calls.Call.TheVariants as calls
use Rattle.zt_rows.specs.declared.calls.Command.{Command}
use Rattle.zt_rows.specs.declared.calls.Command.TheVariants as commands
use Rattle.zt_rows.specs.declared.calls.Happening.{Happening}
use Rattle.zt_text.specs.declared.read_lines.Line.{Line}
use Rattle.zt_text.specs.declared.read_lines.Line.TheVariants as line
use Rattle.zt_text.specs.Numbers.{process_of, key_of, handle_of, count_of, mask_of, signals_of, code_of}
use Rattle.zt_text.specs.Bytes.{bytes_of, packet_bytes_of}
use Rattle.zt_text.specs.Lists.{handles_of}
use Rattle.zt_text.specs.Names.{name_of, happening_of}
use Rattle.zt_text.specs.Fields.{Placed, Unread, ◌>>=◌, placed, fields_of, unread, first_of, field, none_of, ended, flag_of, flag}
use Rattle.zt_text.specs.ReadCalls.{event_create, eventpair_create, handle_close, handle_duplicate, handle_replace, object_signal, object_signal_peer, channel_create, channel_write, channel_read, port_create, object_wait_async, port_queue, port_wait, port_cancel, job_create, spawn, job_set_critical, task_kill, process_exit, task_call_named, port_call_named, channel_call_named, handle_call_named, call_named, any_call_named, call, process_call}
use Rattle.zt_text.specs.ReadLines.{goto, back, only_name, branch, follow, show, holders, leaks, when, pin, question_named, plain_command_named, command_named, pinned_show, pinned_holders, pinned_leaks, pinned_named, pinned, word_named, call_or_word, asked_by, most_line_bytes, is_skipped, fields_in, each_by, read_as}
use Rattle.zt_text.specs.ShownNumbers.{words, shown_mask, shown_bytes, shown_list}
use Rattle.zt_text.specs.Calls.{call_name, call_arguments, flag_words, shown_call}
use Rattle.zt_text.specs.Session.{call_in}
use Rattle.zt_text.specs.Spellings.{happening_word, command_words, line_words}
use Rattle.zt_text.proofs.SpelledFields.{some_same, decimal_spelled, count_spelled, name_spelled, happening_spelled, code_spelled, mask_spelled, signals_spelled, bytes_spelled, packet_bytes_spelled, handles_spelled}

-- ---- results

pub same_ok : {A E : Type 0} (a b : A) (r : Result A E) → r ≡ Ok a → r ≡ Ok b → a ≡ b
same_ok a b r one other = cc

pub err_ok : {A E : Type 0} (e : E) (a : A) → Err e ≡ Ok a → ⊥
err_ok e a h = cc

-- what gave the value that a result was made of
pub value_of : {A B : Type 0} (r : Result A Refusal) (make : A → B) (made : B) → (r >>= λ a. Ok (make a)) ≡ Ok made → (a : A) × (r ≡ Ok a) × (make a ≡ made)
value_of (Ok a) make made h = (a, refl, same_ok (make a) made (Ok (make a)) refl h)
value_of (Err e) make made h = absurd (err_ok e made h)

-- ---- fields

-- a form, with what shows the values that it reads
pub record Form (A : Type 0) : Type 0 where
  pub read : List ℕ → Option A
  pub shows : A → List ℕ
  pub spelled : (word : List ℕ) (value : A) → read word ≡ Some value → word ≡ shows value

abbrev pub handle_form : Form ℕ
handle_form = record { read = handle_of; shows = decimal; spelled = decimal_spelled (2 ^ 32 - 1) (lit< tt) }

abbrev key_form : Form ℕ
key_form = record { read = key_of; shows = decimal; spelled = decimal_spelled (2 ^ 64 - 1) (lit< tt) }

abbrev code_form : Form ℤ
code_form = record { read = code_of; shows = signed_decimal; spelled = code_spelled }

abbrev mask_form : Form ℕ
mask_form = record { read = mask_of; shows = shown_mask; spelled = mask_spelled }

abbrev signals_form : Form Signals
signals_form = record { read = signals_of; shows = λ s. shown_mask s.0; spelled = signals_spelled }

abbrev bytes_form : Form (List ℕ)
bytes_form = record { read = bytes_of; shows = shown_bytes; spelled = bytes_spelled }

abbrev packet_form : Form (List ℕ)
packet_form = record { read = packet_bytes_of; shows = shown_bytes; spelled = packet_bytes_spelled }

abbrev handles_form : Form (List ℕ)
handles_form = record { read = handles_of; shows = shown_list decimal; spelled = handles_spelled }

abbrev count_form : Form ℕ
count_form = record { read = count_of; shows = decimal; spelled = count_spelled }

abbrev pub name_form : Form (List ℕ)
name_form = record { read = name_of; shows = λ name. name; spelled = name_spelled }

abbrev happening_form : Form Happening
happening_form = record { read = happening_of; shows = happening_word; spelled = happening_spelled }

-- the bytes of fields
abbrev pub texts : List Placed → List (List ℕ)
texts [] = []
texts (first ∷ others) = first.bytes ∷ texts others

pub texts_placed : (column : ℕ) (fields : List (List ℕ)) → texts (placed column fields) ≡ fields
unfolding placed
texts_placed column [] = refl
texts_placed column (first ∷ others) = ap (λ ws. first ∷ ws) (texts_placed (column + length first + 1) others)

abbrev value_at : {A : Type 0} → Option A → ℕ → Unread → Result (A × Unread) Refusal
value_at o column rest = do
  value ← ok_or o (BadLine column)
  Ok (value, rest)

abbrev field_at : {A : Type 0} → (List ℕ → Option A) → List Placed → ℕ → Result (A × Unread) Refusal
field_at form fields behind = do
  first ← first_of fields behind
  value_at (form first.0.bytes) first.0.column first.1

value_then : {A B : Type 0} (form : Form A) (word : List ℕ) (column : ℕ) (rest : Unread) (o : Option A) → form.read word ≡ o
    → (others : A × Unread → Result B Refusal) (made : B) → (value_at o column rest >>= others) ≡ Ok made
    → (value : A) × (left : Unread) × (word ∷ texts rest.fields ≡ form.shows value ∷ texts left.fields) × (others (value, left) ≡ Ok made)
value_then form word column rest None is others made h = absurd (err_ok (BadLine column) made h)
value_then form word column rest (Some a) is others made h = (a, rest, ap (λ w. w ∷ texts rest.fields) (form.spelled word a is), h)

first_then : {A B : Type 0} (form : Form A) (fields : List Placed) (behind : ℕ) (others : A × Unread → Result B Refusal) (made : B)
    → (field_at form.read fields behind >>= others) ≡ Ok made
    → (value : A) × (left : Unread) × (texts fields ≡ form.shows value ∷ texts left.fields) × (others (value, left) ≡ Ok made)
first_then form [] behind others made h = absurd (err_ok (BadLine behind) made h)
first_then form (x ∷ xs) behind others made h =
    value_then form x.bytes x.column (record { fields = xs; behind = behind }) (form.read x.bytes) refl others made h

-- where something is read behind a field, the field shows its value
pub field_then : {A B : Type 0} (form : Form A) (left : Unread) (others : A × Unread → Result B Refusal) (made : B)
    → (field form.read left >>= others) ≡ Ok made
    → (value : A) × (rest : Unread) × (texts left.fields ≡ form.shows value ∷ texts rest.fields) × (others (value, rest) ≡ Ok made)
unfolding field
field_then form left others made h = first_then form left.fields left.behind others made h

nothing_then : {B : Type 0} (fields : List Placed) (value made : B) → (none_of fields >>= λ _. Ok value) ≡ Ok made → (value ≡ made) × (texts fields ≡ [])
nothing_then [] value made h = (same_ok value made (Ok value) refl h, refl)
nothing_then (x ∷ xs) value made h = absurd (err_ok (BadLine x.column) made h)

-- at the end there are no fields
end_then : {B : Type 0} (left : Unread) (value made : B) → (ended left >>= λ _. Ok value) ≡ Ok made → (value ≡ made) × (texts left.fields ≡ [])
unfolding ended
end_then left value made h = nothing_then left.fields value made h

flag_word : {B : Type 0} (name : List ℕ) (make : Bool → B) (word : List ℕ) (column : ℕ) (fields : List Placed) (is_word : Bool) (made : B) → bytes_eq word name ≡ is_word
    → ((if is_word then (none_of fields >>= λ _. Ok true) else Err (BadLine column)) >>= λ stands. Ok (make stands)) ≡ Ok made
    → (stands : Bool) × (make stands ≡ made) × (word ∷ texts fields ≡ flag_words name stands)
flag_word name make word column fields false made is h = absurd (err_ok (BadLine column) made h)
flag_word name make word column [] true made is h =
    (true, same_ok (make true) made (Ok (make true)) refl h, ap (λ w. w ∷ []) ((bytes_eq-Decides word name).0 is))
flag_word name make word column (x ∷ xs) true made is h = absurd (err_ok (BadLine x.column) made h)

flag_in : {B : Type 0} (name : List ℕ) (make : Bool → B) (fields : List Placed) (made : B) → (flag_of name fields >>= λ stands. Ok (make stands)) ≡ Ok made
    → (stands : Bool) × (make stands ≡ made) × (texts fields ≡ flag_words name stands)
flag_in name make [] made h = (false, same_ok (make false) made (Ok (make false)) refl h, refl)
flag_in name make (x ∷ xs) made h = flag_word name make x.bytes x.column xs (bytes_eq x.bytes name) made refl h

-- the word at the end stands there or is left out
flag_then : {B : Type 0} (name : List ℕ) (make : Bool → B) (left : Unread) (made : B) → (flag name left >>= λ stands. Ok (make stands)) ≡ Ok made
    → (stands : Bool) × (make stands ≡ made) × (texts left.fields ≡ flag_words name stands)
unfolding flag
flag_then name make left made h = flag_in name make left.fields made h

-- ---- as many fields as a call has

abbrev reads_one : {A B : Type 0} → Form A → (A → B) → Unread → Result B Refusal
reads_one first make left = do
  a ← field first.read left
  _ ← ended a.1
  Ok (make a.0)

abbrev reads_two : {A B C : Type 0} → Form A → Form B → (A → B → C) → Unread → Result C Refusal
reads_two first second make left = do
  a ← field first.read left
  reads_one second (make a.0) a.1

abbrev reads_three : {A B C D : Type 0} → Form A → Form B → Form C → (A → B → C → D) → Unread → Result D Refusal
reads_three first second third make left = do
  a ← field first.read left
  reads_two second third (make a.0) a.1

abbrev reads_flag : {B : Type 0} → List ℕ → (Bool → B) → Unread → Result B Refusal
reads_flag name make left = do
  stands ← flag name left
  Ok (make stands)

abbrev reads_one_flag : {A B : Type 0} → List ℕ → Form A → (A → Bool → B) → Unread → Result B Refusal
reads_one_flag name first make left = do
  a ← field first.read left
  reads_flag name (make a.0) a.1

abbrev reads_two_flag : {A B C : Type 0} → List ℕ → Form A → Form B → (A → B → Bool → C) → Unread → Result C Refusal
reads_two_flag name first second make left = do
  a ← field first.read left
  reads_one_flag name second (make a.0) a.1

abbrev reads_three_flag : {A B C D : Type 0} → List ℕ → Form A → Form B → Form C → (A → B → C → Bool → D) → Unread → Result D Refusal
reads_three_flag name first second third make left = do
  a ← field first.read left
  reads_two_flag name second third (make a.0) a.1

abbrev reads_four_flag : {A B C D E : Type 0} → List ℕ → Form A → Form B → Form C → Form D → (A → B → C → D → Bool → E) → Unread → Result E Refusal
reads_four_flag name first second third fourth make left = do
  a ← field first.read left
  reads_three_flag name second third fourth (make a.0) a.1

one_read : {A B : Type 0} (first : Form A) (make : A → B) (left : Unread) (made : B) → reads_one first make left ≡ Ok made
    → (a : A) × (make a ≡ made) × (texts left.fields ≡ first.shows a ∷ [])
one_read first make left made h =
    let read = field_then first left (λ x. ended x.1 >>= λ _. Ok (make x.0)) made h in
    let others = end_then read.1 (make read.0) made read.3 in
    (read.0, others.0, read.2 ∙ ap (λ ws. first.shows read.0 ∷ ws) others.1)

two_read : {A B C : Type 0} (first : Form A) (second : Form B) (make : A → B → C) (left : Unread) (made : C) → reads_two first second make left ≡ Ok made
    → (a : A) × (b : B) × (make a b ≡ made) × (texts left.fields ≡ first.shows a ∷ second.shows b ∷ [])
two_read first second make left made h =
    let read = field_then first left (λ x. reads_one second (make x.0) x.1) made h in
    let others = one_read second (make read.0) read.1 made read.3 in
    (read.0, others.0, others.1, read.2 ∙ ap (λ ws. first.shows read.0 ∷ ws) others.2)

three_read : {A B C D : Type 0} (first : Form A) (second : Form B) (third : Form C) (make : A → B → C → D) (left : Unread) (made : D) → reads_three first second third make left ≡ Ok made
    → (a : A) × (b : B) × (c : C) × (make a b c ≡ made) × (texts left.fields ≡ first.shows a ∷ second.shows b ∷ third.shows c ∷ [])
three_read first second third make left made h =
    let read = field_then first left (λ x. reads_two second third (make x.0) x.1) made h in
    let others = two_read second third (make read.0) read.1 made read.3 in
    (read.0, others.0, others.1, others.2, read.2 ∙ ap (λ ws. first.shows read.0 ∷ ws) others.3)

one_flag_read : {A B : Type 0} (name : List ℕ) (first : Form A) (make : A → Bool → B) (left : Unread) (made : B) → reads_one_flag name first make left ≡ Ok made
    → (a : A) × (d : Bool) × (make a d ≡ made) × (texts left.fields ≡ first.shows a ∷ flag_words name d)
one_flag_read name first make left made h =
    let read = field_then first left (λ x. reads_flag name (make x.0) x.1) made h in
    let others = flag_then name (make read.0) read.1 made read.3 in
    (read.0, others.0, others.1, read.2 ∙ ap (λ ws. first.shows read.0 ∷ ws) others.2)

two_flag_read : {A B C : Type 0} (name : List ℕ) (first : Form A) (second : Form B) (make : A → B → Bool → C) (left : Unread) (made : C) → reads_two_flag name first second make left ≡ Ok made
    → (a : A) × (b : B) × (d : Bool) × (make a b d ≡ made) × (texts left.fields ≡ first.shows a ∷ second.shows b ∷ flag_words name d)
two_flag_read name first second make left made h =
    let read = field_then first left (λ x. reads_one_flag name second (make x.0) x.1) made h in
    let others = one_flag_read name second (make read.0) read.1 made read.3 in
    (read.0, others.0, others.1, others.2, read.2 ∙ ap (λ ws. first.shows read.0 ∷ ws) others.3)

three_flag_read : {A B C D : Type 0} (name : List ℕ) (first : Form A) (second : Form B) (third : Form C) (make : A → B → C → Bool → D) (left : Unread) (made : D)
    → reads_three_flag name first second third make left ≡ Ok made
    → (a : A) × (b : B) × (c : C) × (d : Bool) × (make a b c d ≡ made) × (texts left.fields ≡ first.shows a ∷ second.shows b ∷ third.shows c ∷ flag_words name d)
three_flag_read name first second third make left made h =
    let read = field_then first left (λ x. reads_two_flag name second third (make x.0) x.1) made h in
    let others = two_flag_read name second third (make read.0) read.1 made read.3 in
    (read.0, others.0, others.1, others.2, others.3, read.2 ∙ ap (λ ws. first.shows read.0 ∷ ws) others.4)

four_flag_read : {A B C D E : Type 0} (name : List ℕ) (first : Form A) (second : Form B) (third : Form C) (fourth : Form D) (make : A → B → C → D → Bool → E) (left : Unread) (made : E)
    → reads_four_flag name first second third fourth make left ≡ Ok made
    → (a : A) × (b : B) × (c : C) × (d : D) × (s : Bool) × (make a b c d s ≡ made)
    × (texts left.fields ≡ first.shows a ∷ second.shows b ∷ third.shows c ∷ fourth.shows d ∷ flag_words name s)
four_flag_read name first second third fourth make left made h =
    let read = field_then first left (λ x. reads_three_flag name second third fourth (make x.0) x.1) made h in
    let others = three_flag_read name second third fourth (make read.0) read.1 made read.3 in
    (read.0, others.0, others.1, others.2, others.3, others.4, read.2 ∙ ap (λ ws. first.shows read.0 ∷ ws) others.5)

-- ---- what is made of them

abbrev pub Words : Type 0
Words = List (List ℕ)

spelled_as : {T : Type 0} (show_words : T → Words) (put : Words → Words) (fields arguments : Words) (value made : T) → value ≡ made → fields ≡ arguments
    → show_words value ≡ put arguments → show_words made ≡ put fields
spelled_as show_words put fields arguments value made same written shown = ap show_words (sym same) ∙ shown ∙ ap put (sym written)

no_field : {T : Type 0} (show_words : T → Words) (put : Words → Words) (value : T) → show_words value ≡ put []
    → (left : Unread) (made : T) → (ended left >>= λ _. Ok value) ≡ Ok made → show_words made ≡ put (texts left.fields)
no_field show_words put value shown left made h =
    let t = end_then left value made h in
    spelled_as show_words put (texts left.fields) [] value made t.0 t.1 shown

pub one_field : {A T : Type 0} (show_words : T → Words) (put : Words → Words) (first : Form A) (make : A → T) → ((a : A) → show_words (make a) ≡ put (first.shows a ∷ []))
    → (left : Unread) (made : T) → reads_one first make left ≡ Ok made → show_words made ≡ put (texts left.fields)
one_field show_words put first make shown left made h =
    let t = one_read first make left made h in
    spelled_as show_words put (texts left.fields) (first.shows t.0 ∷ []) (make t.0) made t.1 t.2 (shown t.0)

pub two_fields : {A B T : Type 0} (show_words : T → Words) (put : Words → Words) (first : Form A) (second : Form B) (make : A → B → T)
    → ((a : A) (b : B) → show_words (make a b) ≡ put (first.shows a ∷ second.shows b ∷ []))
    → (left : Unread) (made : T) → reads_two first second make left ≡ Ok made → show_words made ≡ put (texts left.fields)
two_fields show_words put first second make shown left made h =
    let t = two_read first second make left made h in
    spelled_as show_words put (texts left.fields) (first.shows t.0 ∷ second.shows t.1 ∷ []) (make t.0 t.1) made t.2 t.3 (shown t.0 t.1)

three_fields : {A B C T : Type 0} (show_words : T → Words) (put : Words → Words) (first : Form A) (second : Form B) (third : Form C) (make : A → B → C → T)
    → ((a : A) (b : B) (c : C) → show_words (make a b c) ≡ put (first.shows a ∷ second.shows b ∷ third.shows c ∷ []))
    → (left : Unread) (made : T) → reads_three first second third make left ≡ Ok made → show_words made ≡ put (texts left.fields)
three_fields show_words put first second third make shown left made h =
    let t = three_read first second third make left made h in
    spelled_as show_words put (texts left.fields) (first.shows t.0 ∷ second.shows t.1 ∷ third.shows t.2 ∷ []) (make t.0 t.1 t.2) made t.3 t.4 (shown t.0 t.1 t.2)

three_and_flag : {A B C T : Type 0} (show_words : T → Words) (put : Words → Words) (name : List ℕ) (first : Form A) (second : Form B) (third : Form C) (make : A → B → C → Bool → T)
    → ((a : A) (b : B) (c : C) (s : Bool) → show_words (make a b c s) ≡ put (first.shows a ∷ second.shows b ∷ third.shows c ∷ flag_words name s))
    → (left : Unread) (made : T) → reads_three_flag name first second third make left ≡ Ok made → show_words made ≡ put (texts left.fields)
three_and_flag show_words put name first second third make shown left made h =
    let t = three_flag_read name first second third make left made h in
    spelled_as show_words put (texts left.fields) (first.shows t.0 ∷ second.shows t.1 ∷ third.shows t.2 ∷ flag_words name t.3) (make t.0 t.1 t.2 t.3) made t.4 t.5
    (shown t.0 t.1 t.2 t.3)

four_and_flag : {A B C D T : Type 0} (show_words : T → Words) (put : Words → Words) (name : List ℕ) (first : Form A) (second : Form B) (third : Form C) (fourth : Form D) (make : A → B → C → D → Bool → T)
    → ((a : A) (b : B) (c : C) (d : D) (s : Bool) → show_words (make a b c d s) ≡ put (first.shows a ∷ second.shows b ∷ third.shows c ∷ fourth.shows d ∷ flag_words name s))
    → (left : Unread) (made : T) → reads_four_flag name first second third fourth make left ≡ Ok made → show_words made ≡ put (texts left.fields)
four_and_flag show_words put name first second third fourth make shown left made h =
    let t = four_flag_read name first second third fourth make left made h in
    spelled_as show_words put (texts left.fields) (first.shows t.0 ∷ second.shows t.1 ∷ third.shows t.2 ∷ fourth.shows t.3 ∷ flag_words name t.4) (make t.0 t.1 t.2 t.3 t.4) made t.5 t.6
    (shown t.0 t.1 t.2 t.3 t.4)

-- what a name tells
named_if : {T : Type 0} (Spells : List ℕ → Type 0) (b : Bool) (word name : List ℕ) (x y : Result T Refusal) (made : T) → bytes_eq word name ≡ b
    → (x ≡ Ok made → Spells name) → (y ≡ Ok made → Spells word) → (if b then x else y) ≡ Ok made → Spells word
named_if Spells true word name x y made is this other h = subst Spells (sym ((bytes_eq-Decides word name).0 is)) (this h)
named_if Spells false word name x y made is this other h = other h

pub named : {T : Type 0} (Spells : List ℕ → Type 0) (word name : List ℕ) (x y : Result T Refusal) (made : T)
    → (x ≡ Ok made → Spells name) → (y ≡ Ok made → Spells word) → (if bytes_eq word name then x else y) ≡ Ok made → Spells word
named Spells word name x y made this other h = named_if Spells (bytes_eq word name) word name x y made refl this other h

-- ---- each call

abbrev pub call_words : Call → Words
call_words made = call_name made ∷ call_arguments made

event_create_spelled : (left : Unread) (made : Call) → event_create left ≡ Ok made → call_words made ≡ codes "event_create" ∷ texts left.fields
unfolding event_create
event_create_spelled left made h = no_field call_words (λ ws. codes "event_create" ∷ ws) calls.EventCreate refl left made h

eventpair_create_spelled : (left : Unread) (made : Call) → eventpair_create left ≡ Ok made → call_words made ≡ codes "eventpair_create" ∷ texts left.fields
unfolding eventpair_create
eventpair_create_spelled left made h = no_field call_words (λ ws. codes "eventpair_create" ∷ ws) calls.EventPairCreate refl left made h

channel_create_spelled : (left : Unread) (made : Call) → channel_create left ≡ Ok made → call_words made ≡ codes "channel_create" ∷ texts left.fields
unfolding channel_create
channel_create_spelled left made h = no_field call_words (λ ws. codes "channel_create" ∷ ws) calls.ChannelCreate refl left made h

port_create_spelled : (left : Unread) (made : Call) → port_create left ≡ Ok made → call_words made ≡ codes "port_create" ∷ texts left.fields
unfolding port_create
port_create_spelled left made h = no_field call_words (λ ws. codes "port_create" ∷ ws) calls.PortCreate refl left made h

handle_close_spelled : (left : Unread) (made : Call) → handle_close left ≡ Ok made → call_words made ≡ codes "handle_close" ∷ texts left.fields
unfolding handle_close
handle_close_spelled left made h = one_field call_words (λ ws. codes "handle_close" ∷ ws) handle_form calls.HandleClose (λ a. refl) left made h

port_wait_spelled : (left : Unread) (made : Call) → port_wait left ≡ Ok made → call_words made ≡ codes "port_wait" ∷ texts left.fields
unfolding port_wait
port_wait_spelled left made h = one_field call_words (λ ws. codes "port_wait" ∷ ws) handle_form calls.PortWait (λ a. refl) left made h

job_create_spelled : (left : Unread) (made : Call) → job_create left ≡ Ok made → call_words made ≡ codes "job_create" ∷ texts left.fields
unfolding job_create
job_create_spelled left made h = one_field call_words (λ ws. codes "job_create" ∷ ws) handle_form calls.JobCreate (λ a. refl) left made h

task_kill_spelled : (left : Unread) (made : Call) → task_kill left ≡ Ok made → call_words made ≡ codes "task_kill" ∷ texts left.fields
unfolding task_kill
task_kill_spelled left made h = one_field call_words (λ ws. codes "task_kill" ∷ ws) handle_form calls.TaskKill (λ a. refl) left made h

process_exit_spelled : (left : Unread) (made : Call) → process_exit left ≡ Ok made → call_words made ≡ codes "process_exit" ∷ texts left.fields
unfolding process_exit
process_exit_spelled left made h = one_field call_words (λ ws. codes "process_exit" ∷ ws) code_form calls.ProcessExit (λ a. refl) left made h

handle_duplicate_spelled : (left : Unread) (made : Call) → handle_duplicate left ≡ Ok made → call_words made ≡ codes "handle_duplicate" ∷ texts left.fields
unfolding handle_duplicate
handle_duplicate_spelled left made h = two_fields call_words (λ ws. codes "handle_duplicate" ∷ ws) handle_form mask_form calls.HandleDuplicate (λ a b. refl) left made h

handle_replace_spelled : (left : Unread) (made : Call) → handle_replace left ≡ Ok made → call_words made ≡ codes "handle_replace" ∷ texts left.fields
unfolding handle_replace
handle_replace_spelled left made h = two_fields call_words (λ ws. codes "handle_replace" ∷ ws) handle_form mask_form calls.HandleReplace (λ a b. refl) left made h

spawn_spelled : (left : Unread) (made : Call) → spawn left ≡ Ok made → call_words made ≡ codes "spawn" ∷ texts left.fields
unfolding spawn
spawn_spelled left made h = two_fields call_words (λ ws. codes "spawn" ∷ ws) handle_form handle_form calls.Spawn (λ a b. refl) left made h

job_set_critical_spelled : (left : Unread) (made : Call) → job_set_critical left ≡ Ok made → call_words made ≡ codes "job_set_critical" ∷ texts left.fields
unfolding job_set_critical
job_set_critical_spelled left made h = two_fields call_words (λ ws. codes "job_set_critical" ∷ ws) handle_form handle_form calls.JobSetCritical (λ a b. refl) left made h

object_signal_spelled : (left : Unread) (made : Call) → object_signal left ≡ Ok made → call_words made ≡ codes "object_signal" ∷ texts left.fields
unfolding object_signal
object_signal_spelled left made h = three_fields call_words (λ ws. codes "object_signal" ∷ ws) handle_form signals_form signals_form calls.ObjectSignal (λ a b c. refl) left made h

object_signal_peer_spelled : (left : Unread) (made : Call) → object_signal_peer left ≡ Ok made → call_words made ≡ codes "object_signal_peer" ∷ texts left.fields
unfolding object_signal_peer
object_signal_peer_spelled left made h = three_fields call_words (λ ws. codes "object_signal_peer" ∷ ws) handle_form signals_form signals_form calls.ObjectSignalPeer (λ a b c. refl) left made h

abbrev write_of : ℕ → List ℕ → List ℕ → Call
write_of handle bytes handles = calls.ChannelWrite handle (record { bytes = bytes; handles = handles })

channel_write_spelled : (left : Unread) (made : Call) → channel_write left ≡ Ok made → call_words made ≡ codes "channel_write" ∷ texts left.fields
unfolding channel_write
channel_write_spelled left made h = three_fields call_words (λ ws. codes "channel_write" ∷ ws) handle_form bytes_form handles_form write_of (λ a b c. refl) left made h

port_queue_spelled : (left : Unread) (made : Call) → port_queue left ≡ Ok made → call_words made ≡ codes "port_queue" ∷ texts left.fields
unfolding port_queue
port_queue_spelled left made h = three_fields call_words (λ ws. codes "port_queue" ∷ ws) handle_form key_form packet_form calls.PortQueue (λ a b c. refl) left made h

port_cancel_spelled : (left : Unread) (made : Call) → port_cancel left ≡ Ok made → call_words made ≡ codes "port_cancel" ∷ texts left.fields
unfolding port_cancel
port_cancel_spelled left made h = three_fields call_words (λ ws. codes "port_cancel" ∷ ws) handle_form handle_form key_form calls.PortCancel (λ a b c. refl) left made h

object_wait_async_spelled : (left : Unread) (made : Call) → object_wait_async left ≡ Ok made → call_words made ≡ codes "object_wait_async" ∷ texts left.fields
unfolding object_wait_async
object_wait_async_spelled left made h = four_and_flag call_words (λ ws. codes "object_wait_async" ∷ ws) (codes "edge") handle_form handle_form key_form signals_form calls.ObjectWaitAsync (λ a b c d s. refl) left made h

channel_read_spelled : (left : Unread) (made : Call) → channel_read left ≡ Ok made → call_words made ≡ codes "channel_read" ∷ texts left.fields
unfolding channel_read
channel_read_spelled left made h = three_and_flag call_words (λ ws. codes "channel_read" ∷ ws) (codes "discard") handle_form handle_form handle_form calls.ChannelRead (λ a b c s. refl) left made h

task_call_named_spelled : (name : Placed) (left : Unread) (made : Call) → task_call_named name left ≡ Ok made → call_words made ≡ name.bytes ∷ texts left.fields
unfolding task_call_named
task_call_named_spelled name left made =
    named (λ w. call_words made ≡ w ∷ texts left.fields) name.bytes (codes "job_create") (job_create left) _ made (job_create_spelled left made)
    (named (λ w. call_words made ≡ w ∷ texts left.fields) name.bytes (codes "spawn") (spawn left) _ made (spawn_spelled left made)
    (named (λ w. call_words made ≡ w ∷ texts left.fields) name.bytes (codes "job_set_critical") (job_set_critical left) _ made (job_set_critical_spelled left made)
    (named (λ w. call_words made ≡ w ∷ texts left.fields) name.bytes (codes "task_kill") (task_kill left) _ made (task_kill_spelled left made)
    (named (λ w. call_words made ≡ w ∷ texts left.fields) name.bytes (codes "process_exit") (process_exit left) (Err (BadLine name.column)) made (process_exit_spelled left made)
    (λ h. absurd (err_ok (BadLine name.column) made h))))))

port_call_named_spelled : (name : Placed) (left : Unread) (made : Call) → port_call_named name left ≡ Ok made → call_words made ≡ name.bytes ∷ texts left.fields
unfolding port_call_named
port_call_named_spelled name left made =
    named (λ w. call_words made ≡ w ∷ texts left.fields) name.bytes (codes "port_create") (port_create left) _ made (port_create_spelled left made)
    (named (λ w. call_words made ≡ w ∷ texts left.fields) name.bytes (codes "object_wait_async") (object_wait_async left) _ made (object_wait_async_spelled left made)
    (named (λ w. call_words made ≡ w ∷ texts left.fields) name.bytes (codes "port_queue") (port_queue left) _ made (port_queue_spelled left made)
    (named (λ w. call_words made ≡ w ∷ texts left.fields) name.bytes (codes "port_wait") (port_wait left) _ made (port_wait_spelled left made)
    (named (λ w. call_words made ≡ w ∷ texts left.fields) name.bytes (codes "port_cancel") (port_cancel left) (task_call_named name left) made (port_cancel_spelled left made)
    (task_call_named_spelled name left made)))))

channel_call_named_spelled : (name : Placed) (left : Unread) (made : Call) → channel_call_named name left ≡ Ok made → call_words made ≡ name.bytes ∷ texts left.fields
unfolding channel_call_named
channel_call_named_spelled name left made =
    named (λ w. call_words made ≡ w ∷ texts left.fields) name.bytes (codes "channel_create") (channel_create left) _ made (channel_create_spelled left made)
    (named (λ w. call_words made ≡ w ∷ texts left.fields) name.bytes (codes "channel_read") (channel_read left) (port_call_named name left) made (channel_read_spelled left made)
    (port_call_named_spelled name left made))

handle_call_named_spelled : (name : Placed) (left : Unread) (made : Call) → handle_call_named name left ≡ Ok made → call_words made ≡ name.bytes ∷ texts left.fields
unfolding handle_call_named
handle_call_named_spelled name left made =
    named (λ w. call_words made ≡ w ∷ texts left.fields) name.bytes (codes "handle_close") (handle_close left) _ made (handle_close_spelled left made)
    (named (λ w. call_words made ≡ w ∷ texts left.fields) name.bytes (codes "handle_duplicate") (handle_duplicate left) _ made (handle_duplicate_spelled left made)
    (named (λ w. call_words made ≡ w ∷ texts left.fields) name.bytes (codes "handle_replace") (handle_replace left) (channel_call_named name left) made (handle_replace_spelled left made)
    (channel_call_named_spelled name left made)))

call_named_spelled : (name : Placed) (left : Unread) (made : Call) → call_named name left ≡ Ok made → call_words made ≡ name.bytes ∷ texts left.fields
unfolding call_named
call_named_spelled name left made =
    named (λ w. call_words made ≡ w ∷ texts left.fields) name.bytes (codes "event_create") (event_create left) _ made (event_create_spelled left made)
    (named (λ w. call_words made ≡ w ∷ texts left.fields) name.bytes (codes "eventpair_create") (eventpair_create left) _ made (eventpair_create_spelled left made)
    (named (λ w. call_words made ≡ w ∷ texts left.fields) name.bytes (codes "object_signal_peer") (object_signal_peer left) (handle_call_named name left) made (object_signal_peer_spelled left made)
    (handle_call_named_spelled name left made)))

any_call_named_spelled : (name : Placed) (left : Unread) (made : Call) → any_call_named name left ≡ Ok made → call_words made ≡ name.bytes ∷ texts left.fields
unfolding any_call_named
any_call_named_spelled name left made =
    named (λ w. call_words made ≡ w ∷ texts left.fields) name.bytes (codes "object_signal") (object_signal left) _ made (object_signal_spelled left made)
    (named (λ w. call_words made ≡ w ∷ texts left.fields) name.bytes (codes "channel_write") (channel_write left) (call_named name left) made (channel_write_spelled left made)
    (call_named_spelled name left made))

call_first : (fields : List Placed) (behind : ℕ) (made : Call) → (first_of fields behind >>= λ name. any_call_named name.0 name.1) ≡ Ok made → texts fields ≡ call_words made
call_first [] behind made h = absurd (err_ok (BadLine behind) made h)
call_first (x ∷ xs) behind made h = sym (any_call_named_spelled x (record { fields = xs; behind = behind }) made h)

call_spelled : (left : Unread) (made : Call) → call left ≡ Ok made → texts left.fields ≡ call_words made
unfolding call
call_spelled left made h = call_first left.fields left.behind made h

-- the words of a process and its call
abbrev made_words : ℕ × Call → Words
made_words made = decimal made.0 ∷ call_words made.1

pub process_call_spelled : (left : Unread) (made : ℕ × Call) → process_call left ≡ Ok made → texts left.fields ≡ made_words made
unfolding process_call
process_call_spelled left made h =
    let process = field_then {B = ℕ × Call} key_form left (λ x. call x.1 >>= λ c. Ok (x.0, c)) made h in
    let behind = value_of {B = ℕ × Call} (call process.1) (λ c. (process.0, c)) made process.3 in
    process.2 ∙ ap (λ ws. decimal process.0 ∷ ws) (call_spelled process.1 behind.0 behind.1) ∙ ap made_words behind.2

-- ---- each command

pub only_name_spelled : (left : Unread) (name : List ℕ) → only_name left ≡ Ok name → name ∷ [] ≡ texts left.fields
unfolding only_name
only_name_spelled left name h = one_field (λ n. n ∷ []) (λ ws. ws) name_form (λ n. n) (λ n. refl) left name h

branch_spelled : (left : Unread) (made : Command) → branch left ≡ Ok made → command_words made ≡ codes "branch" ∷ texts left.fields
unfolding branch
branch_spelled left made h =
    let t = value_of (only_name left) commands.Branch made h in
    ap command_words (sym t.2) ∙ ap (λ ws. codes "branch" ∷ ws) (only_name_spelled left t.0 t.1)

follow_spelled : (left : Unread) (made : Command) → follow left ≡ Ok made → command_words made ≡ codes "follow" ∷ texts left.fields
unfolding follow
follow_spelled left made h =
    let t = value_of (only_name left) commands.Follow made h in
    ap command_words (sym t.2) ∙ ap (λ ws. codes "follow" ∷ ws) (only_name_spelled left t.0 t.1)

goto_spelled : (left : Unread) (made : Command) → goto left ≡ Ok made → command_words made ≡ codes "goto" ∷ texts left.fields
unfolding goto
goto_spelled left made h = one_field command_words (λ ws. codes "goto" ∷ ws) handle_form commands.Goto (λ a. refl) left made h

back_spelled : (left : Unread) (made : Command) → back left ≡ Ok made → command_words made ≡ codes "back" ∷ texts left.fields
unfolding back
back_spelled left made h = one_field command_words (λ ws. codes "back" ∷ ws) count_form commands.Back (λ a. refl) left made h

show_spelled : (left : Unread) (made : Command) → show left ≡ Ok made → command_words made ≡ codes "show" ∷ texts left.fields
unfolding show
show_spelled left made h = no_field command_words (λ ws. codes "show" ∷ ws) commands.Show refl left made h

holders_spelled : (left : Unread) (made : Command) → holders left ≡ Ok made → command_words made ≡ codes "holders" ∷ texts left.fields
unfolding holders
holders_spelled left made h = one_field command_words (λ ws. codes "holders" ∷ ws) key_form commands.Holders (λ a. refl) left made h

leaks_spelled : (left : Unread) (made : Command) → leaks left ≡ Ok made → command_words made ≡ codes "leaks" ∷ texts left.fields
unfolding leaks
leaks_spelled left made h = no_field command_words (λ ws. codes "leaks" ∷ ws) commands.Leaks refl left made h

when_spelled : (left : Unread) (made : Command) → when left ≡ Ok made → command_words made ≡ codes "when" ∷ texts left.fields
unfolding when
when_spelled left made h = two_fields command_words (λ ws. codes "when" ∷ ws) happening_form key_form commands.When (λ a b. refl) left made h

pin_spelled : (left : Unread) (made : Command) → pin left ≡ Ok made → command_words made ≡ codes "pin" ∷ texts left.fields
unfolding pin
pin_spelled left made h = no_field command_words (λ ws. codes "pin" ∷ ws) commands.Pin refl left made h

question_named_spelled : (name : Placed) (left : Unread) (made : Command) → question_named name left ≡ Ok made → command_words made ≡ name.bytes ∷ texts left.fields
unfolding question_named
question_named_spelled name left made =
    named (λ w. command_words made ≡ w ∷ texts left.fields) name.bytes (codes "show") (show left) _ made (show_spelled left made)
    (named (λ w. command_words made ≡ w ∷ texts left.fields) name.bytes (codes "holders") (holders left) _ made (holders_spelled left made)
    (named (λ w. command_words made ≡ w ∷ texts left.fields) name.bytes (codes "leaks") (leaks left) _ made (leaks_spelled left made)
    (named (λ w. command_words made ≡ w ∷ texts left.fields) name.bytes (codes "when") (when left) _ made (when_spelled left made)
    (named (λ w. command_words made ≡ w ∷ texts left.fields) name.bytes (codes "pin") (pin left) (Err (BadLine name.column)) made (pin_spelled left made)
    (λ h. absurd (err_ok (BadLine name.column) made h))))))

plain_command_named_spelled : (name : Placed) (left : Unread) (made : Command) → plain_command_named name left ≡ Ok made → command_words made ≡ name.bytes ∷ texts left.fields
unfolding plain_command_named
plain_command_named_spelled name left made =
    named (λ w. command_words made ≡ w ∷ texts left.fields) name.bytes (codes "goto") (goto left) _ made (goto_spelled left made)
    (named (λ w. command_words made ≡ w ∷ texts left.fields) name.bytes (codes "back") (back left) (question_named name left) made (back_spelled left made)
    (question_named_spelled name left made))

command_named_spelled : (name : Placed) (left : Unread) (made : Command) → command_named name left ≡ Ok made → command_words made ≡ name.bytes ∷ texts left.fields
unfolding command_named
command_named_spelled name left made =
    named (λ w. command_words made ≡ w ∷ texts left.fields) name.bytes (codes "branch") (branch left) _ made (branch_spelled left made)
    (named (λ w. command_words made ≡ w ∷ texts left.fields) name.bytes (codes "follow") (follow left) (plain_command_named name left) made (follow_spelled left made)
    (plain_command_named_spelled name left made))

pinned_show_spelled : (left : Unread) (made : Line) → pinned_show left ≡ Ok made → line_words made ≡ codes "pinned" ∷ codes "show" ∷ texts left.fields
unfolding pinned_show
pinned_show_spelled left made h = no_field line_words (λ ws. codes "pinned" ∷ codes "show" ∷ ws) line.PinnedShow refl left made h

pinned_holders_spelled : (left : Unread) (made : Line) → pinned_holders left ≡ Ok made → line_words made ≡ codes "pinned" ∷ codes "holders" ∷ texts left.fields
unfolding pinned_holders
pinned_holders_spelled left made h = one_field line_words (λ ws. codes "pinned" ∷ codes "holders" ∷ ws) key_form line.PinnedHolders (λ a. refl) left made h

pinned_leaks_spelled : (left : Unread) (made : Line) → pinned_leaks left ≡ Ok made → line_words made ≡ codes "pinned" ∷ codes "leaks" ∷ texts left.fields
unfolding pinned_leaks
pinned_leaks_spelled left made h = no_field line_words (λ ws. codes "pinned" ∷ codes "leaks" ∷ ws) line.PinnedLeaks refl left made h

pinned_named_spelled : (name : Placed) (left : Unread) (made : Line) → pinned_named name left ≡ Ok made → line_words made ≡ codes "pinned" ∷ name.bytes ∷ texts left.fields
unfolding pinned_named
pinned_named_spelled name left made =
    named (λ w. line_words made ≡ codes "pinned" ∷ w ∷ texts left.fields) name.bytes (codes "show") (pinned_show left) _ made (pinned_show_spelled left made)
    (named (λ w. line_words made ≡ codes "pinned" ∷ w ∷ texts left.fields) name.bytes (codes "holders") (pinned_holders left) _ made (pinned_holders_spelled left made)
    (named (λ w. line_words made ≡ codes "pinned" ∷ w ∷ texts left.fields) name.bytes (codes "leaks") (pinned_leaks left) (Err (BadLine name.column)) made (pinned_leaks_spelled left made)
    (λ h. absurd (err_ok (BadLine name.column) made h))))

pinned_first : (fields : List Placed) (behind : ℕ) (made : Line) → (first_of fields behind >>= λ name. pinned_named name.0 name.1) ≡ Ok made
    → line_words made ≡ codes "pinned" ∷ texts fields
pinned_first [] behind made h = absurd (err_ok (BadLine behind) made h)
pinned_first (x ∷ xs) behind made h = pinned_named_spelled x (record { fields = xs; behind = behind }) made h

pinned_spelled : (left : Unread) (made : Line) → pinned left ≡ Ok made → line_words made ≡ codes "pinned" ∷ texts left.fields
unfolding pinned
pinned_spelled left made h = pinned_first left.fields left.behind made h

as_command : (first : Placed) (left : Unread) (made : Line) → (command_named first left >>= λ asked. Ok (line.Command asked)) ≡ Ok made
    → line_words made ≡ first.bytes ∷ texts left.fields
as_command first left made h =
    let t = value_of (command_named first left) line.Command made h in
    ap line_words (sym t.2) ∙ command_named_spelled first left t.0 t.1

word_spelled : (first : Placed) (left : Unread) (made : Line) → word_named first left ≡ Ok made → line_words made ≡ first.bytes ∷ texts left.fields
unfolding word_named
word_spelled first left made =
    named (λ w. line_words made ≡ w ∷ texts left.fields) first.bytes (codes "pinned") (pinned left) (command_named first left >>= λ asked. Ok (line.Command asked)) made
    (pinned_spelled left made) (as_command first left made)

-- ---- lines

number_first : (first : Placed) (left : Unread) (number : Option ℕ) → process_of first.bytes ≡ number → (asked : Line)
    → call_or_word number first left ≡ Ok asked → first.bytes ∷ texts left.fields ≡ line_words asked
number_first first left None is asked h = sym (word_spelled first left asked h)
number_first first left (Some n) is asked h =
    let t = value_of (call left) (λ c. line.Command (commands.Call n c)) asked h in
    ap (λ w. w ∷ texts left.fields) (decimal_spelled (2 ^ 64 - 1) (lit< tt) first.bytes n is)
    ∙ ap (λ ws. decimal n ∷ ws) (call_spelled left t.0 t.1) ∙ ap line_words t.2

asked_first : (fields : List Placed) (behind : ℕ) (asked : Line)
    → (first_of fields behind >>= λ first. call_or_word (process_of first.0.bytes) first.0 first.1) ≡ Ok asked → texts fields ≡ line_words asked
asked_first [] behind asked h = absurd (err_ok (BadLine behind) asked h)
asked_first (x ∷ xs) behind asked h = number_first x (record { fields = xs; behind = behind }) (process_of x.bytes) refl asked h

asked_spelled : (left : Unread) (asked : Line) → asked_by left ≡ Ok asked → texts left.fields ≡ line_words asked
unfolding asked_by
asked_spelled left asked h = asked_first left.fields left.behind asked h

-- a line is its fields with a space between
whole_line : (text : List ℕ) (fields : Words) → fields_of text ≡ fields → text ≡ words fields
whole_line text fields same = sym (join_with_byte-slice_split 32 text) ∙ ap words same

some_read : {A : Type 0} (r : Result A Refusal) (value : A) → (r >>= λ v. Ok (Some v)) ≡ Ok (Some value) → r ≡ Ok value
some_read (Ok v) value h = ap Ok (some_same v value (same_ok (Some v) (Some value) (Ok (Some v)) refl h))
some_read (Err e) value h = absurd (err_ok e (Some value) h)

ok_none : {A : Type 0} (value : A) (r : Result (Option A) Refusal) → r ≡ Ok None → r ≡ Ok (Some value) → ⊥
ok_none value r one other = cc

kept_if : {A : Type 0} (long skipped : Bool) (form : Unread → Result A Refusal) (left : Unread) (value : A)
    → ((if long then Err LineTooLong else (if skipped then Ok None else Ok (Some left))) >>= λ o. each_by form o) ≡ Ok (Some value) → form left ≡ Ok value
kept_if true skipped form left value h = absurd (err_ok LineTooLong (Some value) h)
kept_if false true form left value h = absurd (ok_none value (Ok None) refl h)
kept_if false false form left value h = some_read (form left) value h

-- what is read of a line is read of its fields
pub kept : {A : Type 0} (form : Unread → Result A Refusal) (text : List ℕ) (value : A) → (fields_in text >>= λ o. each_by form o) ≡ Ok (Some value) → form (unread text) ≡ Ok value
unfolding fields_in
kept form text value h = kept_if (nat_lt most_line_bytes (length text)) (is_skipped text) form (unread text) value h

-- a line that reads as something
pub line_spelled : (text : List ℕ) (asked : Line) → read_as text ≡ Ok (Some asked) → text ≡ words (line_words asked)
unfolding read_as
line_spelled text asked h =
    let fields = asked_spelled (unread text) asked (kept asked_by text asked h) in
    whole_line text (line_words asked) (sym (texts_placed 1 (fields_of text)) ∙ fields)

-- a line that reads as a call
pub call_line_spelled : (text : List ℕ) (process : ℕ) (made : Call) → read_as text ≡ Ok (Some (line.Command (commands.Call process made))) → text ≡ shown_call process made
unfolding shown_call
call_line_spelled text process made h = line_spelled text (line.Command (commands.Call process made)) h

-- two lines that read as one thing
pub lines_differ : (text other : List ℕ) (asked : Line) → read_as text ≡ Ok (Some asked) → read_as other ≡ Ok (Some asked) → text ≡ other
lines_differ text other asked one two = line_spelled text asked one ∙ sym (line_spelled other asked two)

-- a line of a session that has a call
pub session_line_spelled : (text : List ℕ) (made : ℕ × Call) → call_in text ≡ Ok (Some made) → text ≡ shown_call made.0 made.1
unfolding call_in shown_call
session_line_spelled text made h =
    let fields = process_call_spelled (unread text) made (kept process_call text made h) in
    whole_line text (made_words made) (sym (texts_placed 1 (fields_of text)) ∙ fields)
