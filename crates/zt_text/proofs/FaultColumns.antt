-- The column of a fault is that of the first field with which no line begins that asks something. It is shown of each
-- reader of fields that it goes on with some fields, and that its fault is at the first field with which it cannot.
use Rattle.std.proofs.Common.{◌≡◌, ℕ, ◌+◌, ◌⊎◌, inl, inr, Bool, true, false, List, [], ◌∷◌, ◌++◌, length, Option, Some, None, Result, Ok, Err, ℤ, pos, refl, sym, ap, ◌∙◌, subst}
use Rattle.std.specs.Prelude.{◌==◌, ⊤, nat_lt, codes, if◌then◌else◌}
use Rattle.std.specs.List.{onto_first}
use Rattle.std.specs.Str.{bytes_eq}
use Rattle.std.proofs.lemmas.List.Splits.{slice_split-cons_yes, slice_split-cons_no}
use Rattle.zt_bits.specs.declared.signal_bits.Signals.{Signals}
use Rattle.zt_rows.specs.declared.refusals.Refusal.{Refusal}
use Rattle.zt_rows.specs.declared.refusals.Refusal.TheVariants.{BadLine, LineTooLong}
use Rattle.zt_rows.specs.declared.calls.Call.{Call}
use Rattle.zt_rows.specs.declared.calls.Call.TheVariants as calls
use Rattle.zt_rows.specs.declared.calls.Command.{Command}
use Rattle.zt_rows.specs.declared.calls.Command.TheVariants as commands
use Rattle.zt_rows.specs.declared.calls.Happening.{Happening}
use Rattle.zt_rows.specs.declared.calls.Happening.TheVariants.{Made}
use Rattle.zt_text.specs.declared.read_lines.Line.{Line}
use Rattle.zt_text.specs.declared.read_lines.Line.TheVariants as line
use Rattle.zt_text.specs.Numbers.{decimal_of, process_of, koid_of, key_of, handle_of, amount_of, moment_of, count_of, mask_of, signals_of, code_of}
use Rattle.zt_text.specs.Bytes.{hex_bytes, bytes_of, packet_bytes_of}
use Rattle.zt_text.specs.Lists.{handles_of}
use Rattle.zt_text.specs.Names.{name_of, happening_of}
use Rattle.zt_text.specs.Fields.{Placed, Unread, ◌>>=◌, parts_of, placed, fields_of, unread, next, field, ended, flag}
use Rattle.zt_text.specs.ReadCalls.{event_create, eventpair_create, handle_close, handle_duplicate, handle_replace, object_signal, object_signal_peer, channel_create, channel_write, channel_read, port_create, object_wait_async, port_queue, port_wait, port_cancel, job_create, spawn, job_set_critical, task_kill, process_exit, task_call_named, port_call_named, channel_call_named, handle_call_named, call_named, any_call_named, call}
use Rattle.zt_text.specs.ReadLines.{goto, back, only_name, branch, follow, show, holders, leaks, when, pin, question_named, plain_command_named, command_named, pinned_show, pinned_holders, pinned_leaks, pinned_named, pinned, word_named, call_or_word, asked_by, most_line_bytes, is_skipped, fields_in, each_by, read_as}
use Rattle.zt_text.specs.ShownNumbers.{words}
use Rattle.zt_text.specs.Columns.{AsksSomething, NoneGoesOn, column_of, IsFirstFault}
use Rattle.zt_text.proofs.ShownWords.{is_free, AreFree, parts_joined}
use Rattle.zt_text.proofs.SpelledLines.{err_ok, value_of}

-- ---- results

ok_err : {A E : Type 0} (a : A) (e : E) → Ok a ≡ Err e → ⊥
ok_err a e h = cc

same_err : {A E : Type 0} (r : Result A E) (e f : E) → r ≡ Err e → r ≡ Err f → e ≡ f
same_err r e f one other = cc

abbrev IsRead : {A : Type 0} → Result A Refusal → Type 0
IsRead {A} r = (value : A) × (r ≡ Ok value)

-- ---- readers of fields

abbrev from : ℕ → ℕ → List (List ℕ) → Unread
from column behind fields = record { fields = placed column fields; behind = behind }

-- with the first of the fields that are left a reader never reads
abbrev NoneReads : {A : Type 0} → (Unread → Result A Refusal) → List (List ℕ) → List (List ℕ) → Type 0
NoneReads reader before [] = ⊤
NoneReads reader before (first ∷ _) = (c b : ℕ) (others : List (List ℕ)) → IsRead (reader (from c b (before ++ (first ∷ others)))) → ⊥

-- where the fault of a reader is
record IsFault (A : Type 0) (reader : Unread → Result A Refusal) (ws : List (List ℕ)) (column behind : ℕ) (fault : Refusal) : Type 0 where
  before : List (List ℕ)
  left : List (List ℕ)
  more : List (List ℕ)
  whole : ws ≡ before ++ left
  place : fault ≡ BadLine (column_of column behind before left)
  free : AreFree 32 more
  goes_on : (c b : ℕ) → IsRead (reader (from c b (before ++ more)))
  none : NoneReads reader before left

-- a reader goes on with some fields, and has such faults alone
record IsReader (A : Type 0) (reader : Unread → Result A Refusal) : Type 0 where
  fresh : List (List ℕ)
  free : AreFree 32 fresh
  reads : (c b : ℕ) → IsRead (reader (from c b fresh))
  faults : (ws : List (List ℕ)) (c b : ℕ) (fault : Refusal) → reader (from c b ws) ≡ Err fault → IsFault A reader ws c b fault

column_more : (c b : ℕ) (w : List ℕ) (before left : List (List ℕ)) → column_of (c + length w + 1) b before left ≡ column_of c b (w ∷ before) left
column_more c b w before [] = refl
column_more c b w before (x ∷ xs) = refl

-- ---- the end

abbrev ends : {A : Type 0} → A → Unread → Result A Refusal
ends value left = do
  _ ← ended left
  Ok value

end_read : {A : Type 0} (value : A) (c b : ℕ) → ends value (from c b []) ≡ Ok value
unfolding placed ended
end_read value c b = refl

end_surplus : {A : Type 0} (value : A) (w : List ℕ) (ws : List (List ℕ)) (c b : ℕ) → ends value (from c b (w ∷ ws)) ≡ Err (BadLine c)
unfolding placed ended
end_surplus value w ws c b = refl

end_faults : {A : Type 0} (value : A) (ws : List (List ℕ)) (c b : ℕ) (fault : Refusal) → ends value (from c b ws) ≡ Err fault → IsFault A (ends value) ws c b fault
end_faults value [] c b fault h = absurd (ok_err value fault (sym (end_read value c b) ∙ h))
end_faults value (w ∷ ws) c b fault h = record {
  before = [];
  left = w ∷ ws;
  more = [];
  whole = refl;
  place = same_err (ends value (from c b (w ∷ ws))) fault (BadLine c) h (end_surplus value w ws c b);
  free = tt;
  goes_on = λ d e. (value, end_read value d e);
  none = λ d e others read. err_ok (BadLine d) read.0 (sym (end_surplus value w others d e) ∙ read.1);
}

end_reader : {A : Type 0} (value : A) → IsReader A (ends value)
end_reader value = record { fresh = []; free = tt; reads = λ c b. (value, end_read value c b); faults = end_faults value }

-- ---- a field

abbrev then_field : {A B : Type 0} → (List ℕ → Option A) → (A → Unread → Result B Refusal) → Unread → Result B Refusal
then_field form others left = do
  x ← field form left
  others x.0 x.1

field_missing : {A B : Type 0} (form : List ℕ → Option A) (others : A → Unread → Result B Refusal) (c b : ℕ) → then_field form others (from c b []) ≡ Err (BadLine b)
unfolding placed field
field_missing form others c b = refl

field_known : {A B : Type 0} (form : List ℕ → Option A) (others : A → Unread → Result B Refusal) (w : List ℕ) (ws : List (List ℕ)) (a : A) (c b : ℕ) → form w ≡ Some a
    → then_field form others (from c b (w ∷ ws)) ≡ others a (from (c + length w + 1) b ws)
unfolding placed field
field_known form others w ws a c b is = rw is refl

field_unknown : {A B : Type 0} (form : List ℕ → Option A) (others : A → Unread → Result B Refusal) (w : List ℕ) (ws : List (List ℕ)) (c b : ℕ) → form w ≡ None
    → then_field form others (from c b (w ∷ ws)) ≡ Err (BadLine c)
unfolding placed field
field_unknown form others w ws c b is = rw is refl

-- a word of a form, with which its reader can go on
record IsWord (A : Type 0) (form : List ℕ → Option A) : Type 0 where
  word : List ℕ
  value : A
  reads : form word ≡ Some value
  free : is_free 32 word ≡ true

field_fresh : {A B : Type 0} (form : List ℕ → Option A) (one : IsWord A form) (others : A → Unread → Result B Refusal) (k : (a : A) → IsReader B (others a)) (c b : ℕ)
    → IsRead (then_field form others (from c b (one.word ∷ (k one.value).fresh)))
field_fresh form one others k c b =
    let r = (k one.value).reads (c + length one.word + 1) b in
    (r.0, field_known form others one.word (k one.value).fresh one.value c b one.reads ∙ r.1)

field_none : {A B : Type 0} (form : List ℕ → Option A) (others : A → Unread → Result B Refusal) (w : List ℕ) (a : A) → form w ≡ Some a
    → (before left : List (List ℕ)) → NoneReads (others a) before left → NoneReads (then_field form others) (w ∷ before) left
field_none form others w a is before [] none = tt
field_none form others w a is before (x ∷ xs) none = λ c b ys read.
    none (c + length w + 1) b ys (read.0, sym (field_known form others w (before ++ (x ∷ ys)) a c b is) ∙ read.1)

field_at_fault : {A B : Type 0} (form : List ℕ → Option A) (one : IsWord A form) (others : A → Unread → Result B Refusal) (k : (a : A) → IsReader B (others a))
    (w : List ℕ) (ws : List (List ℕ)) (o : Option A) → form w ≡ o → (c b : ℕ) (fault : Refusal)
    → then_field form others (from c b (w ∷ ws)) ≡ Err fault → IsFault B (then_field form others) (w ∷ ws) c b fault
field_at_fault form one others k w ws None is c b fault h = record {
  before = [];
  left = w ∷ ws;
  more = one.word ∷ (k one.value).fresh;
  whole = refl;
  place = same_err (then_field form others (from c b (w ∷ ws))) fault (BadLine c) h (field_unknown form others w ws c b is);
  free = (one.free, (k one.value).free);
  goes_on = field_fresh form one others k;
  none = λ d e ys read. err_ok (BadLine d) read.0 (sym (field_unknown form others w ys d e is) ∙ read.1);
}
field_at_fault form one others k w ws (Some a) is c b fault h =
    let f = (k a).faults ws (c + length w + 1) b fault (sym (field_known form others w ws a c b is) ∙ h) in
    record {
      before = w ∷ f.before;
      left = f.left;
      more = f.more;
      whole = ap (λ vs. w ∷ vs) f.whole;
      place = f.place ∙ ap BadLine (column_more c b w f.before f.left);
      free = f.free;
      goes_on = λ d e. let r = f.goes_on (d + length w + 1) e in (r.0, field_known form others w (f.before ++ f.more) a d e is ∙ r.1);
      none = field_none form others w a is f.before f.left f.none;
    }

field_faults : {A B : Type 0} (form : List ℕ → Option A) (one : IsWord A form) (others : A → Unread → Result B Refusal) (k : (a : A) → IsReader B (others a))
    (ws : List (List ℕ)) (c b : ℕ) (fault : Refusal) → then_field form others (from c b ws) ≡ Err fault → IsFault B (then_field form others) ws c b fault
field_faults form one others k [] c b fault h = record {
  before = [];
  left = [];
  more = one.word ∷ (k one.value).fresh;
  whole = refl;
  place = same_err (then_field form others (from c b [])) fault (BadLine b) h (field_missing form others c b);
  free = (one.free, (k one.value).free);
  goes_on = field_fresh form one others k;
  none = tt;
}
field_faults form one others k (w ∷ ws) c b fault h = field_at_fault form one others k w ws (form w) refl c b fault h

field_reader : {A B : Type 0} (form : List ℕ → Option A) (one : IsWord A form) (others : A → Unread → Result B Refusal) → ((a : A) → IsReader B (others a))
    → IsReader B (then_field form others)
field_reader form one others k = record {
  fresh = one.word ∷ (k one.value).fresh;
  free = (one.free, (k one.value).free);
  reads = field_fresh form one others k;
  faults = field_faults form one others k;
}

-- ---- what is made of what is read

abbrev makes : {A B : Type 0} → (Unread → Result A Refusal) → (A → B) → Unread → Result B Refusal
makes reader make left = do
  a ← reader left
  Ok (make a)

made_err : {A B : Type 0} (r : Result A Refusal) (make : A → B) (fault : Refusal) → (r >>= λ a. Ok (make a)) ≡ Err fault → r ≡ Err fault
made_err (Ok a) make fault h = absurd (ok_err (make a) fault h)
made_err {B = B} (Err e) make fault h = ap Err (same_err {A = B} (Err e) e fault refl h)

made_read : {A B : Type 0} (r : Result A Refusal) (make : A → B) → IsRead r → IsRead (r >>= λ a. Ok (make a))
made_read {A} r make (value, h) = (make value, ap (λ (s : Result A Refusal). s >>= λ a. Ok (make a)) h)

makes_none : {A B : Type 0} (reader : Unread → Result A Refusal) (make : A → B) (before left : List (List ℕ)) → NoneReads reader before left → NoneReads (makes reader make) before left
makes_none reader make before [] none = tt
makes_none reader make before (x ∷ xs) none = λ c b ys read.
    let of = value_of (reader (from c b (before ++ (x ∷ ys)))) make read.0 read.1 in
    none c b ys (of.0, of.1)

makes_faults : {A B : Type 0} (reader : Unread → Result A Refusal) (make : A → B) → IsReader A reader
    → (ws : List (List ℕ)) (c b : ℕ) (fault : Refusal) → makes reader make (from c b ws) ≡ Err fault → IsFault B (makes reader make) ws c b fault
makes_faults reader make k ws c b fault h =
    let f = k.faults ws c b fault (made_err (reader (from c b ws)) make fault h) in
    record {
      before = f.before;
      left = f.left;
      more = f.more;
      whole = f.whole;
      place = f.place;
      free = f.free;
      goes_on = λ d e. made_read (reader (from d e (f.before ++ f.more))) make (f.goes_on d e);
      none = makes_none reader make f.before f.left f.none;
    }

makes_reader : {A B : Type 0} (reader : Unread → Result A Refusal) (make : A → B) → IsReader A reader → IsReader B (makes reader make)
makes_reader reader make k = record {
  fresh = k.fresh;
  free = k.free;
  reads = λ c b. made_read (reader (from c b k.fresh)) make (k.reads c b);
  faults = makes_faults reader make k;
}

-- ---- a word that may stand at the end

flag_none : (word : List ℕ) (c b : ℕ) → flag word (from c b []) ≡ Ok false
unfolding placed flag
flag_none word c b = refl

flag_other : (word w : List ℕ) (ws : List (List ℕ)) (c b : ℕ) → bytes_eq w word ≡ false → flag word (from c b (w ∷ ws)) ≡ Err (BadLine c)
unfolding placed flag
flag_other word w ws c b is = rw is refl

flag_alone : (word w : List ℕ) (c b : ℕ) → bytes_eq w word ≡ true → flag word (from c b (w ∷ [])) ≡ Ok true
unfolding placed flag
flag_alone word w c b is = rw is refl

flag_surplus : (word w x : List ℕ) (ws : List (List ℕ)) (c b : ℕ) → bytes_eq w word ≡ true
    → flag word (from c b (w ∷ x ∷ ws)) ≡ Err (BadLine (c + length w + 1))
unfolding placed flag
flag_surplus word w x ws c b is = rw is refl

flag_at_fault : (word w : List ℕ) (ws : List (List ℕ)) (is_word : Bool) → bytes_eq w word ≡ is_word → (c b : ℕ) (fault : Refusal)
    → flag word (from c b (w ∷ ws)) ≡ Err fault → IsFault Bool (flag word) (w ∷ ws) c b fault
flag_at_fault word w ws false is c b fault h = record {
  before = [];
  left = w ∷ ws;
  more = [];
  whole = refl;
  place = same_err (flag word (from c b (w ∷ ws))) fault (BadLine c) h (flag_other word w ws c b is);
  free = tt;
  goes_on = λ d e. (false, flag_none word d e);
  none = λ d e ys read. err_ok (BadLine d) read.0 (sym (flag_other word w ys d e is) ∙ read.1);
}
flag_at_fault word w [] true is c b fault h = absurd (ok_err true fault (sym (flag_alone word w c b is) ∙ h))
flag_at_fault word w (x ∷ xs) true is c b fault h = record {
  before = w ∷ [];
  left = x ∷ xs;
  more = [];
  whole = refl;
  place = same_err (flag word (from c b (w ∷ x ∷ xs))) fault (BadLine (c + length w + 1)) h (flag_surplus word w x xs c b is);
  free = tt;
  goes_on = λ d e. (true, flag_alone word w d e is);
  none = λ d e ys read. err_ok (BadLine (d + length w + 1)) read.0 (sym (flag_surplus word w x ys d e is) ∙ read.1);
}

flag_faults : (word : List ℕ) (ws : List (List ℕ)) (c b : ℕ) (fault : Refusal) → flag word (from c b ws) ≡ Err fault → IsFault Bool (flag word) ws c b fault
flag_faults word [] c b fault h = absurd (ok_err false fault (sym (flag_none word c b) ∙ h))
flag_faults word (w ∷ ws) c b fault h = flag_at_fault word w ws (bytes_eq w word) refl c b fault h

flag_reader : (word : List ℕ) → IsReader Bool (flag word)
flag_reader word = record { fresh = []; free = tt; reads = λ c b. (false, flag_none word c b); faults = flag_faults word }

-- ---- a name, which tells the reader of the fields behind it

-- with this name a reader of its own goes on
record IsKnown (A : Type 0) (chosen : Placed → Unread → Result A Refusal) (word : List ℕ) : Type 0 where
  reader : Unread → Result A Refusal
  known : IsReader A reader
  same : (c : ℕ) (left : Unread) → chosen (record { column = c; bytes = word }) left ≡ reader left

-- and this name is a fault
abbrev IsUnknown : {A : Type 0} → (Placed → Unread → Result A Refusal) → List ℕ → Type 0
IsUnknown chosen word = (c : ℕ) (left : Unread) → chosen (record { column = c; bytes = word }) left ≡ Err (BadLine c)

-- each name is one or the other
record IsChoice (A : Type 0) (chosen : Placed → Unread → Result A Refusal) : Type 0 where
  by : (word : List ℕ) → IsKnown A chosen word ⊎ IsUnknown chosen word

abbrev names : {A : Type 0} → (Placed → Unread → Result A Refusal) → Unread → Result A Refusal
names chosen left = do
  name ← next left
  chosen name.0 name.1

name_missing : {A : Type 0} (chosen : Placed → Unread → Result A Refusal) (c b : ℕ) → names chosen (from c b []) ≡ Err (BadLine b)
unfolding placed
name_missing chosen c b = refl

name_known : {A : Type 0} (chosen : Placed → Unread → Result A Refusal) (w : List ℕ) (k : IsKnown A chosen w) (ws : List (List ℕ)) (c b : ℕ)
    → names chosen (from c b (w ∷ ws)) ≡ k.reader (from (c + length w + 1) b ws)
unfolding placed
name_known chosen w k ws c b = k.same c (from (c + length w + 1) b ws)

name_unknown : {A : Type 0} (chosen : Placed → Unread → Result A Refusal) (w : List ℕ) → IsUnknown chosen w → (ws : List (List ℕ)) (c b : ℕ)
    → names chosen (from c b (w ∷ ws)) ≡ Err (BadLine c)
unfolding placed
name_unknown chosen w u ws c b = u c (from (c + length w + 1) b ws)

name_fresh : {A : Type 0} (chosen : Placed → Unread → Result A Refusal) (w : List ℕ) (k : IsKnown A chosen w) (c b : ℕ) → IsRead (names chosen (from c b (w ∷ k.known.fresh)))
name_fresh chosen w k c b =
    let r = k.known.reads (c + length w + 1) b in
    (r.0, name_known chosen w k k.known.fresh c b ∙ r.1)

name_none : {A : Type 0} (chosen : Placed → Unread → Result A Refusal) (w : List ℕ) (k : IsKnown A chosen w) (before left : List (List ℕ))
    → NoneReads k.reader before left → NoneReads (names chosen) (w ∷ before) left
name_none chosen w k before [] none = tt
name_none chosen w k before (x ∷ xs) none = λ c b ys read.
    none (c + length w + 1) b ys (read.0, sym (name_known chosen w k (before ++ (x ∷ ys)) c b) ∙ read.1)

name_at_fault : {A : Type 0} (chosen : Placed → Unread → Result A Refusal) (one : List ℕ) (free : is_free 32 one ≡ true) (first : IsKnown A chosen one)
    (w : List ℕ) (ws : List (List ℕ)) → IsKnown A chosen w ⊎ IsUnknown chosen w → (c b : ℕ) (fault : Refusal)
    → names chosen (from c b (w ∷ ws)) ≡ Err fault → IsFault A (names chosen) (w ∷ ws) c b fault
name_at_fault chosen one free first w ws (inl k) c b fault h =
    let f = k.known.faults ws (c + length w + 1) b fault (sym (name_known chosen w k ws c b) ∙ h) in
    record {
      before = w ∷ f.before;
      left = f.left;
      more = f.more;
      whole = ap (λ vs. w ∷ vs) f.whole;
      place = f.place ∙ ap BadLine (column_more c b w f.before f.left);
      free = f.free;
      goes_on = λ d e. let r = f.goes_on (d + length w + 1) e in (r.0, name_known chosen w k (f.before ++ f.more) d e ∙ r.1);
      none = name_none chosen w k f.before f.left f.none;
    }
name_at_fault chosen one free first w ws (inr u) c b fault h = record {
  before = [];
  left = w ∷ ws;
  more = one ∷ first.known.fresh;
  whole = refl;
  place = same_err (names chosen (from c b (w ∷ ws))) fault (BadLine c) h (name_unknown chosen w u ws c b);
  free = (free, first.known.free);
  goes_on = name_fresh chosen one first;
  none = λ d e ys read. err_ok (BadLine d) read.0 (sym (name_unknown chosen w u ys d e) ∙ read.1);
}

name_faults : {A : Type 0} (chosen : Placed → Unread → Result A Refusal) (choice : IsChoice A chosen) (one : List ℕ) (free : is_free 32 one ≡ true) (first : IsKnown A chosen one)
    (ws : List (List ℕ)) (c b : ℕ) (fault : Refusal) → names chosen (from c b ws) ≡ Err fault → IsFault A (names chosen) ws c b fault
name_faults chosen choice one free first [] c b fault h = record {
  before = [];
  left = [];
  more = one ∷ first.known.fresh;
  whole = refl;
  place = same_err (names chosen (from c b [])) fault (BadLine b) h (name_missing chosen c b);
  free = (free, first.known.free);
  goes_on = name_fresh chosen one first;
  none = tt;
}
name_faults chosen choice one free first (w ∷ ws) c b fault h = name_at_fault chosen one free first w ws (choice.by w) c b fault h

names_reader : {A : Type 0} (chosen : Placed → Unread → Result A Refusal) → IsChoice A chosen → (one : List ℕ) → is_free 32 one ≡ true → IsKnown A chosen one → IsReader A (names chosen)
names_reader chosen choice one free first = record {
  fresh = one ∷ first.known.fresh;
  free = (free, first.known.free);
  reads = name_fresh chosen one first;
  faults = name_faults chosen choice one free first;
}

-- a choice is made name by name
abbrev chosen_if : {A : Type 0} → List ℕ → (Unread → Result A Refusal) → (Placed → Unread → Result A Refusal) → Placed → Unread → Result A Refusal
chosen_if name reader others first left = if bytes_eq first.bytes name then reader left else others first left

choice_by : {A : Type 0} (name : List ℕ) (reader : Unread → Result A Refusal) → IsReader A reader → (others : Placed → Unread → Result A Refusal)
    → (word : List ℕ) (is_name : Bool) → bytes_eq word name ≡ is_name → IsKnown A others word ⊎ IsUnknown others word
    → IsKnown A (chosen_if name reader others) word ⊎ IsUnknown (chosen_if name reader others) word
choice_by name reader r others word true is other = inl (record { reader = reader; known = r; same = λ c left. rw is refl })
choice_by name reader r others word false is (inl k) = inl (record { reader = k.reader; known = k.known; same = λ c left. rw is (k.same c left) })
choice_by name reader r others word false is (inr u) = inr (λ c left. rw is (u c left))

choice_if : {A : Type 0} (name : List ℕ) (reader : Unread → Result A Refusal) → IsReader A reader → (others : Placed → Unread → Result A Refusal) → IsChoice A others
    → IsChoice A (chosen_if name reader others)
choice_if name reader r others choice = record { by = λ word. choice_by name reader r others word (bytes_eq word name) refl (choice.by word) }

abbrev no_name : {A : Type 0} → Placed → Unread → Result A Refusal
no_name first left = Err (BadLine first.column)

no_choice : {A : Type 0} → IsChoice A no_name
no_choice = record { by = λ word. inr (λ c left. refl) }

makes_known : {A B : Type 0} (chosen : Placed → Unread → Result A Refusal) (make : A → B) (word : List ℕ) → IsKnown A chosen word ⊎ IsUnknown chosen word
    → IsKnown B (λ first. makes (chosen first) make) word ⊎ IsUnknown (λ first. makes (chosen first) make) word
makes_known {A} chosen make word (inl k) = inl (record {
  reader = makes k.reader make;
  known = makes_reader k.reader make k.known;
  same = λ c left. ap (λ (r : Result A Refusal). r >>= λ a. Ok (make a)) (k.same c left);
})
makes_known {A} chosen make word (inr u) = inr (λ c left. ap (λ (r : Result A Refusal). r >>= λ a. Ok (make a)) (u c left))

makes_choice : {A B : Type 0} (chosen : Placed → Unread → Result A Refusal) (make : A → B) → IsChoice A chosen → IsChoice B (λ first. makes (chosen first) make)
makes_choice chosen make choice = record { by = λ word. makes_known chosen make word (choice.by word) }

-- ---- a word of each form

handle_word : IsWord ℕ handle_of
unfolding decimal_of
handle_word = record { word = codes "7"; value = 7; reads = refl; free = refl }

key_word : IsWord ℕ key_of
unfolding decimal_of
key_word = record { word = codes "7"; value = 7; reads = refl; free = refl }

count_word : IsWord ℕ count_of
unfolding decimal_of
count_word = record { word = codes "7"; value = 7; reads = refl; free = refl }

code_word : IsWord ℤ code_of
unfolding decimal_of code_of
code_word = record { word = codes "7"; value = pos 7; reads = refl; free = refl }

mask_word : IsWord ℕ mask_of
unfolding mask_of
mask_word = record { word = codes "0x00000000"; value = 0; reads = refl; free = refl }

signals_word : IsWord Signals signals_of
unfolding mask_of
signals_word = record { word = codes "0x00000000"; value = record { 0 = 0 }; reads = refl; free = refl }

bytes_word : IsWord (List ℕ) bytes_of
unfolding bytes_of
bytes_word = record { word = codes "-"; value = []; reads = refl; free = refl }

packet_word : IsWord (List ℕ) packet_bytes_of
unfolding packet_bytes_of
packet_word = record {
  word = codes "0000000000000000000000000000000000000000000000000000000000000000";
  value = hex_bytes (codes "0000000000000000000000000000000000000000000000000000000000000000");
  reads = refl;
  free = refl;
}

handles_word : IsWord (List ℕ) handles_of
unfolding handles_of
handles_word = record { word = codes "-"; value = []; reads = refl; free = refl }

name_word : IsWord (List ℕ) name_of
unfolding name_of
name_word = record { word = codes "a"; value = codes "a"; reads = refl; free = refl }

happening_word : IsWord Happening happening_of
unfolding happening_of
happening_word = record { word = codes "made"; value = Made; reads = refl; free = refl }

-- ---- each call and each command

event_create_reader : IsReader Call event_create
unfolding event_create
event_create_reader = end_reader calls.EventCreate

eventpair_create_reader : IsReader Call eventpair_create
unfolding eventpair_create
eventpair_create_reader = end_reader calls.EventPairCreate

channel_create_reader : IsReader Call channel_create
unfolding channel_create
channel_create_reader = end_reader calls.ChannelCreate

port_create_reader : IsReader Call port_create
unfolding port_create
port_create_reader = end_reader calls.PortCreate

handle_close_reader : IsReader Call handle_close
unfolding handle_close
handle_close_reader = field_reader handle_of handle_word (λ a. ends (calls.HandleClose a)) (λ a. end_reader (calls.HandleClose a))

port_wait_reader : IsReader Call port_wait
unfolding port_wait
port_wait_reader = field_reader handle_of handle_word (λ a. ends (calls.PortWait a)) (λ a. end_reader (calls.PortWait a))

job_create_reader : IsReader Call job_create
unfolding job_create
job_create_reader = field_reader handle_of handle_word (λ a. ends (calls.JobCreate a)) (λ a. end_reader (calls.JobCreate a))

task_kill_reader : IsReader Call task_kill
unfolding task_kill
task_kill_reader = field_reader handle_of handle_word (λ a. ends (calls.TaskKill a)) (λ a. end_reader (calls.TaskKill a))

process_exit_reader : IsReader Call process_exit
unfolding process_exit
process_exit_reader = field_reader code_of code_word (λ a. ends (calls.ProcessExit a)) (λ a. end_reader (calls.ProcessExit a))

handle_duplicate_reader : IsReader Call handle_duplicate
unfolding handle_duplicate
handle_duplicate_reader = field_reader handle_of handle_word (λ a. then_field mask_of (λ b. ends (calls.HandleDuplicate a b))) (λ a. field_reader mask_of mask_word (λ b. ends (calls.HandleDuplicate a b)) (λ b. end_reader (calls.HandleDuplicate a b)))

handle_replace_reader : IsReader Call handle_replace
unfolding handle_replace
handle_replace_reader = field_reader handle_of handle_word (λ a. then_field mask_of (λ b. ends (calls.HandleReplace a b))) (λ a. field_reader mask_of mask_word (λ b. ends (calls.HandleReplace a b)) (λ b. end_reader (calls.HandleReplace a b)))

spawn_reader : IsReader Call spawn
unfolding spawn
spawn_reader = field_reader handle_of handle_word (λ a. then_field handle_of (λ b. ends (calls.Spawn a b))) (λ a. field_reader handle_of handle_word (λ b. ends (calls.Spawn a b)) (λ b. end_reader (calls.Spawn a b)))

job_set_critical_reader : IsReader Call job_set_critical
unfolding job_set_critical
job_set_critical_reader = field_reader handle_of handle_word (λ a. then_field handle_of (λ b. ends (calls.JobSetCritical a b))) (λ a. field_reader handle_of handle_word (λ b. ends (calls.JobSetCritical a b)) (λ b. end_reader (calls.JobSetCritical a b)))

object_signal_reader : IsReader Call object_signal
unfolding object_signal
object_signal_reader = field_reader handle_of handle_word (λ a. then_field signals_of (λ b. then_field signals_of (λ c. ends (calls.ObjectSignal a b c)))) (λ a. field_reader signals_of signals_word (λ b. then_field signals_of (λ c. ends (calls.ObjectSignal a b c))) (λ b. field_reader signals_of signals_word (λ c. ends (calls.ObjectSignal a b c)) (λ c. end_reader (calls.ObjectSignal a b c))))

object_signal_peer_reader : IsReader Call object_signal_peer
unfolding object_signal_peer
object_signal_peer_reader = field_reader handle_of handle_word (λ a. then_field signals_of (λ b. then_field signals_of (λ c. ends (calls.ObjectSignalPeer a b c)))) (λ a. field_reader signals_of signals_word (λ b. then_field signals_of (λ c. ends (calls.ObjectSignalPeer a b c))) (λ b. field_reader signals_of signals_word (λ c. ends (calls.ObjectSignalPeer a b c)) (λ c. end_reader (calls.ObjectSignalPeer a b c))))

port_queue_reader : IsReader Call port_queue
unfolding port_queue
port_queue_reader = field_reader handle_of handle_word (λ a. then_field key_of (λ b. then_field packet_bytes_of (λ c. ends (calls.PortQueue a b c)))) (λ a. field_reader key_of key_word (λ b. then_field packet_bytes_of (λ c. ends (calls.PortQueue a b c))) (λ b. field_reader packet_bytes_of packet_word (λ c. ends (calls.PortQueue a b c)) (λ c. end_reader (calls.PortQueue a b c))))

port_cancel_reader : IsReader Call port_cancel
unfolding port_cancel
port_cancel_reader = field_reader handle_of handle_word (λ a. then_field handle_of (λ b. then_field key_of (λ c. ends (calls.PortCancel a b c)))) (λ a. field_reader handle_of handle_word (λ b. then_field key_of (λ c. ends (calls.PortCancel a b c))) (λ b. field_reader key_of key_word (λ c. ends (calls.PortCancel a b c)) (λ c. end_reader (calls.PortCancel a b c))))

object_wait_async_reader : IsReader Call object_wait_async
unfolding object_wait_async
object_wait_async_reader = field_reader handle_of handle_word (λ a. then_field handle_of (λ b. then_field key_of (λ c. then_field signals_of (λ d. makes (flag (codes "edge")) (calls.ObjectWaitAsync a b c d))))) (λ a. field_reader handle_of handle_word (λ b. then_field key_of (λ c. then_field signals_of (λ d. makes (flag (codes "edge")) (calls.ObjectWaitAsync a b c d)))) (λ b. field_reader key_of key_word (λ c. then_field signals_of (λ d. makes (flag (codes "edge")) (calls.ObjectWaitAsync a b c d))) (λ c. field_reader signals_of signals_word (λ d. makes (flag (codes "edge")) (calls.ObjectWaitAsync a b c d)) (λ d. makes_reader (flag (codes "edge")) (calls.ObjectWaitAsync a b c d) (flag_reader (codes "edge"))))))

abbrev write_of : ℕ → List ℕ → List ℕ → Call
write_of handle bytes handles = calls.ChannelWrite handle (record { bytes = bytes; handles = handles })

channel_write_reader : IsReader Call channel_write
unfolding channel_write
channel_write_reader = field_reader handle_of handle_word (λ a. then_field bytes_of (λ b. then_field handles_of (λ c. ends (write_of a b c)))) (λ a. field_reader bytes_of bytes_word (λ b. then_field handles_of (λ c. ends (write_of a b c))) (λ b. field_reader handles_of handles_word (λ c. ends (write_of a b c)) (λ c. end_reader (write_of a b c))))

channel_read_reader : IsReader Call channel_read
unfolding channel_read
channel_read_reader = field_reader handle_of handle_word (λ a. then_field amount_of (λ b. then_field amount_of (λ c. makes (flag (codes "discard")) (calls.ChannelRead a b c)))) (λ a. field_reader amount_of handle_word (λ b. then_field amount_of (λ c. makes (flag (codes "discard")) (calls.ChannelRead a b c))) (λ b. field_reader amount_of handle_word (λ c. makes (flag (codes "discard")) (calls.ChannelRead a b c)) (λ c. makes_reader (flag (codes "discard")) (calls.ChannelRead a b c) (flag_reader (codes "discard")))))

task_call_named_choice : IsChoice Call task_call_named
unfolding task_call_named
task_call_named_choice =
    choice_if (codes "job_create") job_create job_create_reader _
    (choice_if (codes "spawn") spawn spawn_reader _
    (choice_if (codes "job_set_critical") job_set_critical job_set_critical_reader _
    (choice_if (codes "task_kill") task_kill task_kill_reader _
    (choice_if (codes "process_exit") process_exit process_exit_reader no_name
    no_choice))))

port_call_named_choice : IsChoice Call port_call_named
unfolding port_call_named
port_call_named_choice =
    choice_if (codes "port_create") port_create port_create_reader _
    (choice_if (codes "object_wait_async") object_wait_async object_wait_async_reader _
    (choice_if (codes "port_queue") port_queue port_queue_reader _
    (choice_if (codes "port_wait") port_wait port_wait_reader _
    (choice_if (codes "port_cancel") port_cancel port_cancel_reader task_call_named
    task_call_named_choice))))

channel_call_named_choice : IsChoice Call channel_call_named
unfolding channel_call_named
channel_call_named_choice =
    choice_if (codes "channel_create") channel_create channel_create_reader _
    (choice_if (codes "channel_read") channel_read channel_read_reader port_call_named
    port_call_named_choice)

handle_call_named_choice : IsChoice Call handle_call_named
unfolding handle_call_named
handle_call_named_choice =
    choice_if (codes "handle_close") handle_close handle_close_reader _
    (choice_if (codes "handle_duplicate") handle_duplicate handle_duplicate_reader _
    (choice_if (codes "handle_replace") handle_replace handle_replace_reader channel_call_named
    channel_call_named_choice))

call_named_choice : IsChoice Call call_named
unfolding call_named
call_named_choice =
    choice_if (codes "event_create") event_create event_create_reader _
    (choice_if (codes "eventpair_create") eventpair_create eventpair_create_reader _
    (choice_if (codes "object_signal_peer") object_signal_peer object_signal_peer_reader handle_call_named
    handle_call_named_choice))

any_call_named_choice : IsChoice Call any_call_named
unfolding any_call_named
any_call_named_choice =
    choice_if (codes "object_signal") object_signal object_signal_reader _
    (choice_if (codes "channel_write") channel_write channel_write_reader call_named
    call_named_choice)

event_known : IsKnown Call any_call_named (codes "event_create")
unfolding any_call_named call_named
event_known = record { reader = event_create; known = event_create_reader; same = λ c left. refl }

call_reader : IsReader Call call
unfolding call
call_reader = names_reader any_call_named any_call_named_choice (codes "event_create") refl event_known

goto_reader : IsReader Command goto
unfolding goto
goto_reader = field_reader moment_of handle_word (λ a. ends (commands.Goto a)) (λ a. end_reader (commands.Goto a))

back_reader : IsReader Command back
unfolding back
back_reader = field_reader count_of count_word (λ a. ends (commands.Back a)) (λ a. end_reader (commands.Back a))

only_name_reader : IsReader (List ℕ) only_name
unfolding only_name
only_name_reader = field_reader name_of name_word (λ a. ends a) (λ a. end_reader a)

branch_reader : IsReader Command branch
unfolding branch
branch_reader = makes_reader only_name commands.Branch only_name_reader

follow_reader : IsReader Command follow
unfolding follow
follow_reader = makes_reader only_name commands.Follow only_name_reader

show_reader : IsReader Command show
unfolding show
show_reader = end_reader commands.Show

holders_reader : IsReader Command holders
unfolding holders
holders_reader = field_reader koid_of key_word (λ a. ends (commands.Holders a)) (λ a. end_reader (commands.Holders a))

leaks_reader : IsReader Command leaks
unfolding leaks
leaks_reader = end_reader commands.Leaks

when_reader : IsReader Command when
unfolding when
when_reader = field_reader happening_of happening_word (λ a. then_field koid_of (λ b. ends (commands.When a b))) (λ a. field_reader koid_of key_word (λ b. ends (commands.When a b)) (λ b. end_reader (commands.When a b)))

pin_reader : IsReader Command pin
unfolding pin
pin_reader = end_reader commands.Pin

pinned_show_reader : IsReader Line pinned_show
unfolding pinned_show
pinned_show_reader = end_reader line.PinnedShow

pinned_holders_reader : IsReader Line pinned_holders
unfolding pinned_holders
pinned_holders_reader = field_reader koid_of key_word (λ a. ends (line.PinnedHolders a)) (λ a. end_reader (line.PinnedHolders a))

pinned_leaks_reader : IsReader Line pinned_leaks
unfolding pinned_leaks
pinned_leaks_reader = end_reader line.PinnedLeaks

question_named_choice : IsChoice Command question_named
unfolding question_named
question_named_choice =
    choice_if (codes "show") show show_reader _
    (choice_if (codes "holders") holders holders_reader _
    (choice_if (codes "leaks") leaks leaks_reader _
    (choice_if (codes "when") when when_reader _
    (choice_if (codes "pin") pin pin_reader no_name
    no_choice))))

plain_command_named_choice : IsChoice Command plain_command_named
unfolding plain_command_named
plain_command_named_choice =
    choice_if (codes "goto") goto goto_reader _
    (choice_if (codes "back") back back_reader question_named
    question_named_choice)

command_named_choice : IsChoice Command command_named
unfolding command_named
command_named_choice =
    choice_if (codes "branch") branch branch_reader _
    (choice_if (codes "follow") follow follow_reader plain_command_named
    plain_command_named_choice)

pinned_named_choice : IsChoice Line pinned_named
unfolding pinned_named
pinned_named_choice =
    choice_if (codes "show") pinned_show pinned_show_reader _
    (choice_if (codes "holders") pinned_holders pinned_holders_reader _
    (choice_if (codes "leaks") pinned_leaks pinned_leaks_reader no_name
    no_choice))

show_known : IsKnown Line pinned_named (codes "show")
unfolding pinned_named
show_known = record { reader = pinned_show; known = pinned_show_reader; same = λ c left. refl }

pinned_reader : IsReader Line pinned
unfolding pinned
pinned_reader = names_reader pinned_named pinned_named_choice (codes "show") refl show_known

word_named_choice : IsChoice Line word_named
unfolding word_named
word_named_choice = choice_if (codes "pinned") pinned pinned_reader (λ first. makes (command_named first) line.Command) (makes_choice command_named line.Command command_named_choice)

-- ---- lines

abbrev asked : Placed → Unread → Result Line Refusal
asked first left = call_or_word (process_of first.bytes) first left

abbrev called : ℕ → Call → Line
called process made = line.Command (commands.Call process made)

asked_at : (word : List ℕ) (o : Option ℕ) → process_of word ≡ o → IsKnown Line word_named word ⊎ IsUnknown word_named word → IsKnown Line asked word ⊎ IsUnknown asked word
asked_at word (Some n) is other = inl (record { reader = makes call (called n); known = makes_reader call (called n) call_reader; same = λ c left. rw is refl })
asked_at word None is (inl k) = inl (record { reader = k.reader; known = k.known; same = λ c left. rw is (k.same c left) })
asked_at word None is (inr u) = inr (λ c left. rw is (u c left))

asked_choice : IsChoice Line asked
asked_choice = record { by = λ word. asked_at word (process_of word) refl (word_named_choice.by word) }

show_asked : IsKnown Line asked (codes "show")
unfolding decimal_of word_named command_named plain_command_named question_named
show_asked = record { reader = makes show line.Command; known = makes_reader show line.Command show_reader; same = λ c left. refl }

asked_reader : IsReader Line asked_by
unfolding asked_by
asked_reader = names_reader asked asked_choice (codes "show") refl show_asked

-- the fields of a line have no space
onto_free : (c x : ℕ) (parts : List (List ℕ)) → (x == c) ≡ false → AreFree c parts → AreFree c (onto_first x parts)
onto_free c x [] other free = (rw other refl, tt)
onto_free c x (part ∷ parts) other (here, free) = (rw other here, free)

parts_free : (c : ℕ) (bytes : List ℕ) → AreFree c (parts_of c bytes)
parts_free c [] = (refl, tt)
parts_free c (x ∷ xs) =
    elim (x == c) as (λ b. (x == c) ≡ b → AreFree c (parts_of c (x ∷ xs))) [
      | true ↦ λ e. rw (slice_split-cons_yes (λ byte. byte == c) x xs e) (refl, parts_free c xs)
      | false ↦ λ e. rw (slice_split-cons_no (λ byte. byte == c) x xs e) (onto_free c x (parts_of c xs) e (parts_free c xs))
    ] refl

front_free : (c : ℕ) (before left more : List (List ℕ)) → AreFree c (before ++ left) → AreFree c more → AreFree c (before ++ more)
front_free c [] left more free other = other
front_free c (w ∷ ws) left more (here, free) other = (here, front_free c ws left more free other)

-- fields without a space, which ask something, are those of a line
line_of : (fields : List (List ℕ)) → AreFree 32 fields → ((c b : ℕ) → IsRead (asked_by (from c b fields))) → (text : List ℕ) × (fields_of text ≡ fields) × AsksSomething text
unfolding placed asked_by
line_of [] free read = let r = read 1 1 in absurd (err_ok (BadLine 1) r.0 r.1)
line_of (w ∷ ws) (here, free) read =
    let text : List ℕ = words (w ∷ ws) in
    let same : fields_of text ≡ w ∷ ws = parts_joined 32 w ws here free in
    let r = read 1 (length text + 1) in
    (text, same, (r.0, ap (λ fields. asked_by (from 1 (length text + 1) fields)) same ∙ r.1))

no_line : (before left : List (List ℕ)) → NoneReads asked_by before left → NoneGoesOn before left
no_line before [] none = tt
no_line before (x ∷ xs) none = λ text others same asks.
    none 1 (length text + 1) others (asks.0, sym (ap (λ fields. asked_by (from 1 (length text + 1) fields)) same) ∙ asks.1)

same_column : (c d : ℕ) → BadLine c ≡ BadLine d → c ≡ d
same_column c d h = cc

first_fault : (text : List ℕ) (column : ℕ) → asked_by (unread text) ≡ Err (BadLine column) → IsFirstFault text column
first_fault text column h =
    let f = asked_reader.faults (fields_of text) 1 (length text + 1) (BadLine column) h in
    let free = front_free 32 f.before f.left f.more (subst (AreFree 32) f.whole (parts_free 32 text)) f.free in
    let on = line_of (f.before ++ f.more) free f.goes_on in
    (f.before, f.left, f.whole, same_column column (column_of 1 (length text + 1) f.before f.left) f.place, (on.0, f.more, on.1, on.2), no_line f.before f.left f.none)

some_err : {A : Type 0} (r : Result A Refusal) (fault : Refusal) → (r >>= λ v. Ok (Some v)) ≡ Err fault → r ≡ Err fault
some_err r fault h = made_err r Some fault h

kept_if : {A : Type 0} (long skipped : Bool) (form : Unread → Result A Refusal) (left : Unread) (column : ℕ)
    → ((if long then Err LineTooLong else (if skipped then Ok None else Ok (Some left))) >>= λ o. each_by form o) ≡ Err (BadLine column) → form left ≡ Err (BadLine column)
kept_if true skipped form left column h = cc
kept_if false true form left column h = cc
kept_if false false form left column h = some_err (form left) (BadLine column) h

pub column_told : (text : List ℕ) (column : ℕ) → read_as text ≡ Err (BadLine column) → IsFirstFault text column
unfolding fields_in read_as
column_told text column h = first_fault text column (kept_if (nat_lt most_line_bytes (length text)) (is_skipped text) asked_by (unread text) column h)
