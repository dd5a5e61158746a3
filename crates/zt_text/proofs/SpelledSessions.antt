-- A session text that reads as calls, without skipped lines, is the text that shows the calls: line by line.
use Rattle.std.proofs.Common.{◌≡◌, ℕ, ◌+◌, Bool, true, false, List, [], ◌∷◌, ◌++◌, length, Option, Some, None, Result, Ok, Err, refl, sym, ap, ◌∙◌}
use Rattle.std.specs.Prelude.{◌==◌, not, nat_lt, codes, if◌then◌else◌}
use Rattle.std.specs.List.{list_all, flat_map, onto_first}
use Rattle.std.specs.Str.{bytes_eq}
use Rattle.std.proofs.lemmas.Bool.{and_parts, not-true, eqb-true}
use Rattle.std.proofs.lemmas.Slice.Eq.{bytes_eq-Decides}
use Rattle.zt_rows.specs.declared.refusals.Refusal.{Refusal}
use Rattle.zt_rows.specs.declared.refusals.Refusal.TheVariants.{BadLine, LineTooLong}
use Rattle.zt_rows.specs.declared.calls.Call.{Call}
use Rattle.zt_text.specs.Fields.{Unread, ◌>>=◌, unread}
use Rattle.zt_text.specs.Lines.{lines_of}
use Rattle.zt_text.specs.ReadCalls.{process_call}
use Rattle.zt_text.specs.ReadLines.{most_line_bytes, is_skipped, fields_in, each_by}
use Rattle.zt_text.specs.Answers.{as_line}
use Rattle.zt_text.specs.Calls.{call_line, session_text}
use Rattle.zt_text.specs.Session.{call_in, fault_at, at_line, in_front, calls_in, first_line, calls_of_lines, session_of}
use Rattle.zt_text.specs.Spellings.{skips_nothing, is_whole}
use Rattle.zt_text.proofs.SpelledLines.{same_ok, err_ok, session_line_spelled}

-- ---- lines with their line feeds are the text

last_line : (feed : Bool) (byte : ℕ) → (byte == 10) ≡ feed → feed ≡ true → flat_map as_line (if feed then [] ∷ [] else onto_first byte []) ≡ byte ∷ []
last_line true byte is ends = ap (λ b. b ∷ []) (sym (eqb-true byte 10 is))
last_line false byte is ends = cc

byte_before : (feed : Bool) (first byte : ℕ) (bytes : List ℕ) (lines : List (List ℕ)) → (first == 10) ≡ feed → flat_map as_line lines ≡ byte ∷ bytes
    → flat_map as_line (if feed then [] ∷ lines else onto_first first lines) ≡ first ∷ byte ∷ bytes
byte_before true first byte bytes lines is rest =
    ap (λ b. b ∷ flat_map as_line lines) (sym (eqb-true first 10 is)) ∙ ap (λ bs. first ∷ bs) rest
byte_before false first byte bytes [] is rest = cc
byte_before false first byte bytes (l ∷ ls) is rest = ap (λ bs. first ∷ bs) rest

pub lines_joined : (text : List ℕ) → is_whole text ≡ true → flat_map as_line (lines_of text) ≡ text
lines_joined [] ends = refl
lines_joined (byte ∷ []) ends = last_line (byte == 10) byte refl ends
lines_joined (first ∷ byte ∷ bytes) ends =
    byte_before (first == 10) first byte bytes (lines_of (byte ∷ bytes)) refl (lines_joined (byte ∷ bytes) ends)

-- ---- what a line without a call is

ok_none : {A : Type 0} (value : A) (r : Result (Option A) Refusal) → r ≡ Ok None → r ≡ Ok (Some value) → ⊥
ok_none value r one other = cc

some_none : {A : Type 0} (r : Result A Refusal) → (r >>= λ v. Ok (Some v)) ≡ Ok None → ⊥
some_none (Ok v) h = ok_none v (Ok (Some v)) h refl
some_none (Err e) h = err_ok e None h

skipped_if : {A : Type 0} (long skipped : Bool) (form : Unread → Result A Refusal) (left : Unread)
    → ((if long then Err LineTooLong else (if skipped then Ok None else Ok (Some left))) >>= λ o. each_by form o) ≡ Ok None → skipped ≡ true
skipped_if true skipped form left h = absurd (err_ok LineTooLong None h)
skipped_if false true form left h = refl
skipped_if false false form left h = absurd (some_none (form left) h)

pub skipped : (text : List ℕ) → call_in text ≡ Ok None → is_skipped text ≡ true
unfolding fields_in call_in
skipped text h = skipped_if (nat_lt most_line_bytes (length text)) (is_skipped text) process_call (unread text) h

kept_call : (text : List ℕ) (made : Option (ℕ × Call)) (rest : List (ℕ × Call)) → call_in text ≡ Ok made → not (is_skipped text) ≡ true
    → as_line text ++ flat_map call_line rest ≡ flat_map call_line (in_front made rest)
kept_call text None rest h kept =
    let is = skipped text h in
    let other = not-true (is_skipped text) kept in
    cc
kept_call text (Some made) rest h kept = ap (λ t. as_line t ++ flat_map call_line rest) (session_line_spelled text made h)

-- ---- calls in turn

pub call_then : (number : ℕ) (r : Result (Option (ℕ × Call)) Refusal) (others : Result (List (ℕ × Call)) (ℕ × Refusal)) (calls : List (ℕ × Call))
    → (at_line number r >>= λ made. others >>= λ rest. Ok (in_front made rest)) ≡ Ok calls
    → (made : Option (ℕ × Call)) × (rest : List (ℕ × Call)) × (r ≡ Ok made) × (others ≡ Ok rest) × (in_front made rest ≡ calls)
call_then number (Ok made) (Ok rest) calls h = (made, rest, refl, refl, same_ok (in_front made rest) calls (Ok (in_front made rest)) refl h)
call_then number (Ok made) (Err fault) calls h = absurd (err_ok fault calls h)
call_then number (Err reason) others calls h = absurd (err_ok (fault_at number reason) calls h)

calls_spelled : (number : ℕ) (lines : List (List ℕ)) (calls : List (ℕ × Call)) → calls_in number lines ≡ Ok calls
    → list_all (λ bytes. not (is_skipped bytes)) lines ≡ true → flat_map as_line lines ≡ flat_map call_line calls
unfolding calls_in
calls_spelled number [] calls h kept = ap (flat_map call_line) (same_ok [] calls (Ok []) refl h)
calls_spelled number (text ∷ lines) calls h kept =
    let parts = and_parts (not (is_skipped text)) (list_all (λ bytes. not (is_skipped bytes)) lines) kept in
    let read = call_then number (call_in text) (calls_in (number + 1) lines) calls h in
    ap (λ bytes. as_line text ++ bytes) (calls_spelled (number + 1) lines read.1 read.3 parts.1)
    ∙ kept_call text read.0 read.1 read.2 parts.0 ∙ ap (flat_map call_line) read.4

-- ---- the first line

first_if : (long same : Bool) (u : Unit {0}) → (if long then Err LineTooLong else (if same then Ok tt else Err (BadLine 1))) ≡ Ok u → same ≡ true
first_if true same u h = absurd (err_ok LineTooLong u h)
first_if false true u h = refl
first_if false false u h = absurd (err_ok (BadLine 1) u h)

pub first_spelled : (text : List ℕ) (u : Unit {0}) → first_line text ≡ Ok u → text ≡ codes "zxtt 1"
first_spelled text u h =
    (bytes_eq-Decides text (codes "zxtt 1")).0 (first_if (nat_lt most_line_bytes (length text)) (bytes_eq text (codes "zxtt 1")) u h)

pub line_then : (r : Result (Unit {0}) Refusal) (others : Result (List (ℕ × Call)) (ℕ × Refusal)) (calls : List (ℕ × Call)) → (at_line 1 r >>= λ _. others) ≡ Ok calls
    → (u : Unit {0}) × (r ≡ Ok u) × (others ≡ Ok calls)
line_then (Ok u) others calls h = (u, refl, h)
line_then (Err reason) others calls h = absurd (err_ok (fault_at 1 reason) calls h)

text_spelled : (lines : List (List ℕ)) (calls : List (ℕ × Call)) → calls_of_lines lines ≡ Ok calls
    → list_all (λ bytes. not (is_skipped bytes)) lines ≡ true → flat_map as_line lines ≡ session_text calls
unfolding session_text
text_spelled [] calls h kept = cc
text_spelled (first ∷ lines) calls h kept =
    let parts = and_parts (not (is_skipped first)) (list_all (λ bytes. not (is_skipped bytes)) lines) kept in
    let read = line_then (first_line first) (calls_in 2 lines) calls h in
    ap (λ bytes. as_line bytes ++ flat_map as_line lines) (first_spelled first read.0 read.1)
    ∙ ap (λ bytes. codes "zxtt 1" ++ (10 ∷ bytes)) (calls_spelled 2 lines calls read.2 parts.1)

pub session_spelled : (text : List ℕ) (calls : List (ℕ × Call)) → session_of text ≡ Ok calls → skips_nothing text ≡ true → is_whole text ≡ true
    → text ≡ session_text calls
unfolding session_of
session_spelled text calls h kept ends = sym (lines_joined text ends) ∙ text_spelled (lines_of text) calls h kept
