-- A text that reads as a tree notes one note for each moment.
use Rattle.std.proofs.Common.{◌≡◌, ℕ, ◌+◌, Bool, true, false, List, [], ◌∷◌, ◌++◌, length, Option, Some, None, Result, Ok, Err, refl, sym, ap, ◌∙◌, arith, length-append}
use Rattle.std.specs.Prelude.{◌==◌, ◌&&◌, not, nat_le, nat_lt, ◌^◌, ◌-◌, codes, if◌then◌else◌}
use Rattle.std.specs.Char.{is_ascii_digit}
use Rattle.std.specs.List.{list_all}
use Rattle.std.specs.Str.{bytes_eq}
use Rattle.std.proofs.lemmas.Bool.{and_parts}
use Rattle.std.proofs.lemmas.Bool.Decides.{nat_tests}
use Rattle.std.proofs.lemmas.List.Splits.{join_with_byte-slice_split}
use Rattle.zt_rows.specs.declared.refusals.Refusal.{Refusal}
use Rattle.zt_rows.specs.declared.refusals.Refusal.TheVariants.{BadLine, LineTooLong}
use Rattle.zt_rows.specs.declared.calls.Call.{Call}
use Rattle.zt_rows.specs.declared.saved.Saved.{Saved}
use Rattle.zt_rows.specs.declared.saved.SavedCall.{SavedCall}
use Rattle.zt_rows.specs.declared.saved.Cursor.{Cursor}
use Rattle.zt_rows.specs.declared.saved.Cursor.TheVariants.{Follows, At}
use Rattle.std.specs.Option.{ok_or}
use Rattle.std.specs.Str.Parse.{digits_value}
use Rattle.zt_rows.specs.CallsInARow.{in_a_row}
use Rattle.zt_text.specs.Numbers.{has_leading_zero, is_decimal, decimal_of, koid_of}
use Rattle.zt_text.specs.ReadCalls.{call, process_call}
use Rattle.zt_text.specs.Fields.{Placed, Unread, ◌>>=◌, unread, placed, fields_of, first_of, field}
use Rattle.zt_text.specs.Session.{in_front, call_in, calls_in, calls_of_lines, first_line, session_of}
use Rattle.zt_text.specs.Lines.{lines_of}
use Rattle.zt_text.specs.ReadLines.{most_line_bytes, is_skipped, fields_in, each_by}
use Rattle.zt_text.specs.ShownNumbers.{words}
use Rattle.zt_text.specs.SavedTexts.{cursor_words, saved_call, saved_branch, saved_cursor, bare, add_call, add_branch, add_cursor, takes_branches, takes_calls, next_client, with_call, with_branch, with_cursor, with_word, with_fields, with_any, with_line, with_lines, tree_lines, saved_by, saved_of}
use Rattle.zt_text.specs.Notes.{NotedSoFar, is_name_line, is_note_line, is_place_line, notes_of, noted_in, nothing_noted, behind_first, with_comment, with_noted}
use Rattle.zt_text.proofs.SavedLemmas.{moments_length}
use Rattle.zt_text.proofs.SpelledSessions.{skipped, call_then, line_then as session_then}
use Rattle.zt_text.proofs.SpelledLines.{kept, same_ok, err_ok, value_of, texts, texts_placed, named}
use Rattle.zt_text.proofs.SpelledTrees.{saved_call_spelled, saved_branch_spelled, saved_cursor_spelled, placed_if, read_if, line_then}

-- a line notes as many moments as it adds to a tree
abbrev Counts : Saved → List ℕ → Saved → Type 0
Counts tree line more = (noted : NotedSoFar) → length (with_noted noted line).notes + length tree.moments ≡ length noted.notes + length more.moments

one_more : (noted : NotedSoFar) (made : SavedCall) (moments : List SavedCall) → length (noted.notes ++ (noted.waiting ∷ [])) + length moments ≡ length noted.notes + length (moments ++ (made ∷ []))
one_more noted made moments =
    let more : length (noted.notes ++ (noted.waiting ∷ [])) ≡ length noted.notes + 1 = length-append noted.notes (noted.waiting ∷ []) in
    let longer : length (moments ++ (made ∷ [])) ≡ length moments + 1 = length-append moments (made ∷ []) in
    omega arith

call_counted : (tree : Saved) (left : Unread) (more : Saved) → with_call tree left ≡ Ok more → Counts tree (words (codes "call" ∷ texts left.fields)) more
unfolding with_call
call_counted tree left more h noted =
    let t = value_of (saved_call left) (add_call tree) more h in
    ap (λ ws. length (with_noted noted (words ws)).notes + length tree.moments) (sym (saved_call_spelled left t.0 t.1))
    ∙ one_more noted t.0 tree.moments
    ∙ ap (λ (m : Saved). length noted.notes + length m.moments) t.2

branch_counted : (tree : Saved) (left : Unread) (more : Saved) → with_branch tree left ≡ Ok more → Counts tree (words (codes "branch" ∷ texts left.fields)) more
unfolding with_branch
branch_counted tree left more h noted =
    let t = value_of (saved_branch left) (add_branch tree) more h in
    ap (λ ws. length (with_noted noted (words ws)).notes + length tree.moments) (sym (saved_branch_spelled left t.0 t.1))
    ∙ ap (λ (m : Saved). length noted.notes + length m.moments) t.2

cursor_none : (noted : NotedSoFar) (client : ℕ) (made : Cursor) → length (with_noted noted (words (cursor_words client made))).notes ≡ length noted.notes
cursor_none noted client (Follows name) = refl
cursor_none noted client (At moment) = refl

cursor_counted : (tree : Saved) (left : Unread) (more : Saved) → with_cursor tree left ≡ Ok more → Counts tree (words (codes "cursor" ∷ texts left.fields)) more
unfolding with_cursor
cursor_counted tree left more h noted =
    let t = value_of (saved_cursor (next_client tree) left) (add_cursor tree) more h in
    ap (λ ws. length (with_noted noted (words ws)).notes + length tree.moments) (sym (saved_cursor_spelled (next_client tree) left t.0 t.1))
    ∙ ap (λ n. n + length tree.moments) (cursor_none noted (next_client tree) t.0)
    ∙ ap (λ (m : Saved). length noted.notes + length m.moments) t.2

word_counted : (tree : Saved) (word : Placed) (left : Unread) (more : Saved) → with_word tree word left ≡ Ok more → Counts tree (words (word.bytes ∷ texts left.fields)) more
unfolding with_word
word_counted tree word left more =
    placed_if (λ w. Counts tree (words (w ∷ texts left.fields)) more) (bytes_eq word.bytes (codes "call")) (takes_calls tree) word.bytes (codes "call") (with_call tree left) _ more refl
    (λ takes. call_counted tree left more)
    (placed_if (λ w. Counts tree (words (w ∷ texts left.fields)) more) (bytes_eq word.bytes (codes "branch")) (takes_branches tree) word.bytes (codes "branch") (with_branch tree left) _ more refl
    (λ takes. branch_counted tree left more)
    (named (λ w. Counts tree (words (w ∷ texts left.fields)) more) word.bytes (codes "cursor") (with_cursor tree left) (Err (BadLine word.column)) more (cursor_counted tree left more)
    (λ h. absurd (err_ok (BadLine word.column) more h))))

first_counted : (tree : Saved) (fields : List Placed) (behind : ℕ) (more : Saved) → (first_of fields behind >>= λ word. with_word tree word.0 word.1) ≡ Ok more → Counts tree (words (texts fields)) more
first_counted tree [] behind more h = absurd (err_ok (BadLine behind) more h)
first_counted tree (x ∷ xs) behind more h = word_counted tree x (record { fields = xs; behind = behind }) more h

fields_counted : (tree : Saved) (left : Unread) (more : Saved) → with_fields tree left ≡ Ok more → Counts tree (words (texts left.fields)) more
unfolding with_fields
fields_counted tree left more h = first_counted tree left.fields left.behind more h

-- a comment notes none, and adds none
comment_none : (noted : NotedSoFar) (line : List ℕ) → length (with_comment noted line).notes ≡ length noted.notes
comment_none noted line =
    elim (is_name_line line) as (λ b. length (if b then record noted { names = noted.names ++ (line ++ (10 ∷ [])) } else (if is_note_line line then record noted { waiting = noted.waiting ++ (line ++ (10 ∷ [])) } else noted)).notes ≡ length noted.notes) [
      | true ↦ refl
      | false ↦ elim (is_note_line line) as (λ b. length (if b then record noted { waiting = noted.waiting ++ (line ++ (10 ∷ [])) } else noted).notes ≡ length noted.notes) [ true ↦ refl | false ↦ refl ]
    ]

skipped_none : (long skipped : Bool) (tree : Saved) (left : Unread) (more : Saved) → skipped ≡ true
    → ((if long then Err LineTooLong else (if skipped then Ok None else Ok (Some left))) >>= λ o. with_any tree o) ≡ Ok more → tree ≡ more
skipped_none true skipped tree left more is h = absurd (err_ok LineTooLong more h)
skipped_none false true tree left more is h = same_ok tree more (Ok tree) refl h
skipped_none false false tree left more is h = cc

pub line_counted : (tree : Saved) (line : List ℕ) (more : Saved) → with_line tree line ≡ Ok more → Counts tree line more
unfolding with_line fields_in
line_counted tree line more h noted =
    elim (is_skipped line) as (λ b. is_skipped line ≡ b → length (with_noted noted line).notes + length tree.moments ≡ length noted.notes + length more.moments) [
      | true ↦ λ e.
          let same : tree ≡ more = skipped_none (nat_lt most_line_bytes (length line)) (is_skipped line) tree (unread line) more e h in
          rw e (ap (λ n. n + length tree.moments) (comment_none noted line) ∙ ap (λ (m : Saved). length noted.notes + length m.moments) same)
      | false ↦ λ e.
          let read = read_if (nat_lt most_line_bytes (length line)) (is_skipped line) tree (unread line) more e h in
          let same : words (texts (unread line).fields) ≡ line = ap words (texts_placed 1 (fields_of line)) ∙ join_with_byte-slice_split 32 line in
          ap (λ bytes. length (with_noted noted bytes).notes + length tree.moments) (sym same) ∙ fields_counted tree (unread line) more read noted
    ] refl

lines_counted : (noted : NotedSoFar) (tree : Saved) (number : ℕ) (lines : List (List ℕ)) (whole : Saved) → with_lines tree number lines ≡ Ok whole
    → length (noted_in noted lines).notes + length tree.moments ≡ length noted.notes + length whole.moments
unfolding with_lines
lines_counted noted tree number [] whole h = ap (λ (m : Saved). length noted.notes + length m.moments) (same_ok tree whole (Ok tree) refl h)
lines_counted noted tree number (line ∷ lines) whole h =
    let read = line_then number (with_line tree line) (λ more. with_lines more (number + 1) lines) whole h in
    let here : length (with_noted noted line).notes + length tree.moments ≡ length noted.notes + length read.0.moments = line_counted tree line read.0 read.1 noted in
    let others : length (noted_in (with_noted noted line) lines).notes + length read.0.moments ≡ length (with_noted noted line).notes + length whole.moments = lines_counted (with_noted noted line) read.0 (number + 1) lines whole read.2 in
    omega arith

-- ---- version 1

ok_some : {A B C : Type 0} (o : Option A) (fault : Refusal) (f : A → Result B Refusal) (g : B → Result C Refusal) (made : C) → ((ok_or o fault >>= f) >>= g) ≡ Ok made → (v : A) × (o ≡ Some v)
ok_some None fault f g made h = absurd (err_ok fault made h)
ok_some (Some v) fault f g made h = (v, refl)

process_first : (fields : List Placed) (behind : ℕ) (made : ℕ × Call) → process_call (record { fields = fields; behind = behind }) ≡ Ok made
    → (word : List ℕ) × (others : List (List ℕ)) × (texts fields ≡ word ∷ others) × (v : ℕ) × (koid_of word ≡ Some v)
unfolding process_call field
process_first [] behind made h = absurd (err_ok (BadLine behind) made h)
process_first (x ∷ xs) behind made h =
    let found = ok_some (koid_of x.bytes) (BadLine x.column) (λ value. Ok (value, record { fields = xs; behind = behind })) (λ process. call process.1 >>= λ done. Ok (process.0, done)) made h in
    (x.bytes, texts xs, refl, found.0, found.1)

decimal_if : (is few : Bool) (n v : ℕ) → (if is && few then Some n else None) ≡ Some v → is ≡ true
decimal_if true few n v h = refl
decimal_if false few n v h = cc

koid_digits : (word : List ℕ) (v : ℕ) → koid_of word ≡ Some v → (nat_lt 0 (length word) ≡ true) × (list_all is_ascii_digit word ≡ true)
unfolding decimal_of
koid_digits word v h =
    let is : is_decimal word ≡ true = decimal_if (is_decimal word) (nat_le (digits_value 10 word) (2 ^ 64 - 1)) (digits_value 10 word) v h in
    let parts = and_parts (nat_lt 0 (length word) && not (has_leading_zero word)) (list_all is_ascii_digit word) is in
    ((and_parts (nat_lt 0 (length word)) (not (has_leading_zero word)) parts.0).0, parts.1)

digit_other : (d : ℕ) → is_ascii_digit d ≡ true → ((98 == d) ≡ false) × ((99 == d) ≡ false)
digit_other d is = (grind (arith, nat_tests), grind (arith, nat_tests))

no_place : (word : List ℕ) (others : List (List ℕ)) → nat_lt 0 (length word) ≡ true → list_all is_ascii_digit word ≡ true → is_place_line (words (word ∷ others)) ≡ false
no_place [] others some are = cc
no_place (d ∷ ds) [] some are = let other = digit_other d (and_parts (is_ascii_digit d) (list_all is_ascii_digit ds) are).0 in rw (other.0, other.1) refl
no_place (d ∷ ds) (w ∷ ws) some are = let other = digit_other d (and_parts (is_ascii_digit d) (list_all is_ascii_digit ds) are).0 in rw (other.0, other.1) refl

call_place : (line : List ℕ) (made : ℕ × Call) → call_in line ≡ Ok (Some made) → is_place_line line ≡ false
unfolding call_in
call_place line made h =
    let first = process_first (placed 1 (fields_of line)) (length line + 1) made (kept process_call line made h) in
    let digits = koid_digits first.0 first.3 first.4 in
    let same : words (first.0 ∷ first.1) ≡ line = ap words (sym first.2) ∙ ap words (texts_placed 1 (fields_of line)) ∙ join_with_byte-slice_split 32 line in
    ap is_place_line (sym same) ∙ no_place first.0 first.1 digits.0 digits.1

none_skipped : (long skipped : Bool) (left : Unread) (made : ℕ × Call) → ((if long then Err LineTooLong else (if skipped then Ok None else Ok (Some left))) >>= λ o. each_by process_call o) ≡ Ok (Some made) → skipped ≡ false
none_skipped true skipped left made h = absurd (err_ok LineTooLong (Some made) h)
none_skipped false true left made h = cc
none_skipped false false left made h = refl

call_kept : (line : List ℕ) (made : ℕ × Call) → call_in line ≡ Ok (Some made) → is_skipped line ≡ false
unfolding call_in fields_in
call_kept line made h = none_skipped (nat_lt most_line_bytes (length line)) (is_skipped line) (unread line) made h

session_line_counted : (noted : NotedSoFar) (line : List ℕ) (made : Option (ℕ × Call)) (rest : List (ℕ × Call)) → call_in line ≡ Ok made
    → length (with_noted noted line).notes + length rest ≡ length noted.notes + length (in_front made rest)
session_line_counted noted line None rest h = rw (skipped line h) (ap (λ n. n + length rest) (comment_none noted line))
session_line_counted noted line (Some made) rest h =
    let more : length (noted.notes ++ (noted.waiting ∷ [])) ≡ length noted.notes + 1 = length-append noted.notes (noted.waiting ∷ []) in
    let sum : length (noted.notes ++ (noted.waiting ∷ [])) + length rest ≡ length noted.notes + length (made ∷ rest) = omega arith in
    rw (call_kept line made h, call_place line made h) sum

session_counted : (noted : NotedSoFar) (number : ℕ) (lines : List (List ℕ)) (calls : List (ℕ × Call)) → calls_in number lines ≡ Ok calls
    → length (noted_in noted lines).notes ≡ length noted.notes + length calls
unfolding calls_in
session_counted noted number [] calls h =
    let none : calls ≡ [] = same_ok calls [] (Ok []) h refl in
    let count : length calls ≡ 0 = ap length none in
    omega arith
session_counted noted number (line ∷ lines) calls h =
    let read = call_then number (call_in line) (calls_in (number + 1) lines) calls h in
    let here : length (with_noted noted line).notes + length read.1 ≡ length noted.notes + length (in_front read.0 read.1) = session_line_counted noted line read.0 read.1 read.2 in
    let others : length (noted_in (with_noted noted line) lines).notes ≡ length (with_noted noted line).notes + length read.1 = session_counted (with_noted noted line) (number + 1) lines read.1 read.3 in
    let all : length (in_front read.0 read.1) ≡ length calls = ap length read.4 in
    omega arith

-- ---- both

row_counted : (lines : List (List ℕ)) (calls : List (ℕ × Call)) → calls_of_lines lines ≡ Ok calls → length (noted_in nothing_noted (behind_first lines)).notes ≡ length calls
row_counted [] calls h = absurd (err_ok (1, BadLine 1) calls h)
row_counted (first ∷ lines) calls h =
    let read = session_then (first_line first) (calls_in 2 lines) calls h in
    let all : length (noted_in nothing_noted lines).notes ≡ 0 + length calls = session_counted nothing_noted 2 lines calls read.2 in
    omega arith

row_saved : (r : Result (List (ℕ × Call)) (ℕ × Refusal)) (saved : Saved) → (r >>= λ calls. Ok (in_a_row calls)) ≡ Ok saved → (calls : List (ℕ × Call)) × (r ≡ Ok calls) × (in_a_row calls ≡ saved)
row_saved (Ok calls) saved h = (calls, refl, same_ok (in_a_row calls) saved (Ok (in_a_row calls)) refl h)
row_saved (Err fault) saved h = absurd (err_ok fault saved h)

tree_counted : (first : List ℕ) (lines : List (List ℕ)) (same : Bool) (text : List ℕ) (saved : Saved) → bytes_eq first (codes "zxtt 2") ≡ same → lines_of text ≡ first ∷ lines
    → saved_by (if same then Some lines else None) text ≡ Ok saved → length (noted_in nothing_noted lines).notes ≡ length saved.moments
unfolding session_of
tree_counted first lines true text saved is at h =
    let all : length (noted_in nothing_noted lines).notes + 0 ≡ 0 + length saved.moments = lines_counted nothing_noted bare 2 lines saved h in
    omega arith
tree_counted first lines false text saved is at h =
    let read = row_saved (session_of text) saved h in
    let all : length (noted_in nothing_noted (behind_first (lines_of text))).notes ≡ length read.0 = row_counted (lines_of text) read.0 read.1 in
    ap (λ ls. length (noted_in nothing_noted (behind_first ls)).notes) (sym at) ∙ all ∙ sym (moments_length 0 read.0) ∙ ap (λ (m : Saved). length m.moments) read.2

text_counted : (text : List ℕ) (lines : List (List ℕ)) (saved : Saved) → lines_of text ≡ lines → saved_by (tree_lines lines) text ≡ Ok saved
    → length (noted_in nothing_noted (behind_first lines)).notes ≡ length saved.moments
unfolding session_of
text_counted text [] saved at h =
    let read = row_saved (session_of text) saved h in
    absurd (err_ok (1, BadLine 1) read.0 (ap calls_of_lines (sym at) ∙ read.1))
text_counted text (first ∷ lines) saved at h = tree_counted first lines (bytes_eq first (codes "zxtt 2")) text saved refl at h

pub moments_counted : (text : List ℕ) (saved : Saved) → saved_of text ≡ Ok saved → length (notes_of text).notes ≡ length saved.moments
unfolding saved_of notes_of
moments_counted text saved h = text_counted text (lines_of text) saved refl h
