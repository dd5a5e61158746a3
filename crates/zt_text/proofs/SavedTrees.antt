-- The session text of a tree reads as that tree.
use Rattle.std.proofs.Common.{lit<, lit≤, ◌≡◌, ℕ, ◌+◌, ◌^◌, ◌<◌, ◌≤◌, Bool, true, false, List, [], ◌∷◌, ◌++◌, length, Some, None, Result, Ok, refl, sym, ap, ◌∙◌, arith, All, append_assoc, length-append}
use Rattle.std.specs.Prelude.{◌&&◌, nat_lt, codes, if◌then◌else◌}
use Rattle.std.specs.List.{list_all, flat_map}
use Rattle.std.specs.Fmt.{decimal}
use Rattle.std.proofs.lemmas.Bool.{eq-eqb}
use Rattle.std.proofs.lemmas.Bool.Decides.{nat_tests}
use Rattle.std.proofs.lemmas.List.{append-nil}
use Rattle.std.proofs.lemmas.List.Elements.{All-head, All-tail}
use Rattle.zt_rows.specs.declared.refusals.Refusal.{Refusal}
use Rattle.zt_rows.specs.declared.calls.Call.{Call}
use Rattle.zt_rows.specs.declared.saved.Saved.{Saved}
use Rattle.zt_rows.specs.declared.saved.SavedCall.{SavedCall}
use Rattle.zt_rows.specs.declared.saved.SavedBranch.{SavedBranch}
use Rattle.zt_rows.specs.declared.saved.Cursor.{Cursor}
use Rattle.zt_rows.specs.declared.saved.Cursor.TheVariants.{Follows, At}
use Rattle.zt_text.specs.Names.{is_visible, name_of}
use Rattle.zt_text.specs.Fields.{◌>>=◌, placed, fields_of, field, ended}
use Rattle.zt_text.specs.ReadCalls.{process_call}
use Rattle.zt_text.specs.ReadLines.{fields_in, is_skipped, only_name}
use Rattle.zt_text.specs.ShownNumbers.{words}
use Rattle.zt_text.specs.Calls.{call_name, call_arguments}
use Rattle.zt_text.specs.Answers.{as_line}
use Rattle.zt_text.specs.Lines.{lines_of}
use Rattle.zt_text.specs.Session.{at_line, first_line, calls_in, calls_of_lines, session_of}
use Rattle.zt_rows.specs.CallsInARow.{in_a_row}
use Rattle.zt_text.specs.SavedTexts.{saved_call_words, branch_words, place_words, cursor_words, saved_call_line, branch_line, cursor_lines, saved_text, saved_call, saved_branch, client_of, follows, at_moment, place_named, saved_cursor, with_call, with_branch, with_cursor, with_word, with_fields, with_line, with_lines, tree_lines, saved_of, IsName, IsSavedCall, IsSavedBranch, IsSavedCursor, IsSaved}
use Rattle.zt_text.proofs.ShownFields.{decimal_read}
use Rattle.zt_text.proofs.ShownWords.{is_free, is_seen, AreSeen, parts_joined, free_seen, all_free, line_free, seen_if, seen_decimal}
use Rattle.zt_text.proofs.ShownLengths.{saved_call_few, branch_few, follow_few, at_few}
use Rattle.zt_text.proofs.ShownCalls.{handle_read, key_read, call_read, words_seen}
use Rattle.zt_text.specs.ProofsOnly.SavedTexts.{row_of}
use Rattle.zt_text.proofs.LineLemmas.{line_written}
use Rattle.zt_text.proofs.SavedLemmas.{of_row}
use Rattle.zt_text.proofs.SpelledSessions.{first_spelled, line_then}

abbrev pub tree : List SavedCall → List SavedBranch → List Cursor → Saved
tree moments branches cursors = record { moments = moments; branches = branches; cursors = cursors }

-- ---- names

name_if : (some all : Bool) (name : List ℕ) → (if some && all then Some name else None) ≡ Some name → all ≡ true
name_if true true name h = refl
name_if true false name h = cc
name_if false all name h = cc

visible_name : (name : List ℕ) → IsName name → list_all is_visible name ≡ true
unfolding name_of
visible_name name is = name_if (nat_lt 0 (length name)) (list_all is_visible name) name is

seen_name : (name : List ℕ) → IsName name → is_seen name ≡ true
seen_name name is = seen_if is_visible (λ b h. grind (arith, nat_tests)) name (visible_name name is)

seen_moment : (n : ℕ) → n < 2 ^ 32 → is_seen (decimal n) ≡ true
seen_moment n small = seen_decimal n (omega (arith, small))

-- ---- one line

-- its fields are its words
line_read : (before : Saved) (word : List ℕ) (others : List (List ℕ)) → is_skipped (words (word ∷ others)) ≡ false
    → nat_lt 140000 (length (words (word ∷ others))) ≡ false → AreSeen (word ∷ others)
    → with_line before (words (word ∷ others)) ≡ with_fields before (record { fields = placed 1 (word ∷ others); behind = length (words (word ∷ others)) + 1 })
unfolding with_line fields_in
line_read before word others asked few (here, are) =
    let fields : fields_of (words (word ∷ others)) ≡ word ∷ others = parts_joined 32 word others (free_seen 32 (lit≤ tt) word here) (all_free others are) in
    rw (few, asked, fields) refl

-- it is read, and then the lines behind it
pub line_taken : (before more : Saved) (number : ℕ) (line rest : List ℕ) → is_free 10 line ≡ true → with_line before line ≡ Ok more
    → with_lines before number (lines_of (as_line line ++ rest)) ≡ with_lines more (number + 1) (lines_of rest)
unfolding with_lines
line_taken before more number line rest free read =
    ap (λ bytes. with_lines before number (lines_of bytes)) (append_assoc line (10 ∷ []) rest)
    ∙ ap (with_lines before number) (line_written line rest free)
    ∙ ap (λ (r : Result Saved Refusal). at_line number r >>= λ made. with_lines made (number + 1) (lines_of rest)) read

-- ---- moments

saved_call_read : (made : SavedCall) → IsSavedCall made → (column behind : ℕ)
    → saved_call (record { fields = placed column (decimal made.parent ∷ decimal made.process ∷ call_name made.call ∷ call_arguments made.call); behind = behind }) ≡ Ok made
unfolding saved_call process_call placed field
saved_call_read made (parent, process, within) column behind =
    rw (
      handle_read made.parent parent,
      key_read made.process process,
      call_read made.call within (column + length (decimal made.parent) + 1 + length (decimal made.process) + 1) behind,
    ) refl

call_fields : (moments : List SavedCall) (made : SavedCall) → IsSavedCall made → (behind : ℕ)
    → with_fields (tree moments [] []) (record { fields = placed 1 (saved_call_words made); behind = behind }) ≡ Ok (tree (moments ++ (made ∷ [])) [] [])
unfolding with_fields with_word with_call placed
call_fields moments made is behind = rw (saved_call_read made is 6 behind) refl

pub call_seen : (made : SavedCall) → IsSavedCall made → AreSeen (saved_call_words made)
call_seen made (parent, process, within) =
    (refl, (seen_moment made.parent parent, (seen_decimal made.process process, words_seen made.call within)))

pub call_taken : (moments : List SavedCall) (made : SavedCall) → IsSavedCall made
    → with_line (tree moments [] []) (words (saved_call_words made)) ≡ Ok (tree (moments ++ (made ∷ [])) [] [])
call_taken moments made is =
    line_read (tree moments [] []) (codes "call") (decimal made.parent ∷ decimal made.process ∷ call_name made.call ∷ call_arguments made.call)
    refl (saved_call_few made.parent made.process made.call is.0 is.1 is.2) (call_seen made is)
    ∙ call_fields moments made is (length (words (saved_call_words made)) + 1)

calls_taken : (moments more : List SavedCall) (number : ℕ) (rest : List ℕ) → All IsSavedCall more
    → with_lines (tree moments [] []) number (lines_of (flat_map saved_call_line more ++ rest)) ≡ with_lines (tree (moments ++ more) [] []) (number + length more) (lines_of rest)
calls_taken moments [] number rest are =
    ap (λ (ms : List SavedCall). with_lines (tree ms [] []) number (lines_of rest)) (sym (append-nil moments))
    ∙ ap (λ (n : ℕ). with_lines (tree (moments ++ []) [] []) n (lines_of rest)) (let same : number ≡ number + 0 = omega arith in same)
calls_taken moments (made ∷ more) number rest are =
    let is : IsSavedCall made = All-head IsSavedCall made more are in
    let same : number + 1 + length more ≡ number + length (made ∷ more) = omega arith in
    ap (λ bytes. with_lines (tree moments [] []) number (lines_of bytes)) (append_assoc (saved_call_line made) (flat_map saved_call_line more) rest)
    ∙ line_taken (tree moments [] []) (tree (moments ++ (made ∷ [])) [] []) number (words (saved_call_words made)) (flat_map saved_call_line more ++ rest)
    (line_free (saved_call_words made) (call_seen made is)) (call_taken moments made is)
    ∙ calls_taken (moments ++ (made ∷ [])) more (number + 1) rest (All-tail IsSavedCall made more are)
    ∙ ap (λ (ms : List SavedCall). with_lines (tree ms [] []) (number + 1 + length more) (lines_of rest)) (append_assoc moments (made ∷ []) more)
    ∙ ap (λ (n : ℕ). with_lines (tree (moments ++ (made ∷ more)) [] []) n (lines_of rest)) same

-- ---- branches

saved_branch_read : (branch : SavedBranch) → IsSavedBranch branch → (column behind : ℕ)
    → saved_branch (record { fields = placed column (branch.name ∷ decimal branch.head ∷ []); behind = behind }) ≡ Ok branch
unfolding saved_branch placed field ended
saved_branch_read branch (name, short, head) column behind = rw (name, handle_read branch.head head) refl

branch_fields : (moments : List SavedCall) (branches : List SavedBranch) (branch : SavedBranch) → IsSavedBranch branch → (behind : ℕ)
    → with_fields (tree moments branches []) (record { fields = placed 1 (branch_words branch); behind = behind }) ≡ Ok (tree moments (branches ++ (branch ∷ [])) [])
unfolding with_fields with_word with_branch placed
branch_fields moments branches branch is behind = rw (saved_branch_read branch is 8 behind) refl

pub branch_seen : (branch : SavedBranch) → IsSavedBranch branch → AreSeen (branch_words branch)
branch_seen branch (name, short, head) = (refl, (seen_name branch.name name, (seen_moment branch.head head, tt)))

branch_taken : (moments : List SavedCall) (branches : List SavedBranch) (branch : SavedBranch) → IsSavedBranch branch
    → with_line (tree moments branches []) (words (branch_words branch)) ≡ Ok (tree moments (branches ++ (branch ∷ [])) [])
branch_taken moments branches branch is =
    line_read (tree moments branches []) (codes "branch") (branch.name ∷ decimal branch.head ∷ [])
    refl (branch_few branch.name branch.head is.1 is.2) (branch_seen branch is)
    ∙ branch_fields moments branches branch is (length (words (branch_words branch)) + 1)

pub branches_taken : (moments : List SavedCall) (branches more : List SavedBranch) (number : ℕ) (rest : List ℕ) → All IsSavedBranch more
    → with_lines (tree moments branches []) number (lines_of (flat_map branch_line more ++ rest)) ≡ with_lines (tree moments (branches ++ more) []) (number + length more) (lines_of rest)
branches_taken moments branches [] number rest are =
    ap (λ (bs : List SavedBranch). with_lines (tree moments bs []) number (lines_of rest)) (sym (append-nil branches))
    ∙ ap (λ (n : ℕ). with_lines (tree moments (branches ++ []) []) n (lines_of rest)) (let same : number ≡ number + 0 = omega arith in same)
branches_taken moments branches (branch ∷ more) number rest are =
    let is : IsSavedBranch branch = All-head IsSavedBranch branch more are in
    let same : number + 1 + length more ≡ number + length (branch ∷ more) = omega arith in
    ap (λ bytes. with_lines (tree moments branches []) number (lines_of bytes)) (append_assoc (branch_line branch) (flat_map branch_line more) rest)
    ∙ line_taken (tree moments branches []) (tree moments (branches ++ (branch ∷ [])) []) number (words (branch_words branch)) (flat_map branch_line more ++ rest)
    (line_free (branch_words branch) (branch_seen branch is)) (branch_taken moments branches branch is)
    ∙ branches_taken moments (branches ++ (branch ∷ [])) more (number + 1) rest (All-tail IsSavedBranch branch more are)
    ∙ ap (λ (bs : List SavedBranch). with_lines (tree moments bs []) (number + 1 + length more) (lines_of rest)) (append_assoc branches (branch ∷ []) more)
    ∙ ap (λ (n : ℕ). with_lines (tree moments (branches ++ (branch ∷ more)) []) n (lines_of rest)) same

-- ---- cursors

client_read : (client : ℕ) → client ≤ 4 → client_of client (decimal client) ≡ Some client
client_read client few =
    let number : Rattle.zt_text.specs.Numbers.decimal_of 4 (decimal client) ≡ Some client = decimal_read 4 client few (lit< tt) in
    rw (number, eq-eqb client client refl) refl

saved_cursor_read : (client : ℕ) → client ≤ 4 → (cursor : Cursor) → IsSavedCursor cursor → (column behind : ℕ)
    → saved_cursor client (record { fields = placed column (decimal client ∷ place_words cursor); behind = behind }) ≡ Ok cursor
unfolding saved_cursor place_named follows only_name at_moment placed field ended
saved_cursor_read client few (Follows name) (is, short) column behind = rw (client_read client few, is) refl
saved_cursor_read client few (At moment) small column behind = rw (client_read client few, handle_read moment small) refl

saved_cursor_at : (wanted client : ℕ) → wanted ≡ client → client ≤ 4 → (cursor : Cursor) → IsSavedCursor cursor → (column behind : ℕ)
    → saved_cursor wanted (record { fields = placed column (decimal client ∷ place_words cursor); behind = behind }) ≡ Ok cursor
saved_cursor_at wanted client same few cursor is column behind =
    ap (λ (n : ℕ). saved_cursor n (record { fields = placed column (decimal client ∷ place_words cursor); behind = behind })) same
    ∙ saved_cursor_read client few cursor is column behind

cursor_fields : (moments : List SavedCall) (branches : List SavedBranch) (cursors : List Cursor) (client : ℕ) (cursor : Cursor)
    → client ≡ length cursors + 1 → client ≤ 4 → IsSavedCursor cursor → (behind : ℕ)
    → with_fields (tree moments branches cursors) (record { fields = placed 1 (cursor_words client cursor); behind = behind }) ≡ Ok (tree moments branches (cursors ++ (cursor ∷ [])))
unfolding with_fields with_word with_cursor placed
cursor_fields moments branches cursors client cursor same few is behind =
    rw (saved_cursor_at (length cursors + 1) client (sym same) few cursor is 8 behind) refl

place_seen : (cursor : Cursor) → IsSavedCursor cursor → AreSeen (place_words cursor)
place_seen (Follows name) (is, short) = (refl, (seen_name name is, tt))
place_seen (At moment) small = (refl, (seen_moment moment small, tt))

pub cursor_seen : (client : ℕ) (cursor : Cursor) → client ≤ 4 → IsSavedCursor cursor → AreSeen (cursor_words client cursor)
cursor_seen client cursor few is = (refl, (seen_decimal client (omega (arith, few)), place_seen cursor is))

cursor_few : (client : ℕ) (cursor : Cursor) → client ≤ 4 → IsSavedCursor cursor → nat_lt 140000 (length (words (cursor_words client cursor))) ≡ false
cursor_few client (Follows name) few (is, short) = follow_few client name few short
cursor_few client (At moment) few small = at_few client moment few small

pub cursor_taken : (moments : List SavedCall) (branches : List SavedBranch) (cursors : List Cursor) (client : ℕ) (cursor : Cursor)
    → client ≡ length cursors + 1 → client ≤ 4 → IsSavedCursor cursor
    → with_line (tree moments branches cursors) (words (cursor_words client cursor)) ≡ Ok (tree moments branches (cursors ++ (cursor ∷ [])))
cursor_taken moments branches cursors client cursor same few is =
    line_read (tree moments branches cursors) (codes "cursor") (decimal client ∷ place_words cursor) refl (cursor_few client cursor few is) (cursor_seen client cursor few is)
    ∙ cursor_fields moments branches cursors client cursor same few is (length (words (cursor_words client cursor)) + 1)

pub at_the_end : (before : Saved) (number : ℕ) → with_lines before number [] ≡ Ok before
unfolding with_lines
at_the_end before number = refl

cursors_taken : (moments : List SavedCall) (branches : List SavedBranch) (cursors more : List Cursor) (client number : ℕ)
    → client ≡ length cursors + 1 → length cursors + length more ≤ 4 → All IsSavedCursor more
    → with_lines (tree moments branches cursors) number (lines_of (cursor_lines client more)) ≡ Ok (tree moments branches (cursors ++ more))
cursors_taken moments branches cursors [] client number same few are =
    at_the_end (tree moments branches cursors) number ∙ ap (λ (cs : List Cursor). Ok (tree moments branches cs)) (sym (append-nil cursors))
cursors_taken moments branches cursors (cursor ∷ more) client number same few are =
    let is : IsSavedCursor cursor = All-head IsSavedCursor cursor more are in
    let low : client ≤ 4 = omega arith in
    let longer : length (cursors ++ (cursor ∷ [])) ≡ length cursors + 1 = length-append cursors (cursor ∷ []) in
    line_taken (tree moments branches cursors) (tree moments branches (cursors ++ (cursor ∷ []))) number (words (cursor_words client cursor)) (cursor_lines (client + 1) more)
    (line_free (cursor_words client cursor) (cursor_seen client cursor low is)) (cursor_taken moments branches cursors client cursor same low is)
    ∙ cursors_taken moments branches (cursors ++ (cursor ∷ [])) more (client + 1) (number + 1) (omega (arith, same, longer)) (omega (arith, few, longer)) (All-tail IsSavedCursor cursor more are)
    ∙ ap (λ (cs : List Cursor). Ok (tree moments branches cs)) (append_assoc cursors (cursor ∷ []) more)

-- ---- the whole

pub saved_read : (saved : Saved) → IsSaved saved → saved_of (saved_text saved) ≡ Ok saved
unfolding saved_of saved_text
saved_read saved (calls, branches, cursors, few) =
    calls_taken [] saved.moments 2 (flat_map branch_line saved.branches ++ cursor_lines 1 saved.cursors) calls
    ∙ branches_taken saved.moments [] saved.branches (2 + length saved.moments) (cursor_lines 1 saved.cursors) branches
    ∙ cursors_taken saved.moments saved.branches [] saved.cursors 1 (2 + length saved.moments + length saved.branches) refl (omega (arith, few)) cursors

-- ---- version 1

-- lines that read as calls do not begin with the first line of version 2
no_tree : (lines : List (List ℕ)) (calls : List (ℕ × Call)) → calls_of_lines lines ≡ Ok calls → tree_lines lines ≡ None
no_tree [] calls is = refl
no_tree (first ∷ lines) calls is =
    let read = line_then (first_line first) (calls_in 2 lines) calls is in
    ap (λ bytes. tree_lines (bytes ∷ lines)) (first_spelled first read.0 read.1)

pub first_version : (text : List ℕ) (calls : List (ℕ × Call)) → session_of text ≡ Ok calls → saved_of text ≡ Ok (in_a_row calls)
unfolding session_of
first_version text calls is = of_row text (no_tree (lines_of text) calls is) ∙ ap row_of is
