-- The session texts with notes read as the same trees and calls, and have the same notes.
use Rattle.std.proofs.Common.{◌≡◌, ℕ, zero, suc, ◌+◌, ◌-◌, ◌<◌, ◌≤◌, Bool, true, false, List, [], ◌∷◌, ◌++◌, length, map, get_or, Ok, refl, sym, ap, subst, ◌∙◌, arith, All, append_assoc, length-append}
use Rattle.std.specs.Prelude.{◌==◌, if◌then◌else◌}
use Rattle.std.specs.List.{flat_map, list_all}
use Rattle.std.proofs.lemmas.Bool.{and_parts}
use Rattle.std.proofs.lemmas.List.{append-nil}
use Rattle.std.proofs.lemmas.List.Elements.{All-append, All-cons, All-head, All-nil, All-tail}
use Rattle.zt_rows.specs.declared.calls.Call.{Call}
use Rattle.zt_rows.specs.declared.saved.Saved.{Saved}
use Rattle.zt_rows.specs.declared.saved.SavedCall.{SavedCall}
use Rattle.zt_rows.specs.declared.saved.SavedBranch.{SavedBranch}
use Rattle.zt_rows.specs.declared.saved.Cursor.{Cursor}
use Rattle.zt_rows.specs.declared.saved.Cursor.TheVariants.{Follows, At}
use Rattle.zt_text.specs.Lines.{lines_of}
use Rattle.zt_text.specs.ReadLines.{is_skipped}
use Rattle.zt_text.specs.ShownNumbers.{words}
use Rattle.zt_text.specs.Answers.{as_line}
use Rattle.zt_text.specs.Calls.{call_line, shown_call, IsCalled}
use Rattle.zt_text.specs.Session.{calls_in, session_of}
use Rattle.zt_text.specs.SavedTexts.{saved_call_words, branch_words, cursor_words, branch_line, cursor_lines, with_lines, saved_of, IsSavedCall, IsSavedBranch, IsSavedCursor, IsSaved}
use Rattle.zt_text.specs.Notes.{Noted, NotedSoFar, is_note_line, is_name_line, is_place_line, note_at, noted_in, nothing_noted, all_noted, behind_first, notes_of, with_comment, with_moment, without_moment, with_noted}
use Rattle.zt_text.specs.NotedTexts.{noted_lines, noted_saved_text, noted_call_line, noted_session_text, AreLines, IsNoted, IsSameNoted}
use Rattle.zt_text.specs.ProofsOnly.Notes.{noted_of, so_far}
use Rattle.zt_text.proofs.LineLemmas.{line_written}
use Rattle.zt_text.proofs.ShownWords.{is_free, line_free}
use Rattle.zt_text.proofs.SavedTrees.{tree, line_taken, call_seen, call_taken, branch_seen, branches_taken, cursor_seen, cursor_taken, at_the_end}
use Rattle.zt_text.proofs.SessionTexts.{line_of, call_read}
use Rattle.zt_text.proofs.ShownCalls.{call_line_free}
use Rattle.zt_text.proofs.NoteLemmas.{note_beyond, note_of_some}
use Rattle.zt_text.proofs.NotedLines.{free, lines_free, line_more, lines_more, note_in_front, names_in_front, tree_in_front, calls_in_front, note_comment, name_comment}

-- ---- the note of a moment is one of the notes

one_of : (notes : List (List ℕ)) (k : ℕ) → All (AreLines is_note_line) notes → AreLines is_note_line (get_or notes k [])
one_of [] k are = (refl, refl)
one_of (note ∷ notes) zero are = All-head (AreLines is_note_line) note notes are
one_of (note ∷ notes) (suc k) are = one_of notes k (All-tail (AreLines is_note_line) note notes are)

either_lines : (b : Bool) (note : List ℕ) → AreLines is_note_line note → AreLines is_note_line (if b then [] else note)
either_lines true note are = (refl, refl)
either_lines false note are = are

note_lines : (noted : Noted) (moment : ℕ) → IsNoted noted → AreLines is_note_line (note_at noted moment)
note_lines noted moment is = either_lines (moment == 0) (get_or noted.notes (moment - 1) []) (one_of noted.notes (moment - 1) is.0)

-- ---- a tree is read

noted_then : (note line more rest : List ℕ) → (note ++ as_line line ++ more) ++ rest ≡ note ++ (as_line line ++ (more ++ rest))
noted_then note line more rest = append_assoc (note ++ as_line line) more rest ∙ append_assoc note (as_line line) (more ++ rest)

calls_noted : (noted : Noted) (moment : ℕ) (moments more : List SavedCall) (number : ℕ) (rest : List ℕ) → IsNoted noted → All IsSavedCall more
    → (k : ℕ) × (with_lines (tree moments [] []) number (lines_of (noted_lines noted moment more ++ rest)) ≡ with_lines (tree (moments ++ more) [] []) k (lines_of rest))
calls_noted noted moment moments [] number rest is are =
    (number, ap (λ (ms : List SavedCall). with_lines (tree ms [] []) number (lines_of rest)) (sym (append-nil moments)))
calls_noted noted moment moments (made ∷ more) number rest is are =
    let here : IsSavedCall made = All-head IsSavedCall made more are in
    let note : List ℕ = note_at noted moment in
    let line : List ℕ = words (saved_call_words made) in
    let behind : ℕ = number + length (lines_of note) in
    let others = calls_noted noted (moment + 1) (moments ++ (made ∷ [])) more (behind + 1) rest is (All-tail IsSavedCall made more are) in (
      others.0,
      ap (λ bytes. with_lines (tree moments [] []) number (lines_of bytes)) (noted_then note line (noted_lines noted (moment + 1) more) rest)
          ∙ tree_in_front is_note_line (tree moments [] []) number note (as_line line ++ (noted_lines noted (moment + 1) more ++ rest)) note_comment (note_lines noted moment is)
          ∙ line_taken (tree moments [] []) (tree (moments ++ (made ∷ [])) [] []) behind line (noted_lines noted (moment + 1) more ++ rest)
          (line_free (saved_call_words made) (call_seen made here)) (call_taken moments made here)
          ∙ others.1
          ∙ ap (λ (ms : List SavedCall). with_lines (tree ms [] []) others.0 (lines_of rest)) (append_assoc moments (made ∷ []) more),
    )

cursors_noted : (moments : List SavedCall) (branches : List SavedBranch) (cursors more : List Cursor) (client number : ℕ) (rest : List ℕ)
    → client ≡ length cursors + 1 → length cursors + length more ≤ 4 → All IsSavedCursor more
    → (k : ℕ) × (with_lines (tree moments branches cursors) number (lines_of (cursor_lines client more ++ rest)) ≡ with_lines (tree moments branches (cursors ++ more)) k (lines_of rest))
cursors_noted moments branches cursors [] client number rest same few are =
    (number, ap (λ (cs : List Cursor). with_lines (tree moments branches cs) number (lines_of rest)) (sym (append-nil cursors)))
cursors_noted moments branches cursors (cursor ∷ more) client number rest same few are =
    let is : IsSavedCursor cursor = All-head IsSavedCursor cursor more are in
    let low : client ≤ 4 = omega arith in
    let longer : length (cursors ++ (cursor ∷ [])) ≡ length cursors + 1 = length-append cursors (cursor ∷ []) in
    let others = cursors_noted moments branches (cursors ++ (cursor ∷ [])) more (client + 1) (number + 1) rest (omega (arith, same, longer)) (omega (arith, few, longer)) (All-tail IsSavedCursor cursor more are) in (
      others.0,
      ap (λ bytes. with_lines (tree moments branches cursors) number (lines_of bytes)) (append_assoc (as_line (words (cursor_words client cursor))) (cursor_lines (client + 1) more) rest)
          ∙ line_taken (tree moments branches cursors) (tree moments branches (cursors ++ (cursor ∷ []))) number (words (cursor_words client cursor)) (cursor_lines (client + 1) more ++ rest)
          (line_free (cursor_words client cursor) (cursor_seen client cursor low is)) (cursor_taken moments branches cursors client cursor same low is)
          ∙ others.1
          ∙ ap (λ (cs : List Cursor). with_lines (tree moments branches cs) others.0 (lines_of rest)) (append_assoc cursors (cursor ∷ []) more),
    )

rest_read : (before : Saved) (number : ℕ) (rest : List ℕ) → AreLines is_note_line rest → with_lines before number (lines_of rest) ≡ Ok before
rest_read before number rest are =
    ap (λ bytes. with_lines before number (lines_of bytes)) (sym (append-nil rest))
    ∙ tree_in_front is_note_line before number rest [] note_comment are
    ∙ at_the_end before (number + length (lines_of rest))

pub noted_read : (noted : Noted) (saved : Saved) → IsNoted noted → IsSaved saved → saved_of (noted_saved_text noted saved) ≡ Ok saved
unfolding saved_of noted_saved_text
noted_read noted saved is (calls, branches, cursors, few) =
    let places : List ℕ = flat_map branch_line saved.branches ++ (cursor_lines 1 saved.cursors ++ noted.rest) in
    let moments = calls_noted noted 1 [] saved.moments (2 + length (lines_of noted.names)) places is calls in
    let behind = cursors_noted saved.moments saved.branches [] saved.cursors 1 (moments.0 + length saved.branches) noted.rest refl (omega (arith, few)) cursors in
    tree_in_front is_name_line (tree [] [] []) 2 noted.names (noted_lines noted 1 saved.moments ++ places) name_comment is.2
    ∙ moments.1
    ∙ branches_taken saved.moments [] saved.branches moments.0 (cursor_lines 1 saved.cursors ++ noted.rest) branches
    ∙ behind.1
    ∙ rest_read saved behind.0 noted.rest is.1

-- ---- calls are read

call_taken_in : (number : ℕ) (made : ℕ × Call) (rest : List ℕ) (calls : List (ℕ × Call)) → IsCalled made → calls_in (number + 1) (lines_of rest) ≡ Ok calls
    → calls_in number (lines_of (call_line made ++ rest)) ≡ Ok (made ∷ calls)
unfolding calls_in
call_taken_in number made rest calls is others =
    ap (λ bytes. calls_in number (lines_of bytes)) (append_assoc (shown_call made.0 made.1) (10 ∷ []) rest)
    ∙ ap (calls_in number) (line_written (line_of made) rest (call_line_free made.0 made.1 is.0 is.1))
    ∙ rw (call_read made is, others) refl

rest_called : (number : ℕ) (rest : List ℕ) → AreLines is_note_line rest → calls_in number (lines_of rest) ≡ Ok []
unfolding calls_in
rest_called number rest are =
    ap (λ bytes. calls_in number (lines_of bytes)) (sym (append-nil rest))
    ∙ calls_in_front is_note_line number rest [] note_comment are

abbrev IsCallOf : ℕ × (ℕ × Call) → Type 0
IsCallOf made = IsCalled made.1

noted_called : (noted : Noted) (calls : List (ℕ × (ℕ × Call))) (number : ℕ) → IsNoted noted → All (λ made. IsCalled made.1) calls
    → calls_in number (lines_of (flat_map (noted_call_line noted) calls ++ noted.rest)) ≡ Ok (map (λ made. made.1) calls)
noted_called noted [] number is are = rest_called number noted.rest is.1
noted_called noted (made ∷ calls) number is are =
    let note : List ℕ = note_at noted made.0 in
    let more : List ℕ = flat_map (noted_call_line noted) calls in
    let behind : ℕ = number + length (lines_of note) in
    ap (λ bytes. calls_in number (lines_of bytes)) (append_assoc (note ++ call_line made.1) more noted.rest ∙ append_assoc note (call_line made.1) (more ++ noted.rest))
    ∙ calls_in_front is_note_line number note (call_line made.1 ++ (more ++ noted.rest)) note_comment (note_lines noted made.0 is)
    ∙ call_taken_in behind made.1 (more ++ noted.rest) (map (λ m. m.1) calls) (All-head IsCallOf made calls are) (noted_called noted calls (behind + 1) is (All-tail IsCallOf made calls are))

pub noted_session_read : (noted : Noted) (calls : List (ℕ × (ℕ × Call))) → IsNoted noted → All (λ made. IsCalled made.1) calls
    → session_of (noted_session_text noted calls) ≡ Ok (map (λ made. made.1) calls)
unfolding session_of noted_session_text
noted_session_read noted calls is are =
    calls_in_front is_name_line 2 noted.names (flat_map (noted_call_line noted) calls ++ noted.rest) name_comment is.2
    ∙ noted_called noted calls (2 + length (lines_of noted.names)) is are

-- ---- the notes are the same

abbrev state : List (List ℕ) → List ℕ → List ℕ → NotedSoFar
state notes rest names = record { notes = notes; waiting = []; rest = rest; names = names }

-- the notes of these moments, of which the first has this number
abbrev notes_for : Noted → ℕ → List SavedCall → List (List ℕ)
notes_for noted moment [] = []
notes_for noted moment (made ∷ moments) = note_at noted moment ∷ notes_for noted (moment + 1) moments

line_noted : (noted more : NotedSoFar) (line rest : List ℕ) → is_free 10 line ≡ true → with_noted noted line ≡ more
    → noted_in noted (lines_of (as_line line ++ rest)) ≡ noted_in more (lines_of rest)
line_noted noted more line rest free is =
    ap (λ bytes. noted_in noted (lines_of bytes)) (append_assoc line (10 ∷ []) rest) ∙ ap (noted_in noted) (line_written line rest free)
    ∙ ap (λ (n : NotedSoFar). noted_in n (lines_of rest)) is

call_ends_note : (notes : List (List ℕ)) (note rest names : List ℕ) (made : SavedCall)
    → with_noted (record { notes = notes; waiting = note; rest = rest; names = names }) (words (saved_call_words made)) ≡ state (notes ++ (note ∷ [])) rest names
call_ends_note notes note rest names made = refl

moments_noted : (noted : Noted) (moment : ℕ) (moments : List SavedCall) (notes : List (List ℕ)) (rest names behind : List ℕ) → IsNoted noted → All IsSavedCall moments
    → noted_in (state notes rest names) (lines_of (noted_lines noted moment moments ++ behind)) ≡ noted_in (state (notes ++ notes_for noted moment moments) rest names) (lines_of behind)
moments_noted noted moment [] notes rest names behind is are =
    ap (λ (ns : List (List ℕ)). noted_in (state ns rest names) (lines_of behind)) (sym (append-nil notes))
moments_noted noted moment (made ∷ more) notes rest names behind is are =
    let here : IsSavedCall made = All-head IsSavedCall made more are in
    let note : List ℕ = note_at noted moment in
    let line : List ℕ = words (saved_call_words made) in
    let others : List ℕ = noted_lines noted (moment + 1) more in
    ap (λ bytes. noted_in (state notes rest names) (lines_of bytes)) (noted_then note line others behind)
    ∙ note_in_front (state notes rest names) note (as_line line ++ (others ++ behind)) (note_lines noted moment is)
    ∙ line_noted (record { notes = notes; waiting = note; rest = rest; names = names }) (state (notes ++ (note ∷ [])) rest names) line (others ++ behind)
    (line_free (saved_call_words made) (call_seen made here)) (call_ends_note notes note rest names made)
    ∙ moments_noted noted (moment + 1) more (notes ++ (note ∷ [])) rest names behind is (All-tail IsSavedCall made more are)
    ∙ ap (λ (ns : List (List ℕ)). noted_in (state ns rest names) (lines_of behind)) (append_assoc notes (note ∷ []) (notes_for noted (moment + 1) more))

branch_passes : (notes : List (List ℕ)) (rest names : List ℕ) (branch : SavedBranch) → with_noted (state notes rest names) (words (branch_words branch)) ≡ state notes rest names
branch_passes notes rest names branch = ap (λ (r : List ℕ). state notes r names) (append-nil rest)

cursor_passes : (notes : List (List ℕ)) (rest names : List ℕ) (client : ℕ) (cursor : Cursor) → with_noted (state notes rest names) (words (cursor_words client cursor)) ≡ state notes rest names
cursor_passes notes rest names client (Follows name) = ap (λ (r : List ℕ). state notes r names) (append-nil rest)
cursor_passes notes rest names client (At moment) = ap (λ (r : List ℕ). state notes r names) (append-nil rest)

branches_pass : (branches : List SavedBranch) (notes : List (List ℕ)) (rest names behind : List ℕ) → All IsSavedBranch branches
    → noted_in (state notes rest names) (lines_of (flat_map branch_line branches ++ behind)) ≡ noted_in (state notes rest names) (lines_of behind)
branches_pass [] notes rest names behind are = refl
branches_pass (branch ∷ branches) notes rest names behind are =
    let here : IsSavedBranch branch = All-head IsSavedBranch branch branches are in
    ap (λ bytes. noted_in (state notes rest names) (lines_of bytes)) (append_assoc (branch_line branch) (flat_map branch_line branches) behind)
    ∙ line_noted (state notes rest names) (state notes rest names) (words (branch_words branch)) (flat_map branch_line branches ++ behind)
    (line_free (branch_words branch) (branch_seen branch here)) (branch_passes notes rest names branch)
    ∙ branches_pass branches notes rest names behind (All-tail IsSavedBranch branch branches are)

cursors_pass : (client : ℕ) (cursors : List Cursor) (notes : List (List ℕ)) (rest names behind : List ℕ) → client + length cursors ≤ 5 → All IsSavedCursor cursors
    → noted_in (state notes rest names) (lines_of (cursor_lines client cursors ++ behind)) ≡ noted_in (state notes rest names) (lines_of behind)
cursors_pass client [] notes rest names behind few are = refl
cursors_pass client (cursor ∷ cursors) notes rest names behind few are =
    let here : IsSavedCursor cursor = All-head IsSavedCursor cursor cursors are in
    let low : client ≤ 4 = omega arith in
    ap (λ bytes. noted_in (state notes rest names) (lines_of bytes)) (append_assoc (as_line (words (cursor_words client cursor))) (cursor_lines (client + 1) cursors) behind)
    ∙ line_noted (state notes rest names) (state notes rest names) (words (cursor_words client cursor)) (cursor_lines (client + 1) cursors ++ behind)
    (line_free (cursor_words client cursor) (cursor_seen client cursor low here)) (cursor_passes notes rest names client cursor)
    ∙ cursors_pass (client + 1) cursors notes rest names behind (omega arith) (All-tail IsSavedCursor cursor cursors are)

rest_noted : (notes : List (List ℕ)) (names rest : List ℕ) → AreLines is_note_line rest
    → noted_in (state notes [] names) (lines_of rest) ≡ record { notes = notes; waiting = rest; rest = []; names = names }
rest_noted notes names rest are =
    ap (λ bytes. noted_in (state notes [] names) (lines_of bytes)) (sym (append-nil rest)) ∙ note_in_front (state notes [] names) rest [] are

notes_again : (noted : Noted) (saved : Saved) → IsNoted noted → IsSaved saved
    → notes_of (noted_saved_text noted saved) ≡ record { notes = notes_for noted 1 saved.moments; rest = noted.rest; names = noted.names }
unfolding notes_of noted_saved_text
notes_again noted saved is (calls, branches, cursors, few) =
    let places : List ℕ = flat_map branch_line saved.branches ++ (cursor_lines 1 saved.cursors ++ noted.rest) in
    let notes : List (List ℕ) = notes_for noted 1 saved.moments in
    ap all_noted
    (names_in_front nothing_noted noted.names (noted_lines noted 1 saved.moments ++ places) is.2
    ∙ moments_noted noted 1 saved.moments [] [] noted.names places is calls
    ∙ branches_pass saved.branches notes [] noted.names (cursor_lines 1 saved.cursors ++ noted.rest) branches
    ∙ cursors_pass 1 saved.cursors notes [] noted.names noted.rest (omega (arith, few)) cursors
    ∙ rest_noted notes noted.names noted.rest is.1)

note_for : (noted : Noted) (moment : ℕ) (moments : List SavedCall) (k : ℕ) → length noted.notes < moment + length moments
    → get_or (notes_for noted moment moments) k [] ≡ note_at noted (moment + k)
note_for noted moment [] k few = sym (note_beyond noted (moment + k) (omega arith))
note_for noted moment (made ∷ more) zero few = let same : moment ≡ moment + 0 = omega arith in ap (note_at noted) same
note_for noted moment (made ∷ more) (suc k) few =
    let same : moment + 1 + k ≡ moment + suc k = omega arith in
    note_for noted (moment + 1) more k (omega arith) ∙ ap (note_at noted) same

notes_at : (noted : Noted) (moments : List SavedCall) (rest names : List ℕ) (moment : ℕ) → length noted.notes ≤ length moments
    → note_at (record { notes = notes_for noted 1 moments; rest = rest; names = names }) moment ≡ note_at noted moment
notes_at noted moments rest names zero few = refl
notes_at noted moments rest names (suc k) few =
    let one : suc k - 1 ≡ k = omega arith in
    let next : 1 + k ≡ suc k = omega arith in
    note_of_some (record { notes = notes_for noted 1 moments; rest = rest; names = names }) (suc k) (omega arith)
    ∙ ap (λ i. get_or (notes_for noted 1 moments) i []) one
    ∙ note_for noted 1 moments k (omega arith)
    ∙ ap (note_at noted) next

pub noted_again : (noted : Noted) (saved : Saved) → IsNoted noted → IsSaved saved → length noted.notes ≤ length saved.moments
    → IsSameNoted (notes_of (noted_saved_text noted saved)) noted
noted_again noted saved is saves few =
    let same = notes_again noted saved is saves in (
      λ moment. ap (λ (n : Noted). note_at n moment) same ∙ notes_at noted saved.moments noted.rest noted.names moment few,
      ap (λ (n : Noted). n.rest) same,
      ap (λ (n : Noted). n.names) same,
    )

-- ---- what a text notes can be written

abbrev IsSoFar : NotedSoFar → Type 0
IsSoFar noted = All (AreLines is_note_line) noted.notes × AreLines is_note_line noted.waiting × AreLines is_note_line noted.rest × AreLines is_name_line noted.names

either : (b : Bool) (x y : NotedSoFar) → (b ≡ true → IsSoFar x) → (b ≡ false → IsSoFar y) → IsSoFar (if b then x else y)
either true x y first second = first refl
either false x y first second = second refl

line_kept : (noted : NotedSoFar) (line : List ℕ) → IsSoFar noted → is_free 10 line ≡ true → IsSoFar (with_noted noted line)
line_kept noted line is fine =
    either (is_skipped line) (with_comment noted line) (if is_place_line line then without_moment noted else with_moment noted)
    (λ skipped. either (is_name_line line) (record noted { names = noted.names ++ as_line line }) (if is_note_line line then record noted { waiting = noted.waiting ++ as_line line } else noted)
    (λ name. (is.0, is.1, is.2, line_more is_name_line noted.names line is.3 name fine))
    (λ other. either (is_note_line line) (record noted { waiting = noted.waiting ++ as_line line }) noted
    (λ note. (is.0, line_more is_note_line noted.waiting line is.1 note fine, is.2, is.3))
    (λ neither. is)))
    (λ kept. either (is_place_line line) (without_moment noted) (with_moment noted)
    (λ place. (is.0, (refl, refl), lines_more is_note_line noted.rest noted.waiting is.2 is.1, is.3))
    (λ moment. (All-append (AreLines is_note_line) noted.notes (noted.waiting ∷ []) is.0 (All-cons (AreLines is_note_line) noted.waiting [] is.1 (All-nil (AreLines is_note_line))), (refl, refl), is.2, is.3)))

lines_kept : (noted : NotedSoFar) (lines : List (List ℕ)) → IsSoFar noted → list_all free lines ≡ true → IsSoFar (noted_in noted lines)
lines_kept noted [] is are = is
lines_kept noted (line ∷ lines) is are =
    let parts = and_parts (free line) (list_all free lines) are in
    lines_kept (with_noted noted line) lines (line_kept noted line is parts.0) parts.1

behind_free : (lines : List (List ℕ)) → list_all free lines ≡ true → list_all free (behind_first lines) ≡ true
behind_free [] are = refl
behind_free (line ∷ lines) are = (and_parts (free line) (list_all free lines) are).1

pub notes_kept : (text : List ℕ) → IsNoted (notes_of text)
unfolding notes_of
notes_kept text =
    let all : IsSoFar (noted_in nothing_noted (behind_first (lines_of text))) =
    lines_kept nothing_noted (behind_first (lines_of text)) (All-nil (AreLines is_note_line), (refl, refl), (refl, refl), (refl, refl)) (behind_free (lines_of text) (lines_free text)) in
    (all.0, lines_more is_note_line (noted_in nothing_noted (behind_first (lines_of text))).rest (noted_in nothing_noted (behind_first (lines_of text))).waiting all.2 all.1, all.3)

-- so can those that are kept of it
pub read_kept : (text left notes ends rest names : List ℕ) (begun before after : NotedSoFar) → so_far notes ends rest names ≡ after → after ≡ without_moment before
    → before ≡ noted_in begun (lines_of left) → begun ≡ nothing_noted → lines_of left ≡ behind_first (lines_of text) → IsNoted (noted_of notes ends rest names)
unfolding notes_of
read_kept text left notes ends rest names begun before after view is read none lines =
    let whole : before ≡ noted_in nothing_noted (behind_first (lines_of text)) = read ∙ ap (λ (n : NotedSoFar). noted_in n (lines_of left)) none ∙ ap (noted_in nothing_noted) lines in
    let same : noted_of notes ends rest names ≡ notes_of text =
    ap (λ (n : NotedSoFar). record { notes = n.notes; rest = n.rest; names = n.names }) (view ∙ is) ∙ ap all_noted whole in
    subst IsNoted (sym same) (notes_kept text)
