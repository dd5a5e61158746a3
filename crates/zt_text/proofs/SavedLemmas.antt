-- A saved tree read line by line, and made of calls in a row; its cursors written one by one.
use Rattle.std.proofs.Common.{◌≡◌, inl, inr, ℕ, zero, suc, ◌+◌, ◌<◌, Bool, true, List, [], ◌∷◌, ◌++◌, length, Option, Some, None, Result, Ok, Err, refl, sym, ap, ◌∙◌, append_assoc, take, get_or, arith, add-zero, zero-add, add-one}
use Rattle.std.proofs.lemmas.List.{append-nil, nil_from_length}
use Rattle.zt_rows.specs.declared.refusals.Refusal.{Refusal}
use Rattle.zt_rows.specs.declared.refusals.Refusal.TheVariants.{OutOfMemory}
use Rattle.zt_rows.specs.declared.calls.Call.{Call}
use Rattle.zt_rows.specs.declared.saved.Saved.{Saved}
use Rattle.zt_rows.specs.declared.saved.SavedCall.{SavedCall}
use Rattle.zt_rows.specs.declared.saved.Cursor.{Cursor}
use Rattle.zt_text.specs.ShownNumbers.{words}
use Rattle.zt_text.specs.Answers.{as_line}
use Rattle.zt_text.specs.Fields.{◌>>=◌}
use Rattle.zt_text.specs.Lines.{lines_of}
use Rattle.zt_text.specs.ReadLines.{IsUnread}
use Rattle.zt_text.specs.Session.{session_of, fault_at, at_line, IsFaultOf}
use Rattle.zt_rows.specs.CallsInARow.{as_moment, moments_from, in_a_row}
use Rattle.zt_text.specs.SavedTexts.{bare, with_line, with_lines, tree_lines, saved_by, saved_of, IsUnreadTree, cursor_words, cursor_lines}
use Rattle.zt_text.specs.ProofsOnly.SavedTexts.{row_of}

-- ---- lines

-- a line more is taken
pub lines_more : (whole : Result Saved (ℕ × Refusal)) (tree more : Saved) (number : ℕ) (lines others : List (List ℕ)) (line : List ℕ)
    → whole ≡ with_lines tree number lines → lines ≡ line ∷ others → with_line tree line ≡ Ok more → whole ≡ with_lines more (number + 1) others
unfolding with_lines
lines_more whole tree more number lines others line so_far first is =
    so_far ∙ ap (with_lines tree number) first ∙ ap (λ (r : Result Saved Refusal). at_line number r >>= λ made. with_lines made (number + 1) others) is

wanted : (whole : Result Saved (ℕ × Refusal)) (fault : ℕ × Refusal) → fault ≡ (0, OutOfMemory) → IsUnreadTree whole fault
wanted (Ok saved) fault is = is
wanted (Err first) fault is = inr is

fault_in : (number : ℕ) (r : Result Saved Refusal) (rest : Saved → Result Saved (ℕ × Refusal)) (reason : Refusal)
    → IsUnread (λ _. true) r reason → IsUnreadTree (at_line number r >>= rest) (fault_at number reason)
fault_in number (Ok more) rest reason (some, is) = wanted (rest more) (fault_at number reason) (ap (fault_at number) is)
fault_in number (Err fault) rest reason is = inl (ap (fault_at number) is)

-- a line is not taken
pub lines_faulty : (whole : Result Saved (ℕ × Refusal)) (tree : Saved) (number : ℕ) (lines others : List (List ℕ)) (line : List ℕ) (reason : Refusal)
    → whole ≡ with_lines tree number lines → lines ≡ line ∷ others → IsUnread (λ _. true) (with_line tree line) reason
    → IsUnreadTree whole (fault_at number reason)
unfolding with_lines
lines_faulty whole tree number lines others line reason so_far first is =
    let at : whole ≡ with_lines tree number (line ∷ others) = so_far ∙ ap (with_lines tree number) first in
    rw at (fault_in number (with_line tree line) (λ made. with_lines made (number + 1) others) reason is)

-- at the end of the lines
all_taken : (whole : Result Saved (ℕ × Refusal)) (tree : Saved) (number : ℕ) → whole ≡ with_lines tree number [] → whole ≡ Ok tree
unfolding with_lines
all_taken whole tree number so_far = so_far

pub no_lines : (whole : Result Saved (ℕ × Refusal)) (tree : Saved) (number : ℕ) (left : List ℕ)
    → whole ≡ with_lines tree number (lines_of left) → length left ≡ 0 → whole ≡ Ok tree
no_lines whole tree number left so_far none =
    all_taken whole tree number (so_far ∙ ap (λ bytes. with_lines tree number (lines_of bytes)) (nil_from_length left none))

-- ---- both versions

pub of_tree : (text : List ℕ) (lines : List (List ℕ)) → tree_lines (lines_of text) ≡ Some lines → saved_of text ≡ with_lines bare 2 lines
unfolding saved_of
of_tree text lines is = ap (λ (o : Option (List (List ℕ))). saved_by o text) is

pub of_row : (text : List ℕ) → tree_lines (lines_of text) ≡ None → saved_of text ≡ row_of (session_of text)
unfolding saved_of
of_row text is = ap (λ (o : Option (List (List ℕ))). saved_by o text) is

pub row_read : (r : Result (List (ℕ × Call)) (ℕ × Refusal)) (calls : List (ℕ × Call)) (saved : Saved) → r ≡ Ok calls → saved ≡ in_a_row calls → row_of r ≡ Ok saved
row_read r calls saved is same = ap row_of is ∙ ap Ok (sym same)

pub row_faulty : (some : Bool) (r : Result (List (ℕ × Call)) (ℕ × Refusal)) (fault : ℕ × Refusal) → IsFaultOf some r fault → IsUnreadTree (row_of r) fault
row_faulty some (Ok calls) fault (has, is) = is
row_faulty some (Err first) fault is = elim is as (λ _. IsUnreadTree (Err first) fault) [ inl same ↦ inl same | inr want ↦ inr want.1 ]

pub row_wanted : (r : Result (List (ℕ × Call)) (ℕ × Refusal)) → IsUnreadTree (row_of r) (0, OutOfMemory)
row_wanted r = wanted (row_of r) (0, OutOfMemory) refl

-- a call more in the row
pub moments_more : (number : ℕ) (calls : List (ℕ × Call)) (made : ℕ × Call)
    → moments_from number (calls ++ (made ∷ [])) ≡ moments_from number calls ++ (record { parent = as_moment (number + length calls); process = made.0; call = made.1 } ∷ [])
moments_more number [] made = rw add-zero refl
moments_more number (first ∷ calls) made =
    let here : number + 1 + length calls ≡ number + length (first ∷ calls) = omega arith in
    ap (λ ms. record { parent = as_moment number; process = first.0; call = first.1 } ∷ ms) (moments_more (number + 1) calls made ∙ rw here refl)

pub moments_length : (number : ℕ) (calls : List (ℕ × Call)) → length (moments_from number calls) ≡ length calls
moments_length number [] = refl
moments_length number (first ∷ calls) = let rest = moments_length (number + 1) calls in omega (arith, rest)

pub row_more : (before after : List SavedCall) (calls : List (ℕ × Call)) (made : ℕ × Call) (parent : ℕ)
    → before ≡ moments_from 0 calls → parent ≡ as_moment (length before) → after ≡ before ++ (record { parent = parent; process = made.0; call = made.1 } ∷ [])
    → after ≡ moments_from 0 (calls ++ (made ∷ []))
row_more before after calls made parent so_far at is =
    let count : length before ≡ length calls = ap length so_far ∙ moments_length 0 calls in
    let same : parent ≡ as_moment (0 + length calls) = at ∙ ap as_moment (count ∙ sym (zero-add (length calls))) in
    is ∙ ap (λ (ms : List SavedCall). ms ++ (record { parent = parent; process = made.0; call = made.1 } ∷ [])) so_far
    ∙ ap (λ (p : ℕ). moments_from 0 calls ++ (record { parent = p; process = made.0; call = made.1 } ∷ [])) same
    ∙ sym (moments_more 0 calls made)

-- ---- cursors

abbrev line_at : ℕ → Cursor → List ℕ
line_at client cursor = as_line (words (cursor_words client cursor))

-- the line of a cursor more
cursors_more : (client : ℕ) (cursors : List Cursor) (place : ℕ) (cursor : Cursor) → place < length cursors → cursor ≡ get_or cursors place cursor
    → cursor_lines client (take (suc place) cursors) ≡ cursor_lines client (take place cursors) ++ line_at (client + place) cursor
cursors_more client [] place cursor inside is = absurd (omega arith)
cursors_more client (first ∷ cursors) zero cursor inside is =
    let here : client ≡ client + 0 = omega arith in
    append-nil (line_at client first) ∙ ap (λ (n : ℕ). line_at n first) here ∙ ap (line_at (client + 0)) (sym is)
cursors_more client (first ∷ cursors) (suc place) cursor inside is =
    let here : client + 1 + place ≡ client + suc place = omega arith in
    let rest = cursors_more (client + 1) cursors place cursor (omega arith) is in
    ap (λ bytes. line_at client first ++ bytes) (rest ∙ ap (λ (n : ℕ). cursor_lines (client + 1) (take place cursors) ++ line_at n cursor) here)
    ∙ sym (append_assoc (line_at client first) (cursor_lines (client + 1) (take place cursors)) (line_at (client + suc place) cursor))

pub cursors_put : (start before after : List ℕ) (cursors : List Cursor) (place : ℕ) (cursor : Cursor)
    → before ≡ start ++ cursor_lines 1 (take place cursors) → after ≡ before ++ as_line (words (cursor_words (place + 1) cursor))
    → place < length cursors → cursor ≡ get_or cursors place cursor → after ≡ start ++ cursor_lines 1 (take (place + 1) cursors)
cursors_put start before after cursors place cursor so_far put inside is =
    let number : place + 1 ≡ 1 + place = omega arith in
    put ∙ ap (λ bytes. bytes ++ line_at (place + 1) cursor) so_far
    ∙ append_assoc start (cursor_lines 1 (take place cursors)) (line_at (place + 1) cursor)
    ∙ ap (λ (n : ℕ). start ++ (cursor_lines 1 (take place cursors) ++ line_at n cursor)) number
    ∙ ap (λ bytes. start ++ bytes) (sym (cursors_more 1 cursors place cursor inside is))
    ∙ ap (λ (n : ℕ). start ++ cursor_lines 1 (take n cursors)) (sym (add-one place))
