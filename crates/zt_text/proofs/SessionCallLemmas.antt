-- The calls of a session text, read one after another.
use Rattle.std.proofs.Common.{append_assoc, inl, inr, ◌≡◌, ℕ, suc, ◌+◌, ◌<◌, Bool, true, false, cond, List, [], ◌∷◌, ◌++◌, length, Option, Some, None, Result, Ok, Err, refl, sym, ap, subst, ◌∙◌, arith}
use Rattle.std.specs.Prelude.{is_ok, is_some, nat_lt, codes}
use Rattle.std.specs.Str.{bytes_eq}
use Rattle.std.proofs.lemmas.List.{append-nil, nil_from_length}
use Rattle.std.specs.Cmp.Lexicographic.{bytes_decides}
use Rattle.zt_rows.specs.declared.refusals.Refusal.{Refusal}
use Rattle.zt_rows.specs.declared.refusals.Refusal.TheVariants.{BadLine, LineTooLong, OutOfMemory}
use Rattle.zt_rows.specs.declared.calls.Call.{Call}
use Rattle.zt_text.specs.Fields.{◌>>=◌}
use Rattle.zt_text.specs.Lines.{lines_of}
use Rattle.zt_text.specs.ReadLines.{most_line_bytes, IsUnread}
use Rattle.zt_text.specs.Session.{call_in, fault_at, at_line, in_front, calls_in, calls_of_lines, session_of, first_line, comes_first, has_call, has_call_behind, session_has_call, IsWantOfMemory, IsFaultOf}
use Rattle.zt_text.specs.SavedTexts.{tree_lines, saved_of}
use Rattle.zt_text.specs.SessionCalls.{LinesLeft, row_lines, calls_left, in_front_of, tree_of, or_behind, next_in, next_call, IsNotNext}
use Rattle.zt_text.specs.ProofsOnly.SavedTexts.{row_of}
use Rattle.zt_text.proofs.SavedLemmas.{of_row}

-- what a line gives to the calls, and to the next one
abbrev calls_by : ℕ → List (List ℕ) → Result (Option (ℕ × Call)) Refusal → Result (List (ℕ × Call)) (ℕ × Refusal)
calls_by number lines line = at_line number line >>= λ made. calls_in (number + 1) lines >>= λ calls. Ok (in_front made calls)

abbrev next_by : ℕ → List (List ℕ) → Result (Option (ℕ × Call)) Refusal → Result (Option (ℕ × Call) × LinesLeft) (ℕ × Refusal)
next_by number lines line =
    at_line number line >>= λ made. or_behind made (record { number = number + 1; lines = lines }) (next_in (number + 1) lines)

-- what is found, where two answers are one
found_same : (x y : Option (ℕ × Call) × LinesLeft) → ◌≡◌ {A = Result (Option (ℕ × Call) × LinesLeft) (ℕ × Refusal)} (Ok x) (Ok y) → x.0 ≡ y.0
found_same x y is = let same : x ≡ y = cc in ap (λ (p : Option (ℕ × Call) × LinesLeft). p.0) same

left_same : (x y : Option (ℕ × Call) × LinesLeft) → ◌≡◌ {A = Result (Option (ℕ × Call) × LinesLeft) (ℕ × Refusal)} (Ok x) (Ok y) → x.1 ≡ y.1
left_same x y is = let same : x ≡ y = cc in ap (λ (p : Option (ℕ × Call) × LinesLeft). p.1) same

none_in_front : (r : Result (List (ℕ × Call)) (ℕ × Refusal)) → (r >>= λ calls. Ok (in_front None calls)) ≡ r
none_in_front (Ok calls) = refl
none_in_front (Err fault) = refl

one_in_front : (made : ℕ × Call) (r : Result (List (ℕ × Call)) (ℕ × Refusal)) → (r >>= λ calls. Ok (in_front (Some made) calls)) ≡ in_front_of made r
one_in_front made (Ok calls) = refl
one_in_front made (Err fault) = refl

-- ---- the calls by the next one

-- the next call stands in front of those behind it
abbrev IsInFront : ℕ → List (List ℕ) → ℕ × Call → LinesLeft → Type 0
IsInFront number lines made left =
    (calls_in number lines ≡ in_front_of made (calls_left left)) × (length left.lines < length lines) × (has_call lines ≡ true)

front_by : (number : ℕ) (lines : List (List ℕ)) (line : Result (Option (ℕ × Call)) Refusal) (made : ℕ × Call) (left : LinesLeft)
    → (next_in (number + 1) lines ≡ Ok (Some made, left) → IsInFront (number + 1) lines made left) → next_by number lines line ≡ Ok (Some made, left)
    → (calls_by number lines line ≡ in_front_of made (calls_left left)) × (length left.lines < suc (length lines))
    × (comes_first line (has_call lines) ≡ true)
front_by number lines (Ok None) made left others is =
    let rest = others is in (none_in_front (calls_in (number + 1) lines) ∙ rest.0, omega (arith, rest.1), rest.2)
front_by number lines (Ok (Some first)) made left others is =
    let here : LinesLeft = record { number = number + 1; lines = lines } in
    let found : Some first ≡ Some made = found_same (Some first, here) (Some made, left) is in
    let same : first ≡ made = cc in
    let rest : here ≡ left = left_same (Some first, here) (Some made, left) is in
    let P : LinesLeft → Type 0 = λ l. (calls_by number lines (Ok (Some first)) ≡ in_front_of made (calls_left l)) × (length l.lines < suc (length lines)) in
    let both = subst P rest (one_in_front first (calls_in (number + 1) lines) ∙ ap (λ (m : ℕ × Call). in_front_of m (calls_in (number + 1) lines)) same, omega arith) in
    (both.0, both.1, refl)
front_by number lines (Err fault) made left others is = absurd (cc)

pub next_some : (number : ℕ) (lines : List (List ℕ)) (made : ℕ × Call) (left : LinesLeft) → next_in number lines ≡ Ok (Some made, left) → IsInFront number lines made left
unfolding next_in calls_in has_call
next_some number [] made left is =
    let none : None ≡ Some made = found_same (None, record { number = number; lines = [] }) (Some made, left) is in absurd (cc)
next_some number (line ∷ lines) made left is = front_by number lines (call_in line) made left (next_some (number + 1) lines made left) is

none_by : (number : ℕ) (lines : List (List ℕ)) (line : Result (Option (ℕ × Call)) Refusal) (left : LinesLeft)
    → (next_in (number + 1) lines ≡ Ok (None, left) → calls_in (number + 1) lines ≡ Ok []) → next_by number lines line ≡ Ok (None, left)
    → calls_by number lines line ≡ Ok []
none_by number lines (Ok None) left others is = none_in_front (calls_in (number + 1) lines) ∙ others is
none_by number lines (Ok (Some first)) left others is =
    let some : Some first ≡ None = found_same (Some first, record { number = number + 1; lines = lines }) (None, left) is in absurd (cc)
none_by number lines (Err fault) left others is = absurd (cc)

pub next_none : (number : ℕ) (lines : List (List ℕ)) (left : LinesLeft) → next_in number lines ≡ Ok (None, left) → calls_in number lines ≡ Ok []
unfolding next_in calls_in
next_none number [] left is = refl
next_none number (line ∷ lines) left is = none_by number lines (call_in line) left (next_none (number + 1) lines left) is

no_line_by : (number : ℕ) (lines : List (List ℕ)) (line : Result (Option (ℕ × Call)) Refusal) (left : LinesLeft)
    → (next_in (number + 1) lines ≡ Ok (None, left) → left.lines ≡ []) → next_by number lines line ≡ Ok (None, left) → left.lines ≡ []
no_line_by number lines (Ok None) left others is = others is
no_line_by number lines (Ok (Some first)) left others is =
    let some : Some first ≡ None = found_same (Some first, record { number = number + 1; lines = lines }) (None, left) is in absurd (cc)
no_line_by number lines (Err fault) left others is = absurd (cc)

abbrev lines_behind : Result (Option (ℕ × Call) × LinesLeft) (ℕ × Refusal) → List (List ℕ)
lines_behind (Ok found) = found.1.lines
lines_behind (Err fault) = []

no_line_behind : (number : ℕ) (lines : List (List ℕ)) (left : LinesLeft) → next_in number lines ≡ Ok (None, left) → left.lines ≡ []
unfolding next_in
no_line_behind number [] left is = sym (ap lines_behind is)
no_line_behind number (line ∷ lines) left is = no_line_by number lines (call_in line) left (no_line_behind (number + 1) lines left) is

-- where there is no next call, no line is left behind it
pub no_line_left : (left end : LinesLeft) → next_call left ≡ Ok (None, end) → end.lines ≡ []
no_line_left left end is = no_line_behind left.number left.lines end is

fault_by : (number : ℕ) (lines : List (List ℕ)) (line : Result (Option (ℕ × Call)) Refusal) (fault : ℕ × Refusal)
    → (next_in (number + 1) lines ≡ Err fault → calls_in (number + 1) lines ≡ Err fault) → next_by number lines line ≡ Err fault
    → calls_by number lines line ≡ Err fault
fault_by number lines (Ok None) fault others is = none_in_front (calls_in (number + 1) lines) ∙ others is
fault_by number lines (Ok (Some first)) fault others is = absurd (cc)
fault_by number lines (Err reason) fault others is = cc

pub next_fault : (number : ℕ) (lines : List (List ℕ)) (fault : ℕ × Refusal) → next_in number lines ≡ Err fault → calls_in number lines ≡ Err fault
unfolding next_in calls_in
next_fault number [] fault is = absurd (cc)
next_fault number (line ∷ lines) fault is = fault_by number lines (call_in line) fault (next_fault (number + 1) lines fault) is

-- ---- one line more is looked at

pub line_skipped : (whole : Result (Option (ℕ × Call) × LinesLeft) (ℕ × Refusal)) (number : ℕ) (lines others : List (List ℕ)) (line : List ℕ) (made : Option (ℕ × Call))
    → next_in number lines ≡ whole → lines ≡ line ∷ others → call_in line ≡ Ok made → is_some made ≡ false → next_in (number + 1) others ≡ whole
unfolding next_in
line_skipped whole number lines others line None so_far first is none =
    sym (ap (next_by number others) is) ∙ sym (ap (next_in number) first) ∙ so_far
line_skipped whole number lines others line (Some made) so_far first is none = absurd (cc)

pub line_taken : (whole : Result (Option (ℕ × Call) × LinesLeft) (ℕ × Refusal)) (number : ℕ) (lines others : List (List ℕ)) (line : List ℕ) (made : Option (ℕ × Call))
    → next_in number lines ≡ whole → lines ≡ line ∷ others → call_in line ≡ Ok made → is_some made ≡ true
    → whole ≡ Ok (made, record { number = number + 1; lines = others })
unfolding next_in
line_taken whole number lines others line None so_far first is some = absurd (cc)
line_taken whole number lines others line (Some made) so_far first is some =
    sym so_far ∙ ap (next_in number) first ∙ ap (next_by number others) is

not_next : (whole rest : Result (Option (ℕ × Call) × LinesLeft) (ℕ × Refusal)) (number : ℕ) (behind : LinesLeft) (line : Result (Option (ℕ × Call)) Refusal) (reason : Refusal)
    → whole ≡ (at_line number line >>= λ made. or_behind made behind rest) → IsUnread is_some line reason → IsNotNext whole (fault_at number reason)
not_next whole rest number behind (Ok None) reason is (none, memory) = absurd (cc)
not_next whole rest number behind (Ok (Some made)) reason is (some, memory) =
    subst (λ w. IsNotNext w (fault_at number reason)) (sym is) (refl, ap (fault_at number) memory)
not_next whole rest number behind (Err fault) reason is same =
    subst (λ w. IsNotNext w (fault_at number reason)) (sym is) (ap (fault_at number) same)

pub line_not_taken : (whole : Result (Option (ℕ × Call) × LinesLeft) (ℕ × Refusal)) (number : ℕ) (lines others : List (List ℕ)) (line : List ℕ) (reason : Refusal)
    → next_in number lines ≡ whole → lines ≡ line ∷ others → IsUnread is_some (call_in line) reason → IsNotNext whole (fault_at number reason)
unfolding next_in
line_not_taken whole number lines others line reason so_far first is =
    not_next whole (next_in (number + 1) others) number (record { number = number + 1; lines = others }) (call_in line) reason
    (sym so_far ∙ ap (next_in number) first) is

pub lines_ended : (whole : Result (Option (ℕ × Call) × LinesLeft) (ℕ × Refusal)) (number : ℕ) (left : List ℕ)
    → next_in number (lines_of left) ≡ whole → length left ≡ 0 → whole ≡ Ok (None, record { number = number; lines = lines_of left })
unfolding next_in
lines_ended whole number left so_far none =
    let empty = nil_from_length left none in
    sym so_far ∙ ap (λ bytes. next_in number (lines_of bytes)) empty ∙ ap (λ bytes. Ok (None, record { number = number; lines = lines_of bytes })) (sym empty)

-- ---- all that is left

-- calls in front of those that are still to be read
abbrev pub behind : List (ℕ × Call) → Result (List (ℕ × Call)) (ℕ × Refusal) → Result (List (ℕ × Call)) (ℕ × Refusal)
behind items (Ok calls) = Ok (items ++ calls)
behind items (Err fault) = Err fault

pub behind_none : (whole : Result (List (ℕ × Call)) (ℕ × Refusal)) → whole ≡ behind [] whole
behind_none (Ok calls) = refl
behind_none (Err fault) = refl

-- the next one stands behind the calls so far
pub calls_more : (whole : Result (List (ℕ × Call)) (ℕ × Refusal)) (left more : LinesLeft) (made : ℕ × Call) (items : List (ℕ × Call))
    → whole ≡ behind items (calls_left left) → next_call left ≡ Ok (Some made, more) → whole ≡ behind (items ++ made ∷ []) (calls_left more)
calls_more whole left more made items so_far is =
    so_far ∙ ap (behind items) (next_some left.number left.lines made more is).0 ∙ moved (calls_left more)
  where
    moved : (r : Result (List (ℕ × Call)) (ℕ × Refusal)) → behind items (in_front_of made r) ≡ behind (items ++ made ∷ []) r
    moved (Ok calls) = ap Ok (sym (append_assoc items (made ∷ []) calls))
    moved (Err fault) = refl

-- where all calls so far stand in front of those left, the next one stands behind them
pub rest_more : (whole : Result (List (ℕ × Call)) (ℕ × Refusal)) (left more : LinesLeft) (made : ℕ × Call)
    → (items : List (ℕ × Call)) × (whole ≡ behind items (calls_left left)) → next_call left ≡ Ok (Some made, more)
    → (items : List (ℕ × Call)) × (whole ≡ behind items (calls_left more))
rest_more whole left more made (items, so_far) is = (items ++ made ∷ [], calls_more whole left more made items so_far is)

pub rest_shorter : (left more : LinesLeft) (made : ℕ × Call) → next_call left ≡ Ok (Some made, more) → length more.lines < length left.lines
rest_shorter left more made is = (next_some left.number left.lines made more is).1

pub has_next : (some : Bool) (left more : LinesLeft) (made : ℕ × Call) → (has_call left.lines ≡ true → some ≡ true) → next_call left ≡ Ok (Some made, more)
    → has_call more.lines ≡ true → some ≡ true
has_next some left more made so_far is _ = so_far (next_some left.number left.lines made more is).2

-- ---- the end

pub calls_ended : (whole : Result (List (ℕ × Call)) (ℕ × Refusal)) (left end : LinesLeft) (items : List (ℕ × Call)) → whole ≡ behind items (calls_left left)
    → next_call left ≡ Ok (None, end) → whole ≡ Ok items
calls_ended whole left end items so_far is =
    so_far ∙ ap (behind items) (next_none left.number left.lines end is) ∙ ap Ok (append-nil items)

pub rest_read : (whole : Result (List (ℕ × Call)) (ℕ × Refusal)) (left end : LinesLeft) → (items : List (ℕ × Call)) × (whole ≡ behind items (calls_left left))
    → next_call left ≡ Ok (None, end) → is_ok whole ≡ true
rest_read whole left end (items, so_far) is = ap is_ok (calls_ended whole left end items so_far is)

wanted : (some : Bool) (whole : Result (List (ℕ × Call)) (ℕ × Refusal)) (fault : ℕ × Refusal) → IsWantOfMemory some fault → IsFaultOf some whole fault
wanted some (Ok calls) fault want = want
wanted some (Err first) fault want = inr want

-- memory is refused to a call
pub call_wanted : (whole : Result (List (ℕ × Call)) (ℕ × Refusal)) (some : Bool) (left more : LinesLeft) (made : ℕ × Call)
    → (has_call left.lines ≡ true → some ≡ true) → next_call left ≡ Ok (Some made, more) → IsFaultOf some whole (0, OutOfMemory)
call_wanted whole some left more made has is =
    wanted some whole (0, OutOfMemory) (has (next_some left.number left.lines made more is).2, refl)

pub text_not_read : (whole : Result (List (ℕ × Call)) (ℕ × Refusal)) (some : Bool) (left : LinesLeft) (items : List (ℕ × Call)) (fault : ℕ × Refusal)
    → whole ≡ behind items (calls_left left) → (has_call left.lines ≡ true → some ≡ true) → IsNotNext (next_call left) fault → IsFaultOf some whole fault
text_not_read whole some left items fault so_far has is = by (next_call left) refl is
  where
    by : (found : Result (Option (ℕ × Call) × LinesLeft) (ℕ × Refusal)) → next_call left ≡ found → IsNotNext found fault → IsFaultOf some whole fault
    by (Ok (Some made, more)) found (one, memory) =
        wanted some whole fault (has (next_some left.number left.lines made more found).2, memory)
    by (Ok (None, more)) found (none, memory) = absurd (cc)
    by (Err first) found same =
        subst (λ w. IsFaultOf some w fault) (sym (so_far ∙ ap (behind items) (next_fault left.number left.lines first found))) (inl same)

pub rest_not_read : (whole : Result (List (ℕ × Call)) (ℕ × Refusal)) (some : Bool) (left : LinesLeft) (fault : ℕ × Refusal)
    → (items : List (ℕ × Call)) × (whole ≡ behind items (calls_left left)) → (has_call left.lines ≡ true → some ≡ true) → IsNotNext (next_call left) fault
    → IsFaultOf some whole fault
rest_not_read whole some left fault (items, so_far) has is = text_not_read whole some left items fault so_far has is

-- ---- the text

-- the first line is that of version 1
opened : (lines : List (List ℕ)) (left : LinesLeft) (first : Result (Unit {0}) Refusal)
    → (at_line 1 first >>= λ _. let r : Result LinesLeft (ℕ × Refusal) = Ok (record { number = 2; lines = lines }) in r) ≡ Ok left
    → (first ≡ Ok tt) × (left ≡ record { number = 2; lines = lines })
opened lines left (Ok tt) is =
    let here : LinesLeft = record { number = 2; lines = lines } in
    let same : left ≡ here = cc in
    (refl, same)
opened lines left (Err fault) is = absurd (cc)

not_opened : (lines : List (List ℕ)) (fault : ℕ × Refusal) (first : Result (Unit {0}) Refusal) (others : Result (List (ℕ × Call)) (ℕ × Refusal))
    → (at_line 1 first >>= λ _. let r : Result LinesLeft (ℕ × Refusal) = Ok (record { number = 2; lines = lines }) in r) ≡ Err fault
    → (at_line 1 first >>= λ _. others) ≡ Err fault
not_opened lines fault (Ok tt) others is = absurd (cc)
not_opened lines fault (Err reason) others is = cc

no_tree : (first : List ℕ) (lines : List (List ℕ)) → first_line first ≡ Ok tt → tree_lines (first ∷ lines) ≡ None
no_tree first lines is = by (nat_lt most_line_bytes (length first)) (bytes_eq first (codes "zxtt 1")) refl is
  where
    by : (long one : Bool) → bytes_eq first (codes "zxtt 1") ≡ one
        → (let r : Result (Unit {0}) Refusal = cond long (Err LineTooLong) (cond one (Ok tt) (Err (BadLine 1))) in r ≡ Ok tt) → tree_lines (first ∷ lines) ≡ None
    by true one named is = absurd (cc)
    by false true named is = let same : first ≡ codes "zxtt 1" = (bytes_decides first (codes "zxtt 1")).0 named in rw same refl
    by false false named is = absurd (cc)

row_text : (lines : List (List ℕ)) (left : LinesLeft) → row_lines lines ≡ Ok left
    → (tree_lines lines ≡ None) × (calls_of_lines lines ≡ calls_left left) × (has_call left.lines ≡ true → has_call_behind lines ≡ true)
row_text [] left is = absurd (cc)
row_text (first ∷ lines) left is =
    let at = opened lines left (first_line first) is in
    (no_tree first lines at.0, rw (at.0, at.1) refl, rw (at.0, at.1) (λ h. h))

pub row_session : (text : List ℕ) (left : LinesLeft) → row_lines (lines_of text) ≡ Ok left → session_of text ≡ calls_left left
unfolding session_of
row_session text left is = (row_text (lines_of text) left is).1

pub row_has : (text : List ℕ) (left : LinesLeft) → row_lines (lines_of text) ≡ Ok left → has_call left.lines ≡ true → session_has_call text ≡ true
row_has text left is = (row_text (lines_of text) left is).2

no_row : (lines : List (List ℕ)) (fault : ℕ × Refusal) → row_lines lines ≡ Err fault → calls_of_lines lines ≡ Err fault
no_row [] fault is = cc
no_row (first ∷ lines) fault is = not_opened lines fault (first_line first) (calls_in 2 lines) is

-- the fault of the first line is that of the text
pub row_unread : (text : List ℕ) (fault : ℕ × Refusal) → row_lines (lines_of text) ≡ Err fault → IsFaultOf (session_has_call text) (session_of text) fault
unfolding session_of
row_unread text fault is = rw (no_row (lines_of text) fault is) (inl refl)

pub row_saved : (text : List ℕ) (left : LinesLeft) → row_lines (lines_of text) ≡ Ok left → saved_of text ≡ tree_of (calls_left left)
row_saved text left is = of_row text (row_text (lines_of text) left is).0 ∙ ap row_of (row_session text left is) ∙ by (calls_left left)
  where
    by : (r : Result (List (ℕ × Call)) (ℕ × Refusal)) → row_of r ≡ tree_of r
    by (Ok calls) = refl
    by (Err fault) = refl

pub row_more_left : (left behind : LinesLeft) (made : ℕ × Call) → next_call left ≡ Ok (Some made, behind)
    → calls_left left ≡ in_front_of made (calls_left behind)
row_more_left left behind made is = (next_some left.number left.lines made behind is).0

pub row_ended : (left behind : LinesLeft) → next_call left ≡ Ok (None, behind) → calls_left left ≡ Ok []
row_ended left behind is = next_none left.number left.lines behind is

pub row_fault : (left : LinesLeft) (fault : ℕ × Refusal) → next_call left ≡ Err fault → calls_left left ≡ Err fault
row_fault left fault is = next_fault left.number left.lines fault is
