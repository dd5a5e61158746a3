-- The lines of bytes one behind the other, and what comments do to what is noted, to a tree and to calls.
use Rattle.std.proofs.Common.{◌≡◌, ℕ, ◌+◌, Bool, true, false, List, [], ◌∷◌, ◌++◌, length, Option, None, Result, Ok, Err, refl, sym, ap, ◌∙◌, arith, append_assoc}
use Rattle.std.specs.Prelude.{◌==◌, ◌&&◌, not, nat_le, nat_lt, nat_eq, codes, if◌then◌else◌, is_some}
use Rattle.std.specs.List.{flat_map, list_all, onto_first, starts_with}
use Rattle.std.proofs.lemmas.Bool.{and_parts, eqb-true, eq-eqb}
use Rattle.std.proofs.lemmas.Bool.Decides.{nat_tests}
use Rattle.std.proofs.lemmas.Grind.{flat_map-append}
use Rattle.std.proofs.lemmas.List.{append-nil}
use Rattle.std.proofs.lemmas.List.Folds.{list_all-append}
use Rattle.zt_rows.specs.declared.refusals.Refusal.{Refusal}
use Rattle.zt_rows.specs.declared.calls.Call.{Call}
use Rattle.zt_rows.specs.declared.saved.Saved.{Saved}
use Rattle.zt_text.specs.Lines.{lines_of}
use Rattle.zt_text.specs.Answers.{as_line}
use Rattle.zt_text.specs.Fields.{◌>>=◌}
use Rattle.zt_text.specs.ReadLines.{is_skipped, fields_in}
use Rattle.zt_text.specs.Session.{at_line, in_front, call_in, calls_in}
use Rattle.zt_text.specs.SavedTexts.{with_line, with_lines}
use Rattle.zt_text.specs.Notes.{NotedSoFar, is_comment, is_name_line, is_note_line, name_in, noted_in, with_noted}
use Rattle.zt_text.specs.NotedTexts.{AreLines}
use Rattle.zt_text.proofs.LineLemmas.{line_written}
use Rattle.zt_text.proofs.ShownWords.{is_free}

-- ---- lines one behind the other

-- no line has a line feed
abbrev pub free : List ℕ → Bool
free line = is_free 10 line

not_feed : (x : ℕ) → (x == 10) ≡ false → not (x == 10) ≡ true
not_feed x other = ap not other

onto_free : (x : ℕ) (lines : List (List ℕ)) → (x == 10) ≡ false → list_all free lines ≡ true → list_all free (onto_first x lines) ≡ true
onto_free x [] other are = rw other refl
onto_free x (line ∷ lines) other are = rw other are

pub lines_free : (bytes : List ℕ) → list_all free (lines_of bytes) ≡ true
lines_free [] = refl
lines_free (x ∷ xs) =
    elim (x == 10) as (λ b. (x == 10) ≡ b → list_all free (if b then [] ∷ lines_of xs else onto_first x (lines_of xs)) ≡ true) [
      | true ↦ λ e. lines_free xs
      | false ↦ λ e. onto_free x (lines_of xs) e (lines_free xs)
    ] refl

pub lines_put : (lines : List (List ℕ)) (rest : List ℕ) → list_all free lines ≡ true → lines_of (flat_map as_line lines ++ rest) ≡ lines ++ lines_of rest
lines_put [] rest are = refl
lines_put (line ∷ lines) rest are =
    let parts = and_parts (free line) (list_all free lines) are in
    ap lines_of (append_assoc (as_line line) (flat_map as_line lines) rest ∙ append_assoc line (10 ∷ []) (flat_map as_line lines ++ rest))
    ∙ line_written line (flat_map as_line lines ++ rest) parts.0
    ∙ ap (λ ls. line ∷ ls) (lines_put lines rest parts.1)

-- whole lines, and what is behind them
pub lines_behind : (test : List ℕ → Bool) (bytes rest : List ℕ) → AreLines test bytes → lines_of (bytes ++ rest) ≡ lines_of bytes ++ lines_of rest
lines_behind test bytes rest are =
    ap (λ b. lines_of (b ++ rest)) (sym are.0) ∙ lines_put (lines_of bytes) rest (lines_free bytes)

-- one line more
pub line_more : (test : List ℕ → Bool) (bytes line : List ℕ) → AreLines test bytes → test line ≡ true → free line ≡ true → AreLines test (bytes ++ as_line line)
line_more test bytes line are is fine =
    let lines : lines_of (bytes ++ as_line line) ≡ lines_of bytes ++ (line ∷ []) =
    lines_behind test bytes (as_line line) are ∙ ap (λ ls. lines_of bytes ++ ls) (line_written line [] fine) in (
      ap (flat_map as_line) lines ∙ flat_map-append as_line (lines_of bytes) (line ∷ []) ∙ ap (λ l. flat_map as_line (lines_of bytes) ++ l) (append-nil (as_line line))
          ∙ ap (λ b. b ++ as_line line) are.0,
      ap (list_all test) lines ∙ list_all-append test (lines_of bytes) (line ∷ []) ∙ rw (are.1, is) refl,
    )

-- lines behind lines
pub lines_more : (test : List ℕ → Bool) (bytes more : List ℕ) → AreLines test bytes → AreLines test more → AreLines test (bytes ++ more)
lines_more test bytes more are others =
    let lines : lines_of (bytes ++ more) ≡ lines_of bytes ++ lines_of more = lines_behind test bytes more are in (
      ap (flat_map as_line) lines ∙ flat_map-append as_line (lines_of bytes) (lines_of more) ∙ ap (λ b. b ++ flat_map as_line (lines_of more)) are.0 ∙ ap (λ b. bytes ++ b) others.0,
      ap (list_all test) lines ∙ list_all-append test (lines_of bytes) (lines_of more) ∙ rw (are.1, others.1) refl,
    )

-- ---- comments

begun : (line : List ℕ) → starts_with nat_eq line (codes "#") ≡ true → is_skipped line ≡ true
begun [] is = cc
begun (x ∷ xs) is = eq-eqb x 35 (sym (eqb-true 35 x (and_parts (35 == x) true is).0))

pub comment_skipped : (line : List ℕ) → is_comment line ≡ true → is_skipped line ≡ true
comment_skipped line is = begun line (and_parts (starts_with nat_eq line (codes "#")) (nat_le (length line) 140000) is).0

comment_short : (line : List ℕ) → is_comment line ≡ true → nat_lt 140000 (length line) ≡ false
comment_short line is =
    let short : nat_le (length line) 140000 ≡ true = (and_parts (starts_with nat_eq line (codes "#")) (nat_le (length line) 140000) is).1 in
    grind (arith, nat_tests, short)

pub note_comment : (line : List ℕ) → is_note_line line ≡ true → is_comment line ≡ true
note_comment line is = (and_parts (is_comment line) (not (is_some (name_in line))) is).0

pub name_comment : (line : List ℕ) → is_name_line line ≡ true → is_comment line ≡ true
name_comment line is = (and_parts (is_comment line) (is_some (name_in line)) is).0

-- ---- what they do to what is noted

other_kind : (is named : Bool) → (is && not named) ≡ true → (is && named) ≡ false
other_kind true true e = cc
other_kind true false e = refl
other_kind false named e = cc

note_noted : (noted : NotedSoFar) (line : List ℕ) → is_note_line line ≡ true → with_noted noted line ≡ record noted { waiting = noted.waiting ++ as_line line }
note_noted noted line is =
    let skipped : is_skipped line ≡ true = comment_skipped line (note_comment line is) in
    let other : is_name_line line ≡ false = other_kind (is_comment line) (is_some (name_in line)) is in
    rw (skipped, other, is) refl

name_noted : (noted : NotedSoFar) (line : List ℕ) → is_name_line line ≡ true → with_noted noted line ≡ record noted { names = noted.names ++ as_line line }
name_noted noted line is =
    let skipped : is_skipped line ≡ true = comment_skipped line (name_comment line is) in
    rw (skipped, is) refl

pub noted_behind : (noted : NotedSoFar) (lines others : List (List ℕ)) → noted_in noted (lines ++ others) ≡ noted_in (noted_in noted lines) others
noted_behind noted [] others = refl
noted_behind noted (line ∷ lines) others = noted_behind (with_noted noted line) lines others

pub notes_noted : (noted : NotedSoFar) (lines : List (List ℕ)) → list_all is_note_line lines ≡ true → noted_in noted lines ≡ record noted { waiting = noted.waiting ++ flat_map as_line lines }
notes_noted noted [] are = ap (λ (w : List ℕ). record noted { waiting = w }) (sym (append-nil noted.waiting))
notes_noted noted (line ∷ lines) are =
    let parts = and_parts (is_note_line line) (list_all is_note_line lines) are in
    ap (λ (n : NotedSoFar). noted_in n lines) (note_noted noted line parts.0)
    ∙ notes_noted (record noted { waiting = noted.waiting ++ as_line line }) lines parts.1
    ∙ ap (λ (w : List ℕ). record noted { waiting = w }) (append_assoc noted.waiting (as_line line) (flat_map as_line lines))

pub names_noted : (noted : NotedSoFar) (lines : List (List ℕ)) → list_all is_name_line lines ≡ true → noted_in noted lines ≡ record noted { names = noted.names ++ flat_map as_line lines }
names_noted noted [] are = ap (λ (w : List ℕ). record noted { names = w }) (sym (append-nil noted.names))
names_noted noted (line ∷ lines) are =
    let parts = and_parts (is_name_line line) (list_all is_name_line lines) are in
    ap (λ (n : NotedSoFar). noted_in n lines) (name_noted noted line parts.0)
    ∙ names_noted (record noted { names = noted.names ++ as_line line }) lines parts.1
    ∙ ap (λ (w : List ℕ). record noted { names = w }) (append_assoc noted.names (as_line line) (flat_map as_line lines))

-- whole notes in front of what is behind them
pub note_in_front : (noted : NotedSoFar) (note rest : List ℕ) → AreLines is_note_line note
    → noted_in noted (lines_of (note ++ rest)) ≡ noted_in (record noted { waiting = noted.waiting ++ note }) (lines_of rest)
note_in_front noted note rest are =
    ap (noted_in noted) (lines_behind is_note_line note rest are) ∙ noted_behind noted (lines_of note) (lines_of rest)
    ∙ ap (λ (n : NotedSoFar). noted_in n (lines_of rest)) (notes_noted noted (lines_of note) are.1 ∙ ap (λ (w : List ℕ). record noted { waiting = noted.waiting ++ w }) are.0)

pub names_in_front : (noted : NotedSoFar) (names rest : List ℕ) → AreLines is_name_line names
    → noted_in noted (lines_of (names ++ rest)) ≡ noted_in (record noted { names = noted.names ++ names }) (lines_of rest)
names_in_front noted names rest are =
    ap (noted_in noted) (lines_behind is_name_line names rest are) ∙ noted_behind noted (lines_of names) (lines_of rest)
    ∙ ap (λ (n : NotedSoFar). noted_in n (lines_of rest)) (names_noted noted (lines_of names) are.1 ∙ ap (λ (w : List ℕ). record noted { names = noted.names ++ w }) are.0)

-- ---- what they do to a tree, and to calls: nothing

-- lines that are comments
abbrev pub are_comments : List (List ℕ) → Bool
are_comments lines = list_all is_comment lines

pub all_comments : (test : List ℕ → Bool) (lines : List (List ℕ)) → ((line : List ℕ) → test line ≡ true → is_comment line ≡ true) → list_all test lines ≡ true → are_comments lines ≡ true
all_comments test [] each are = refl
all_comments test (line ∷ lines) each are =
    let parts = and_parts (test line) (list_all test lines) are in
    rw (each line parts.0) (all_comments test lines each parts.1)

comment_read : (before : Saved) (line : List ℕ) → is_comment line ≡ true → with_line before line ≡ Ok before
unfolding with_line fields_in
comment_read before line is = rw (comment_short line is, comment_skipped line is) refl

comments_read : (before : Saved) (number : ℕ) (lines others : List (List ℕ)) → are_comments lines ≡ true
    → with_lines before number (lines ++ others) ≡ with_lines before (number + length lines) others
unfolding with_lines
comments_read before number [] others are = let same : number ≡ number + 0 = omega arith in ap (λ n. with_lines before n others) same
comments_read before number (line ∷ lines) others are =
    let parts = and_parts (is_comment line) (are_comments lines) are in
    let same : number + 1 + length lines ≡ number + length (line ∷ lines) = omega arith in
    ap (λ (r : Result Saved Refusal). at_line number r >>= λ made. with_lines made (number + 1) (lines ++ others)) (comment_read before line parts.0)
    ∙ comments_read before (number + 1) lines others parts.1
    ∙ ap (λ n. with_lines before n others) same

pub tree_in_front : (test : List ℕ → Bool) (before : Saved) (number : ℕ) (bytes rest : List ℕ) → ((line : List ℕ) → test line ≡ true → is_comment line ≡ true) → AreLines test bytes
    → with_lines before number (lines_of (bytes ++ rest)) ≡ with_lines before (number + length (lines_of bytes)) (lines_of rest)
tree_in_front test before number bytes rest each are =
    ap (with_lines before number) (lines_behind test bytes rest are) ∙ comments_read before number (lines_of bytes) (lines_of rest) (all_comments test (lines_of bytes) each are.1)

comment_called : (line : List ℕ) → is_comment line ≡ true → call_in line ≡ Ok None
unfolding call_in fields_in
comment_called line is = rw (comment_short line is, comment_skipped line is) refl

again : {A E : Type 0} (r : Result A E) → (r >>= λ made. Ok made) ≡ r
again (Ok made) = refl
again (Err fault) = refl

comments_called : (number : ℕ) (lines others : List (List ℕ)) → are_comments lines ≡ true → calls_in number (lines ++ others) ≡ calls_in (number + length lines) others
unfolding calls_in
comments_called number [] others are = let same : number ≡ number + 0 = omega arith in ap (λ n. calls_in n others) same
comments_called number (line ∷ lines) others are =
    let parts = and_parts (is_comment line) (are_comments lines) are in
    let same : number + 1 + length lines ≡ number + length (line ∷ lines) = omega arith in
    ap (λ (r : Result (Option (ℕ × Call)) Refusal). at_line number r >>= λ made. calls_in (number + 1) (lines ++ others) >>= λ calls. Ok (in_front made calls)) (comment_called line parts.0)
    ∙ again (calls_in (number + 1) (lines ++ others))
    ∙ comments_called (number + 1) lines others parts.1
    ∙ ap (λ n. calls_in n others) same

pub calls_in_front : (test : List ℕ → Bool) (number : ℕ) (bytes rest : List ℕ) → ((line : List ℕ) → test line ≡ true → is_comment line ≡ true) → AreLines test bytes
    → calls_in number (lines_of (bytes ++ rest)) ≡ calls_in (number + length (lines_of bytes)) (lines_of rest)
calls_in_front test number bytes rest each are =
    ap (calls_in number) (lines_behind test bytes rest are) ∙ comments_called number (lines_of bytes) (lines_of rest) (all_comments test (lines_of bytes) each are.1)
