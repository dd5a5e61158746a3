-- What a line more notes.
use Rattle.std.proofs.Common.{◌≡◌, ℕ, ◌-◌, ◌<◌, true, false, List, [], ◌∷◌, ◌++◌, length, take, drop, get_or, Option, Some, refl, sym, ap, subst, ◌∙◌, arith}
use Rattle.std.specs.Prelude.{◌≤◌, Bool, not, ◌&&◌, ◌==◌, cond, is_some, if◌then◌else◌, Result, Ok, Err, OnOk}
use Rattle.std.specs.Ordering.{is_eq}
use Rattle.std.proofs.Math.Seq.{drop-length}
use Rattle.std.specs.List.{list_all}
use Rattle.std.proofs.lemmas.List.{drop-append-le, drop_all, length-take-le, length-drop, get_or_past, nil_from_length}
use Rattle.std.proofs.lemmas.Bool.Decides.{nat_tests}
use Rattle.zt_text.specs.declared.name_lines.Subject.{Subject}
use Rattle.zt_text.specs.declared.name_lines.Subject.TheVariants.{Handle}
use Rattle.zt_text.specs.Lines.{lines_of}
use Rattle.zt_text.specs.Answers.{as_line}
use Rattle.zt_text.specs.Notes.{Noted, NotedSoFar, is_comment, is_name_line, is_same_subject, last_name, is_nothing, is_unnoted, name_in, newer_name, note_at, noted_in, with_comment, with_moment, with_noted, without_moment}
use Rattle.zt_text.specs.ProofsOnly.Notes.{pieces, end_after, last_end, so_far, pair_cmp, AreEnds}
use Rattle.zt_text.proofs.NameTables.{same_pair}
use Rattle.zt_text.proofs.PieceLemmas.{pieces_and_last, last_of_more, pieces_fit, pieces_more, length_pieces, end_of_all, ends_fit, ends_within, none_of_none, last_of_none}

-- ---- what a line does

waits : (is named : Bool) (a b c : NotedSoFar) → (is && named) ≡ false → is ≡ true → (if is && named then a else (if is && not named then b else c)) ≡ b
waits true true a b c other comment = cc
waits true false a b c other comment = refl
waits false named a b c other comment = cc

pub comment_waits : (noted : NotedSoFar) (line : List ℕ) → is_name_line line ≡ false → is_comment line ≡ true
    → with_comment noted line ≡ record noted { waiting = noted.waiting ++ as_line line }
comment_waits noted line other is =
    waits (is_comment line) (is_some (name_in line)) (record noted { names = noted.names ++ as_line line }) (record noted { waiting = noted.waiting ++ as_line line }) noted other is

pub comment_left : (noted : NotedSoFar) (line : List ℕ) → is_name_line line ≡ false → is_comment line ≡ false → with_comment noted line ≡ noted
comment_left noted line other is = rw (other, is) refl

pub noted_more : (whole noted more : _) (lines others : List (List ℕ)) (line : List ℕ)
    → whole ≡ noted_in noted lines → lines ≡ line ∷ others → more ≡ with_noted noted line → whole ≡ noted_in more others
noted_more whole noted more lines others line before first is =
    before ∙ ap (noted_in noted) first ∙ ap (λ n. noted_in n others) (sym is)

pub noted_all : (whole noted : NotedSoFar) (left : List ℕ) → whole ≡ noted_in noted (lines_of left) → length left ≡ 0 → whole ≡ noted
noted_all whole noted left before none = before ∙ ap (λ bytes. noted_in noted (lines_of bytes)) (nil_from_length left none)

-- ---- notes as they are kept

pub note_ended : (notes ends rest names more : List ℕ) → more ≡ ends ++ (length notes ∷ []) → so_far notes more rest names ≡ with_moment (so_far notes ends rest names)
note_ended notes ends rest names more is =
    rw (is, pieces_and_last 0 ends notes, last_of_more 0 ends (length notes), drop-length notes) refl

pub note_left : (notes ends rest names fewer more : List ℕ) (last : ℕ) → AreEnds 0 ends (length notes) → last ≡ last_end 0 ends
    → fewer ≡ take last notes → more ≡ rest ++ drop last notes → so_far fewer ends more names ≡ without_moment (so_far notes ends rest names)
note_left notes ends rest names fewer more last within at kept left =
    let le : last_end 0 ends ≤ length notes = ends_within 0 ends (length notes) within in
    let long : length (take (last_end 0 ends) notes) ≡ last_end 0 ends = length-take-le (last_end 0 ends) notes le in
    let fit : length (take (last_end 0 ends) notes) ≤ last_end 0 ends = omega arith in
    rw (kept, left, at, pieces_fit 0 ends notes within, drop_all (last_end 0 ends) (take (last_end 0 ends) notes) fit) refl

pub note_longer : (notes ends rest names more line : List ℕ) → AreEnds 0 ends (length notes) → more ≡ notes ++ line
    → so_far more ends rest names ≡ record (so_far notes ends rest names) { waiting = drop (last_end 0 ends) notes ++ line }
note_longer notes ends rest names more line within is =
    rw (is, pieces_more 0 ends notes line within, drop-append-le (last_end 0 ends) notes line (ends_within 0 ends (length notes) within)) refl

-- the ends are those of the notes that are left
pub ends_left : (notes ends fewer : List ℕ) (last : ℕ) → AreEnds 0 ends (length notes) → last ≡ last_end 0 ends → fewer ≡ take last notes → AreEnds 0 ends (length fewer)
ends_left notes ends fewer last within at kept =
    let le : last_end 0 ends ≤ length notes = ends_within 0 ends (length notes) within in
    let long : length (take (last_end 0 ends) notes) ≡ last_end 0 ends = length-take-le (last_end 0 ends) notes le in
    let P : ℕ → Type 0 = λ n. AreEnds 0 ends n in
    rw (kept, at) (subst P (sym long) (ends_fit 0 ends (length notes) within))

pub last_by : (ends : List ℕ) (count last : ℕ) → last ≡ end_after count 0 ends → count ≡ length ends → last ≡ last_end 0 ends
last_by ends count last is all = is ∙ ap (λ k. end_after k 0 ends) all ∙ end_of_all 0 ends

-- where something holds of what is put, what follows from it holds too
pub on_put : {T E : Type 0} (r : Result T E) (P Q : Type 0) → (P → Q) → OnOk r P → OnOk r Q
on_put (Ok value) P Q follows put = follows put
on_put (Err fault) P Q follows put = tt

-- the last end is that of all bytes where nothing waits
pub none_waits : (notes ends : List ℕ) → AreEnds 0 ends (length notes) → drop (last_end 0 ends) notes ≡ [] → last_end 0 ends ≡ length notes
none_waits notes ends within none =
    let le : last_end 0 ends ≤ length notes = ends_within 0 ends (length notes) within in
    let left : length (drop (last_end 0 ends) notes) ≡ 0 = ap length none in
    let long : length notes - last_end 0 ends ≡ 0 = rw length-drop at left in
    omega arith

-- there is no note where there are no bytes
both_ways : (a b : Bool) → (a ≡ true → b ≡ true) → (b ≡ true → a ≡ true) → a ≡ b
both_ways true true there back = refl
both_ways true false there back = sym (there refl)
both_ways false true there back = back refl
both_ways false false there back = refl

no_notes : (notes ends : List ℕ) → AreEnds 0 ends (length notes) → last_end 0 ends ≡ length notes → is_nothing notes ≡ list_all is_nothing (pieces 0 ends notes)
no_notes notes ends within whole =
    both_ways (is_nothing notes) (list_all is_nothing (pieces 0 ends notes))
    (λ none. none_of_none 0 ends notes (nil_from_length notes (grind (arith, nat_tests, none))))
    (λ none. let zero : last_end 0 ends ≡ 0 = last_of_none 0 ends notes within none in grind (arith, nat_tests, zero, whole))

pub unnoted_by : (notes ends rest names : List ℕ) → AreEnds 0 ends (length notes) → last_end 0 ends ≡ length notes
    → (is_nothing notes && is_nothing rest && is_nothing names) ≡ is_unnoted (record { notes = pieces 0 ends notes; rest = rest; names = names })
unnoted_by notes ends rest names within whole = rw (no_notes notes ends within whole) refl

-- ---- the note of a moment

empty_either : (b : Bool) (x : List ℕ) → x ≡ [] → (if b then [] else x) ≡ []
empty_either true x none = refl
empty_either false x none = none

pub note_beyond : (noted : Noted) (moment : ℕ) → length noted.notes < moment → note_at noted moment ≡ []
note_beyond noted moment beyond = empty_either (moment == 0) (get_or noted.notes (moment - 1) []) (get_or_past noted.notes (moment - 1) [] (omega arith))

pub note_past : (notes ends rest names : List ℕ) (moment : ℕ) → length ends < moment → [] ≡ note_at (record { notes = pieces 0 ends notes; rest = rest; names = names }) moment
note_past notes ends rest names moment beyond =
    let long : length (pieces 0 ends notes) ≡ length ends = length_pieces 0 ends notes in
    sym (note_beyond (record { notes = pieces 0 ends notes; rest = rest; names = names }) moment (omega arith))

pub note_of_some : (noted : Noted) (moment : ℕ) → 0 < moment → note_at noted moment ≡ get_or noted.notes (moment - 1) []
note_of_some noted moment some = grind (arith, nat_tests)

-- ---- the last name

pub name_more : (subject : Subject) (whole found newer : Option (List ℕ)) (lines others : List (List ℕ)) (line : List ℕ)
    → whole ≡ last_name subject found lines → lines ≡ line ∷ others → newer ≡ newer_name subject found (name_in line) → whole ≡ last_name subject newer others
name_more subject whole found newer lines others line before first is =
    before ∙ ap (last_name subject found) first ∙ ap (λ f. last_name subject f others) (sym is)

pub names_all : (subject : Subject) (whole found : Option (List ℕ)) (left : List ℕ) → whole ≡ last_name subject found (lines_of left) → length left ≡ 0 → found ≡ whole
names_all subject whole found left before none = sym (before ∙ ap (λ bytes. last_name subject found (lines_of bytes)) (nil_from_length left none))

pub handle_added : (subject : Subject) (q g u v p h : ℕ) (text value : List ℕ) (old new : Option (List ℕ)) → subject ≡ Handle q g → u ≡ q → v ≡ g → value ≡ text
    → new ≡ cond (is_eq (pair_cmp (u, v) (p, h))) (Some value) old → new ≡ (if is_same_subject subject (Handle p h) then Some text else old)
handle_added subject q g u v p h text value old new is at by same up =
    rw is (up ∙ ap (λ b. cond b (Some value) old) (same_pair u v p h) ∙ rw (at, by, same) refl)
