-- The lines of moments and of calls behind their notes, one more at a time.
use Rattle.std.proofs.Common.{◌≡◌, ℕ, ◌+◌, ◌<◌, ◌≤◌, List, [], ◌∷◌, ◌++◌, length, get_or, map, take, Option, refl, arith, ap, sym, ◌∙◌, append_assoc}
use Rattle.std.specs.List.{filter_map, flat_map}
use Rattle.std.proofs.lemmas.Grind.{flat_map-append}
use Rattle.std.proofs.lemmas.List.{length-map, length-take-le}
use Rattle.zt_rows.specs.declared.saved.SavedCall.{SavedCall}
use Rattle.zt_history.specs.Tree.{Made}
use Rattle.zt_book.specs.SavedSessions.{saved_call}
use Rattle.zt_book.specs.ProofsOnly.SavedSessions.{saved_at}
use Rattle.zt_book.proofs.SavedLaws.{next_saved}
use Rattle.zt_queries.proofs.CopyLaws.{given_more}
use Rattle.zt_text.specs.Notes.{Noted, note_at}
use Rattle.zt_text.specs.SavedTexts.{saved_call_line}
use Rattle.zt_text.specs.NotedTexts.{noted_lines}

lines_append : (noted : Noted) (moment : ℕ) (xs ys : List SavedCall) → noted_lines noted moment (xs ++ ys) ≡ noted_lines noted moment xs ++ noted_lines noted (moment + length xs) ys
lines_append noted moment [] ys =
    let same : moment ≡ moment + 0 = omega arith in
    ap (λ n. noted_lines noted n ys) same
lines_append noted moment (x ∷ xs) ys =
    let same : moment + 1 + length xs ≡ moment + length (x ∷ xs) = omega arith in
    let line : List ℕ = note_at noted moment ++ saved_call_line x in
    ap (λ r. line ++ r) (lines_append noted (moment + 1) xs ys)
    ∙ sym (append_assoc line (noted_lines noted (moment + 1) xs) (noted_lines noted (moment + 1 + length xs) ys))
    ∙ ap (λ n. line ++ noted_lines noted (moment + 1) xs ++ noted_lines noted n ys) same

pub moment_put : (noted : Noted) (made : List Made) (i : ℕ) (first before after : List ℕ) → i ≤ length made
    → before ≡ first ++ noted_lines noted 1 (map saved_call (take i made))
    → after ≡ before ++ noted_lines noted (i + 1) (filter_map (saved_at made) ((i + 1) ∷ []))
    → after ≡ first ++ noted_lines noted 1 (map saved_call (take (i + 1) made))
moment_put noted made i first before after within so_far next =
    let some : List SavedCall = map saved_call (take i made) in
    let more : List SavedCall = filter_map (saved_at made) ((i + 1) ∷ []) in
    let many : length some ≡ i = length-map (take i made) saved_call ∙ length-take-le i made within in
    let here : i + 1 ≡ 1 + length some = omega arith in
    next
    ∙ ap (λ text. text ++ noted_lines noted (i + 1) more) so_far
    ∙ append_assoc first (noted_lines noted 1 some) (noted_lines noted (i + 1) more)
    ∙ ap (λ n. first ++ (noted_lines noted 1 some ++ noted_lines noted n more)) here
    ∙ ap (λ lines. first ++ lines) (sym (lines_append noted 1 some more) ∙ ap (noted_lines noted 1) (next_saved made i))

pub call_put : {A B : Type 0} (f : A → Option B) (g : B → List ℕ) (xs : List A) (i : ℕ) (x : A) (first before after : List ℕ) → i < length xs → x ≡ get_or xs i x
    → before ≡ first ++ flat_map g (filter_map f (take i xs)) → after ≡ before ++ flat_map g (filter_map f (x ∷ [])) → after ≡ first ++ flat_map g (filter_map f (take (i + 1) xs))
call_put f g xs i x first before after below at so_far next =
    next
    ∙ ap (λ text. text ++ flat_map g (filter_map f (x ∷ []))) so_far
    ∙ append_assoc first (flat_map g (filter_map f (take i xs))) (flat_map g (filter_map f (x ∷ [])))
    ∙ ap (λ lines. first ++ lines)
    (sym (flat_map-append g (filter_map f (take i xs)) (filter_map f (x ∷ [])))
    ∙ ap (flat_map g) (given_more f xs i x (filter_map f (take i xs)) (filter_map f (take i xs) ++ filter_map f (x ∷ [])) below at refl refl))
