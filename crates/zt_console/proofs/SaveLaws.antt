-- The first branch of a tree is there, and a head is a moment; the lines of moments, one more at a time.
use Rattle.std.proofs.Common.{◌≡◌, ℕ, ◌+◌, ◌<◌, ◌≤◌, List, [], ◌∷◌, ◌++◌, length, map, take, Some, Ok, arith, subst, ap, sym, ◌∙◌, append_assoc}
use Rattle.std.specs.List.{filter_map, flat_map}
use Rattle.std.proofs.lemmas.Grind.{flat_map-append}
use Rattle.std.specs.Prelude.{slice_get}
use Rattle.std.proofs.lemmas.Bool.{le-leb}
use Rattle.zt_rows.specs.declared.refusals.Refusal.{Refusal}
use Rattle.zt_rows.specs.declared.refusals.Refusal.TheVariants as refusal
use Rattle.zt_history.specs.HistoryRefusals.{IsHistoryRefusal, moment_on, check, ◌>>=◌}
use Rattle.zt_history.specs.TreeInvariant.{IsTree, names_of}
use Rattle.zt_history.specs.Tree.{Branch, Made, Tree, main_name}
use Rattle.zt_book.specs.SavedSessions.{saved_call}
use Rattle.zt_book.specs.ProofsOnly.SavedSessions.{saved_at}
use Rattle.zt_book.proofs.SavedLaws.{next_saved}
use Rattle.zt_text.specs.SavedTexts.{saved_call_line}

some-branch : (branches : List Branch) → slice_get (names_of branches) 0 ≡ Some main_name → 0 < length branches
some-branch [] h = cc h
some-branch (b ∷ bs) h = omega arith

pub main_there : (t : Tree) → IsTree t → 0 < length t.branches
main_there t h = some-branch t.branches h.branches.main

-- where the moment is there, memory alone is refused
pub memory_alone : (t : Tree) (m : ℕ) (given : Refusal) → m ≤ length t.made → IsHistoryRefusal (moment_on t m) given → given ≡ refusal.OutOfMemory
memory_alone t m given within h = subst (λ b. IsHistoryRefusal (check b refusal.NoMoment >>= λ _. Ok m) given) (le-leb m (length t.made) within) h

-- the line of one moment more is put behind those so far
pub line_put : (made : List Made) (i : ℕ) (first before after : List ℕ)
    → before ≡ first ++ flat_map saved_call_line (map saved_call (take i made))
    → after ≡ before ++ flat_map saved_call_line (filter_map (saved_at made) ((i + 1) ∷ []))
    → after ≡ first ++ flat_map saved_call_line (map saved_call (take (i + 1) made))
line_put made i first before after so_far next =
    next
    ∙ (ap (λ text. text ++ flat_map saved_call_line (filter_map (saved_at made) ((i + 1) ∷ []))) so_far
    ∙ (append_assoc first (flat_map saved_call_line (map saved_call (take i made))) (flat_map saved_call_line (filter_map (saved_at made) ((i + 1) ∷ [])))
    ∙ ap (λ lines. first ++ lines)
    (sym (flat_map-append saved_call_line (map saved_call (take i made)) (filter_map (saved_at made) ((i + 1) ∷ []))) ∙ ap (flat_map saved_call_line) (next_saved made i))))
