-- What is loaded of a saved tree is written down as it was.
use Rattle.std.proofs.Common.{◌≡◌, ℕ, suc, ◌≤◌, ◌<◌, Bool, true, false, not, List, [], ◌∷◌, ◌++◌, length, map, Option, Some, None, Result, Ok, Err, refl, sym, ◌∙◌, ap, subst, arith, length-append}
use Rattle.std.specs.Prelude.{is_some, nat_lt, nat_le}
use Rattle.std.specs.Cmp.Lexicographic.{bytes_decides}
use Rattle.std.specs.List.{AllByRecursion, IsDistinct}
use Rattle.std.specs.Str.{bytes_eq}
use Rattle.std.proofs.lemmas.Bool.{leb-true, ltb-true}
use Rattle.std.proofs.lemmas.List.{append-nil, append_assoc, map-append}
use Rattle.zt_rows.specs.declared.calls.Answer.{Answer}
use Rattle.zt_rows.specs.declared.refusals.Refusal.{Refusal}
use Rattle.zt_rows.specs.declared.refusals.Refusal.TheVariants as refusal
use Rattle.zt_rows.specs.declared.saved.Saved.{Saved}
use Rattle.zt_rows.specs.declared.saved.SavedCall.{SavedCall}
use Rattle.zt_rows.specs.declared.saved.SavedBranch.{SavedBranch}
use Rattle.zt_rows.specs.Reads.{has_live_process}
use Rattle.zt_history.specs.HistoryRefusals.{check, ◌>>=◌ as ◌then◌, call_under, most_moments}
use Rattle.zt_history.specs.Tree.{Made, Branch, Tree, main_name, opening_tree, last_moment, state_at, branch_named, made_by, grown_at, head_moved, headed, branched}
use Rattle.zt_history.specs.TreeInvariant.{AreBranches}
use Rattle.zt_history.proofs.TreeLaws.{branches-headed, branches-push}
use Rattle.zt_book.specs.Session.{is_name}
use Rattle.zt_book.specs.SavedSessions.{saved_call, saved_branch, ◌>>=◌, at_item, in_turn, with_moment, with_main, with_branch, with_branches, loaded_tree}
use Rattle.zt_book.proofs.ListLaws.{all-append}

-- ---- steps in a row that gave something

-- where the last gives something, so does the first
pub apart : {A B E : Type 0} (r : Result A E) (f : A → Result B E) (y : B) → (r >>= f) ≡ Ok y → (x : A) × (r ≡ Ok x) × (f x ≡ Ok y)
apart (Ok x) f y h = (x, refl, h)
apart (Err e) f y h = absurd (cc)

at_item-gave : {A : Type 0} (n : ℕ) (r : Result A Refusal) (x : A) → at_item n r ≡ Ok x → r ≡ Ok x
at_item-gave n (Ok y) x h = cc
at_item-gave n (Err e) x h = absurd (cc)

pub same_Ok : {A E : Type 0} (x y : A) → ◌≡◌ {A = Result A E} (Ok x) (Ok y) → x ≡ y
same_Ok x y h = cc

-- the first item was added, and the others behind it
pub turn-apart : {W I : Type 0} (add : W → I → Result W Refusal) (n : ℕ) (w u : W) (x : I) (rest : List I) → in_turn add n w (x ∷ rest) ≡ Ok u
    → (v : W) × (add w x ≡ Ok v) × (in_turn add (suc n) v rest ≡ Ok u)
turn-apart add n w u x rest h =
    let e = apart (at_item n (add w x)) (λ more. in_turn add (suc n) more rest) u h in
    (e.0, at_item-gave n (add w x) e.0 e.1, e.2)

-- ---- moments

under-apart : (room there running : Bool) (said : Answer) (after : Tree) (y : Answer × Tree)
    → (check room refusal.Full then (λ _. check there refusal.NoMoment then (λ _. check running refusal.NoProcess then (λ _. let done : Result (Answer × Tree) Refusal = Ok (said, after) in done)))) ≡ Ok y
    → (room ≡ true) × (there ≡ true) × (y.1 ≡ after)
under-apart true true true said after y h = (refl, refl, ap (λ (y : Answer × Tree). y.1) (sym (same_Ok (said, after) y h)))
under-apart true true false said after y h = absurd (cc)
under-apart true false running said after y h = absurd (cc)
under-apart false there running said after y h = absurd (cc)

pub moment-apart : (t u : Tree) (s : SavedCall) → with_moment t s ≡ Ok u
    → (last_moment t < most_moments) × (s.parent ≤ last_moment t) × (u ≡ grown_at t s.parent s.process s.call)
moment-apart t u s h =
    let e = apart (call_under t s.parent s.process s.call) (λ done. Ok done.1) u h in
    let f = under-apart (nat_lt (last_moment t) most_moments) (nat_le s.parent (last_moment t)) (has_live_process (state_at t.made s.parent) s.process) _ _ e.0 e.1 in
    (ltb-true (last_moment t) most_moments f.0, leb-true s.parent (last_moment t) f.1, sym (same_Ok e.0.1 u e.2) ∙ f.2)

-- the moments that are loaded are those that are written down, behind those that there were
pub moments-kept : (ms : List SavedCall) (n : ℕ) (t u : Tree) → in_turn with_moment n t ms ≡ Ok u
    → (map saved_call u.made ≡ map saved_call t.made ++ ms) × (u.branches ≡ t.branches) × (last_moment t ≤ most_moments → last_moment u ≤ most_moments)
moments-kept [] n t u h =
    let same : t ≡ u = same_Ok t u h in (
      ap (λ (u : Tree). map saved_call u.made) (sym same) ∙ sym (append-nil (map saved_call t.made)),
      ap (λ (u : Tree). u.branches) (sym same),
      λ few. subst (λ (u : Tree). last_moment u ≤ most_moments) same few,
    )
moments-kept (m ∷ ms) n t u h =
    let e = turn-apart with_moment n t u m ms h in
    let f = moment-apart t e.0 m e.1 in
    let g = moments-kept ms (suc n) e.0 u e.2 in
    let one : Made = made_by t.made m.parent m.process m.call in
    let more : last_moment e.0 ≤ most_moments = omega (arith, f.0, ap (λ (v : Tree). length v.made) f.2, length-append t.made (one ∷ [])) in (
      g.0 ∙ ap (λ (v : Tree). map saved_call v.made ++ ms) f.2
          ∙ ap (λ (l : List SavedCall). l ++ ms) (map-append saved_call t.made (one ∷ []))
          ∙ append_assoc (map saved_call t.made) (m ∷ []) ms,
      g.1 ∙ ap (λ (v : Tree). v.branches) f.2,
      λ _. g.2 more,
    )

-- ---- branches

main-parts : (t u : Tree) (s : SavedBranch) (named there : Bool)
    → (check named refusal.NoBranch >>= λ _. (check there refusal.NoMoment then (λ _. let m : Result ℕ Refusal = Ok s.head in m)) >>= λ head. let v : Result Tree Refusal = Ok (head_moved t 0 head) in v) ≡ Ok u
    → (named ≡ true) × (there ≡ true) × (u ≡ head_moved t 0 s.head)
main-parts t u s true true h = (refl, refl, sym (same_Ok _ u h))
main-parts t u s true false h = absurd (cc)
main-parts t u s false there h = absurd (cc)

pub main-apart : (t u : Tree) (s : SavedBranch) → with_main t s ≡ Ok u
    → (s.name ≡ main_name) × (s.head ≤ last_moment t) × (u ≡ head_moved t 0 s.head)
main-apart t u s h =
    let e = main-parts t u s (bytes_eq s.name main_name) (nat_le s.head (last_moment t)) h in
    ((bytes_decides s.name main_name).0 e.0, leb-true s.head (last_moment t) e.1, e.2)

branch-parts : (t u : Tree) (s : SavedBranch) (named there : Bool) (found : Option ℕ)
    → (check named refusal.BadName >>= λ _. check (not (is_some found)) refusal.NameTaken >>= λ _. (check there refusal.NoMoment then (λ _. let m : Result ℕ Refusal = Ok s.head in m)) >>= λ head. let v : Result Tree Refusal = Ok (branched t s.name head) in v) ≡ Ok u
    → (named ≡ true) × (found ≡ None) × (there ≡ true) × (u ≡ branched t s.name s.head)
branch-parts t u s true true None h = (refl, refl, refl, sym (same_Ok _ u h))
branch-parts t u s true false None h = absurd (cc)
branch-parts t u s true there (Some b) h = absurd (cc)
branch-parts t u s false there found h = absurd (cc)

branch-apart : (t u : Tree) (s : SavedBranch) → with_branch t s ≡ Ok u
    → (is_name s.name ≡ true) × (branch_named t.branches s.name ≡ None) × (s.head ≤ last_moment t) × (u ≡ branched t s.name s.head)
branch-apart t u s h =
    let e = branch-parts t u s (is_name s.name) (nat_le s.head (last_moment t)) (branch_named t.branches s.name) h in
    (e.0, e.1, leb-true s.head (last_moment t) e.2, e.3)

-- what holds of all branches of a tree that is loaded
pub record HasBranches (t : Tree) : Type 0 where
  pub branches : AreBranches (last_moment t) t.branches
  pub named : AllByRecursion (λ b. is_name b.name ≡ true) t.branches

-- one branch more
pub has-branched : (t : Tree) (name : List ℕ) (m : ℕ) → HasBranches t → is_name name ≡ true → branch_named t.branches name ≡ None → m ≤ last_moment t
    → HasBranches (branched t name m)
has-branched t name m has named free there = record {
  branches = branches-push (last_moment t) t.branches (record { name = name; head = m }) has.branches free there;
  named = all-append (λ b. is_name b.name ≡ true) t.branches (record { name = name; head = m }) has.named named;
}

-- the branches that are loaded are those that are written down, behind those that there were
pub branches-kept : (bs : List SavedBranch) (n : ℕ) (t u : Tree) → HasBranches t → in_turn with_branch n t bs ≡ Ok u
    → (map saved_branch u.branches ≡ map saved_branch t.branches ++ bs) × (u.made ≡ t.made) × HasBranches u
branches-kept [] n t u are h =
    let same : t ≡ u = same_Ok t u h in (
      ap (λ (u : Tree). map saved_branch u.branches) (sym same) ∙ sym (append-nil (map saved_branch t.branches)),
      ap (λ (u : Tree). u.made) (sym same),
      subst HasBranches same are,
    )
branches-kept (b ∷ bs) n t u are h =
    let e = turn-apart with_branch n t u b bs h in
    let f = branch-apart t e.0 b e.1 in
    let one : Branch = record { name = b.name; head = b.head } in
    let more : HasBranches e.0 = subst HasBranches (sym f.3) (has-branched t b.name b.head are f.0 f.1 f.2) in
    let g = branches-kept bs (suc n) e.0 u more e.2 in (
      g.0 ∙ ap (λ (v : Tree). map saved_branch v.branches ++ bs) f.3
          ∙ ap (λ (l : List SavedBranch). l ++ bs) (map-append saved_branch t.branches (one ∷ []))
          ∙ append_assoc (map saved_branch t.branches) (b ∷ []) bs,
      g.1 ∙ ap (λ (v : Tree). v.made) f.3,
      g.2,
    )

-- ---- the tree

-- `main` alone
main-alone : (n : ℕ) → AreBranches n opening_tree.branches
unfolding IsDistinct
main-alone n = record { main = refl; names = (tt, tt); heads = (omega arith, tt) }

-- these moments, and `main` at the opening
abbrev pub bare : List Made → Tree
bare made = record { made = made; branches = opening_tree.branches }

-- what is loaded is written down so again; it was bare first
pub tree-kept : (s : Saved) (t : Tree) → loaded_tree s ≡ Ok t
    → (map saved_call t.made ≡ s.moments) × (map saved_branch t.branches ≡ s.branches) × HasBranches t × (in_turn with_moment 0 opening_tree s.moments ≡ Ok (bare t.made))
tree-kept s t h =
    let e = apart (in_turn with_moment 0 opening_tree s.moments) (λ t. with_branches (length s.moments) t s.branches) t h in
    let moments = moments-kept s.moments 0 opening_tree e.0 e.1 in
    let f = branches_kept (length s.moments) e.0 moments.1 s.branches e.2 in
    let first : e.0 ≡ bare t.made = λ i. record { made = sym f.1 i; branches = moments.1 i } in
    (ap (map saved_call) f.1 ∙ moments.0, f.0, f.2, e.1 ∙ ap Ok first)
  where
    first_kept : (u v : Tree) (first : SavedBranch) → u.branches ≡ opening_tree.branches → with_main u first ≡ Ok v
        → (map saved_branch v.branches ≡ first ∷ []) × (v.made ≡ u.made) × HasBranches v
    first_kept u v first alone h =
        let e = main-apart u v first h in
        let moved : v.branches ≡ record { name = main_name; head = first.head } ∷ [] =
        ap (λ (v : Tree). v.branches) e.2 ∙ ap (λ (bs : List Branch). headed bs 0 first.head) alone in
        let same : v.made ≡ u.made = ap (λ (v : Tree). v.made) e.2 in
        let are : AreBranches (last_moment u) (record { name = main_name; head = first.head } ∷ []) =
        branches-headed (last_moment u) (last_moment u) first.head opening_tree.branches 0 (omega arith) e.1 (main-alone (last_moment u)) in (
          ap (map saved_branch) moved ∙ ap (λ (name : List ℕ). let l : List SavedBranch = record { name = name; head = first.head } ∷ [] in l) (sym e.0),
          same,
          record {
            branches = subst (λ n. AreBranches n v.branches) (ap length (sym same)) (subst (AreBranches (last_moment u)) (sym moved) are);
            named = subst (AllByRecursion (λ b. is_name b.name ≡ true)) (sym moved) (refl, tt);
          },
        )

    branches_kept : (n : ℕ) (u : Tree) → u.branches ≡ opening_tree.branches → (bs : List SavedBranch) → with_branches n u bs ≡ Ok t
        → (map saved_branch t.branches ≡ bs) × (t.made ≡ u.made) × HasBranches t
    branches_kept n u alone [] h = absurd (cc)
    branches_kept n u alone (first ∷ others) h =
        let e = apart (at_item n (with_main u first)) (λ v. in_turn with_branch (suc n) v others) t h in
        let f = first_kept u e.0 first alone (at_item-gave n (with_main u first) e.0 e.1) in
        let g = branches-kept others (suc n) e.0 t f.2 e.2 in
        (g.0 ∙ ap (λ (l : List SavedBranch). l ++ others) f.0, g.1 ∙ f.1, g.2)
