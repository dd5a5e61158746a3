-- Calls alone are loaded as a saved tree in which they stand in a row.
use Rattle.std.proofs.Common.{◌≡◌, ℕ, suc, ◌+◌, ◌≤◌, Bool, true, false, cond, List, [], ◌∷◌, length, Result, Ok, Err, refl, sym, ◌∙◌, ap, subst, arith, length-append}
use Rattle.std.specs.Prelude.{nat_lt, replicate}
use Rattle.std.proofs.lemmas.Bool.{le-leb, lt-ltb, le-ltb, ltb-true}
use Rattle.std.proofs.lemmas.List.{length-map, length-replicate, take_all}
use Rattle.zt_rows.specs.CallsInARow.{as_moment, moments_from, in_a_row}
use Rattle.zt_rows.specs.declared.calls.Call.{Call}
use Rattle.zt_rows.specs.declared.refusals.Refusal.{Refusal}
use Rattle.zt_rows.specs.Reads.{has_live_process}
use Rattle.zt_history.specs.HistoryRefusals.{most_moments}
use Rattle.zt_history.specs.Tree.{Made, Branch, Tree, main_name, opening_tree, last_moment, state_at, made_by, grown, headed}
use Rattle.zt_book.specs.declared.client.Client.{Client}
use Rattle.zt_book.specs.Log.{loaded, loaded_from}
use Rattle.zt_book.specs.SavedSessions.{saved_call, ◌>>=◌, in_turn, with_moment, with_branches, seated, loaded_tree, loaded_saved, over_loaded}
use Rattle.zt_book.specs.Session.{Session, first_client, session_over}
use Rattle.zt_book.proofs.KeptLaws.{moments-kept}

-- `main` alone, with this head
abbrev pub on_main : List Made → ℕ → Tree
on_main made m = record { made = made; branches = record { name = main_name; head = m } ∷ [] }

-- the head of `main` is the last moment
abbrev pub at_last : Tree → Result Tree (ℕ × Refusal)
at_last t = Ok (on_main t.made (length t.made))

pub as_moment-small : (n : ℕ) → n ≤ most_moments → as_moment n ≡ n
as_moment-small n small = by (nat_lt n 4294967295) (lt-ltb n 4294967295 (omega (arith, small)))
  where
    by : (b : Bool) → b ≡ true → cond b n 4294967295 ≡ n
    by true h = refl
    by false h = absurd (cc)

-- Moments in a row, and then `main` is moved to the last; and calls on `main`. Both have as many moments before them, the first
-- of the row this parent, and `main` this head.
abbrev pub Agree : List Made → ℕ → ℕ → ℕ → List (ℕ × Call) → Type 0
Agree made number parent head calls =
    (in_turn with_moment number (on_main made 0) (moments_from parent calls) >>= at_last) ≡ loaded_from number (on_main made head) calls

-- one call more in front
module _ (made : List Made) (process : ℕ) (call : Call) (calls : List (ℕ × Call))
    (rest : Agree (grown made (length made) process call) (suc (length made)) (length made + 1) (suc (length made)) calls) where
  running-first : nat_lt (length made) most_moments ≡ true → (running : Bool) → has_live_process (state_at made (length made)) process ≡ running
      → Agree made (length made) (length made) (length made) ((process, call) ∷ calls)
  running-first room true has_live_process = rw (room, as_moment-small (length made) (omega (arith, ltb-true (length made) most_moments room)), le-leb (length made) (length made) (omega arith), has_live_process) rest
  running-first room false has_live_process = rw (room, as_moment-small (length made) (omega (arith, ltb-true (length made) most_moments room)), le-leb (length made) (length made) (omega arith), has_live_process) refl

  first : (room : Bool) → nat_lt (length made) most_moments ≡ room → Agree made (length made) (length made) (length made) ((process, call) ∷ calls)
  first true room = running-first room (has_live_process (state_at made (length made)) process) refl
  first false full = rw full refl

pub row-loaded : (calls : List (ℕ × Call)) (made : List Made) → Agree made (length made) (length made) (length made) calls
row-loaded [] made = refl
row-loaded ((process, call) ∷ calls) made =
    let next : List Made = grown made (length made) process call in
    let longer : length next ≡ suc (length made) = omega (arith, length-append made (made_by made (length made) process call ∷ [])) in
    let one_on : length next ≡ length made + 1 = omega (arith, longer) in
    let rest : Agree next (suc (length made)) (length made + 1) (suc (length made)) calls =
    subst (λ n. Agree next (suc (length made)) n (suc (length made)) calls) one_on
    (subst (λ n. Agree next n (length next) n calls) longer (row-loaded calls next)) in
    first made process call calls rest (nat_lt (length made) most_moments) refl

-- ---- the branch `main`, and the clients

pub length-moments_from : (n : ℕ) (calls : List (ℕ × Call)) → length (moments_from n calls) ≡ length calls
length-moments_from n [] = refl
length-moments_from n (made ∷ calls) = ap suc (length-moments_from (n + 1) calls)

main-last : (number m : ℕ) (t : Tree) → m ≡ last_moment t → m ≤ most_moments → t.branches ≡ opening_tree.branches
    → with_branches number t (record { name = main_name; head = as_moment m } ∷ []) ≡ at_last t
main-last number m t last small alone =
    rw (as_moment-small m small, le-leb m (last_moment t) (omega (arith, last)))
    (ap (λ (bs : List Branch). let r : Result Tree (ℕ × Refusal) = Ok (record { made = t.made; branches = headed bs 0 m }) in r) alone
    ∙ ap (λ n. let r : Result Tree (ℕ × Refusal) = Ok (on_main t.made n) in r) last)

-- nobody has a cursor, so all clients are at `main`
all-seated : (clients number : ℕ) (t : Tree) → seated clients number t [] ≡ Ok (session_over t clients)
all-seated clients number t =
    ap (λ (cs : List Client). let r : Result Session (ℕ × Refusal) = Ok (record { tree = t; clients = cs }) in r)
    (take_all clients (replicate clients first_client) (omega (arith, length-replicate clients first_client)))

-- the branch and the clients behind the moments that are loaded
behind-moments : (clients : ℕ) (calls : List (ℕ × Call)) (r : Result Tree (ℕ × Refusal)) → in_turn with_moment 0 opening_tree (moments_from 0 calls) ≡ r
    → (r >>= λ t. with_branches (length (moments_from 0 calls)) t (in_a_row calls).branches >>= λ u. seated clients (length (moments_from 0 calls) + 1) u [])
    ≡ over_loaded clients (r >>= at_last)
behind-moments clients calls (Err fault) is = refl
behind-moments clients calls (Ok t) is =
    let kept = moments-kept (moments_from 0 calls) 0 opening_tree t is in
    let last : length calls ≡ last_moment t =
    sym (length-moments_from 0 calls) ∙ ap length (sym kept.0) ∙ length-map t.made saved_call in
    let small : length calls ≤ most_moments = omega (arith, last, kept.2 (omega arith)) in
    ap (λ (r : Result Tree (ℕ × Refusal)). r >>= λ u. seated clients (length (moments_from 0 calls) + 1) u []) (main-last (length (moments_from 0 calls)) (length calls) t last small kept.1)
    ∙ all-seated clients (length (moments_from 0 calls) + 1) (on_main t.made (length t.made))

pub row_law : (clients : ℕ) (calls : List (ℕ × Call)) → clients ≤ 4 → loaded_saved clients (in_a_row calls) ≡ over_loaded clients (loaded calls)
row_law clients calls few =
    let assoc : (loaded_tree (in_a_row calls) >>= λ u. seated clients (length (moments_from 0 calls) + 1) u [])
    ≡ (in_turn with_moment 0 opening_tree (moments_from 0 calls) >>= λ t. with_branches (length (moments_from 0 calls)) t (in_a_row calls).branches >>= λ u. seated clients (length (moments_from 0 calls) + 1) u []) =
    bind_assoc (in_turn with_moment 0 opening_tree (moments_from 0 calls)) (λ t. with_branches (length (moments_from 0 calls)) t (in_a_row calls).branches) (λ u. seated clients (length (moments_from 0 calls) + 1) u []) in
    rw (le-ltb 4 clients few)
    (assoc ∙ behind-moments clients calls (in_turn with_moment 0 opening_tree (moments_from 0 calls)) refl ∙ ap (over_loaded clients) (row-loaded calls []))
  where
    bind_assoc : {A B C : Type 0} (r : Result A (ℕ × Refusal)) (f : A → Result B (ℕ × Refusal)) (g : B → Result C (ℕ × Refusal)) → ((r >>= f) >>= g) ≡ (r >>= λ x. f x >>= g)
    bind_assoc (Ok x) f g = refl
    bind_assoc (Err fault) f g = refl
