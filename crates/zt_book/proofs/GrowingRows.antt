-- One call more behind calls that are loaded in a row, and the session that they are loaded as.
use Rattle.std.proofs.Common.{◌≡◌, ℕ, suc, ◌+◌, ◌≤◌, false, List, [], ◌∷◌, ◌++◌, length, Result, Ok, Err, refl, sym, ◌∙◌, ap, subst, arith, zero-add}
use Rattle.std.specs.Prelude.{Bool, true, nat_le}
use Rattle.std.proofs.lemmas.Bool.{le-leb, le-ltb}
use Rattle.std.proofs.lemmas.List.{length-map, map-append}
use Rattle.zt_rows.specs.CallsInARow.{as_moment, moments_from, in_a_row}
use Rattle.zt_rows.specs.declared.calls.Call.{Call}
use Rattle.zt_rows.specs.declared.refusals.Refusal.{Refusal}
use Rattle.zt_rows.specs.declared.saved.SavedCall.{SavedCall}
use Rattle.zt_history.specs.HistoryRefusals.{most_moments, moment_on, IsHistoryRefusal}
use Rattle.zt_history.specs.Tree.{Made, Branch, Tree, opening_tree, last_moment, made_by, grown_at, head_moved, headed}
use Rattle.zt_book.specs.Log.{loaded, IsUnloadedBy}
use Rattle.zt_book.specs.SavedSessions.{◌>>=◌, at_item, in_turn, with_moment, with_branches, seated, loaded_saved, over_loaded}
use Rattle.zt_book.specs.Session.{session_over}
use Rattle.zt_book.specs.ProofsOnly.CallsInARow.{calls_of, IsInARow}
use Rattle.zt_book.specs.ProofsOnly.Log.{fault_at}
use Rattle.zt_book.proofs.KeptLaws.{turn-apart, same_Ok, moment-apart, moments-kept}
use Rattle.zt_book.proofs.LoadLaws.{unloaded-memory}
use Rattle.zt_book.proofs.RowLaws.{on_main, at_last, as_moment-small, row-loaded, length-moments_from, row_law}
use Rattle.zt_book.proofs.TurnLaws.{turn-refused}

-- ---- items behind items

turn-behind : {W I : Type 0} (add : W → I → Result W Refusal) (n : ℕ) (w u : W) (xs ys : List I) → in_turn add n w xs ≡ Ok u
    → in_turn add n w (xs ++ ys) ≡ in_turn add (n + length xs) u ys
turn-behind add n w u [] ys h =
    let same : w ≡ u = same_Ok w u h in
    let here : n ≡ n + 0 = omega arith in
    ap (λ v. in_turn add n v ys) same ∙ ap (λ k. in_turn add k u ys) here
turn-behind add n w u (x ∷ xs) ys h =
    let e = turn-apart add n w u x xs h in
    let here : suc n + length xs ≡ n + suc (length xs) = omega arith in
    ap (λ r. at_item n r >>= λ more. in_turn add (suc n) more (xs ++ ys)) e.1
    ∙ turn-behind add (suc n) e.0 u xs ys e.2
    ∙ ap (λ k. in_turn add k u ys) here

moments-behind : (n : ℕ) (xs ys : List (ℕ × Call)) → moments_from n (xs ++ ys) ≡ moments_from n xs ++ moments_from (n + length xs) ys
moments-behind n [] ys = let here : n ≡ n + 0 = omega arith in ap (λ k. moments_from k ys) here
moments-behind n (x ∷ xs) ys =
    let here : n + 1 + length xs ≡ n + suc (length xs) = omega arith in
    ap (λ ms. record { parent = as_moment n; process = x.0; call = x.1 } ∷ ms) (moments-behind (n + 1) xs ys ∙ ap (λ k. moments_from (n + 1) xs ++ moments_from k ys) here)

-- ---- one call more

module _ (t : Tree) (process : ℕ) (call : Call) (row : IsInARow t) (small : length t.made ≤ most_moments) where
  abbrev next : SavedCall
  next = record { parent = length t.made; process = process; call = call }

  count : 0 + length (calls_of t.made) ≡ length t.made
  count = zero-add (length (calls_of t.made)) ∙ length-map t.made (λ e. (e.process, e.call))

  -- it is made at the last moment, and the others behind it
  next-made : (behind : List (ℕ × Call))
      → in_turn with_moment 0 opening_tree (moments_from 0 (calls_of t.made ++ (process, call) ∷ behind))
      ≡ in_turn with_moment (length t.made) t (next ∷ moments_from (length t.made + 1) behind)
  next-made behind =
      let c : List (ℕ × Call) = calls_of t.made in
      let number : 0 + length (moments_from 0 c) ≡ length t.made = ap (λ k. 0 + k) (length-moments_from 0 c) ∙ count in
      ap (in_turn with_moment 0 opening_tree) (moments-behind 0 c ((process, call) ∷ behind))
      ∙ turn-behind with_moment 0 opening_tree t (moments_from 0 c) (moments_from (0 + length c) ((process, call) ∷ behind)) row
      ∙ ap (λ k. in_turn with_moment k t (moments_from (0 + length c) ((process, call) ∷ behind))) number
      ∙ ap (λ k. in_turn with_moment (length t.made) t (moments_from k ((process, call) ∷ behind))) count
      ∙ ap (λ k. let ms : List SavedCall = record { parent = k; process = process; call = call } ∷ moments_from (length t.made + 1) behind in in_turn with_moment (length t.made) t ms)
      (as_moment-small (length t.made) small)

  pub calls-pushed : (u : Tree) → with_moment t next ≡ Ok u → calls_of u.made ≡ calls_of t.made ++ (process, call) ∷ []
  calls-pushed u made =
      let grown : u ≡ grown_at t (length t.made) process call = (moment-apart t u next made).2 in
      ap (λ (v : Tree). calls_of v.made) grown
      ∙ map-append (λ (e : Made). (e.process, e.call)) t.made (made_by t.made (length t.made) process call ∷ [])

  pub row-pushed : (u : Tree) → with_moment t next ≡ Ok u → IsInARow u
  row-pushed u made =
      ap (λ cs. in_turn with_moment 0 opening_tree (moments_from 0 cs)) (calls-pushed u made)
      ∙ next-made []
      ∙ ap (λ r. at_item (length t.made) r >>= λ more. let whole : Result Tree (ℕ × Refusal) = Ok more in whole) made

  -- where it is refused, so is any tree that begins so
  pub row-refused : (given : Refusal) (clients : ℕ) (behind : List (ℕ × Call)) → IsHistoryRefusal (with_moment t next) given → clients ≤ 4
      → IsUnloadedBy false (loaded_saved clients (in_a_row (calls_of t.made ++ (process, call) ∷ behind))) (fault_at (length t.made) given)
  row-refused given clients behind refused few =
      let whole : List (ℕ × Call) = calls_of t.made ++ (process, call) ∷ behind in
      let moments : Result Tree (ℕ × Refusal) = in_turn with_moment 0 opening_tree (moments_from 0 whole) in
      let here : IsUnloadedBy false moments (fault_at (length t.made) given) =
      subst (λ r. IsUnloadedBy false r (fault_at (length t.made) given)) (sym (next-made behind))
      (turn-refused (with_moment t next) (length t.made) given (λ more. in_turn with_moment (suc (length t.made)) more (moments_from (length t.made + 1) behind)) refused) in
      rw (le-ltb 4 clients few)
      (ends (moments >>= λ v. with_branches (length (moments_from 0 whole)) v (in_a_row whole).branches) (λ v. seated clients (length (moments_from 0 whole) + 1) v [])
      (fault_at (length t.made) given)
      (ends moments (λ v. with_branches (length (moments_from 0 whole)) v (in_a_row whole).branches) (fault_at (length t.made) given) here))
    where
      ends : {A B : Type 0} (r : Result A (ℕ × Refusal)) (f : A → Result B (ℕ × Refusal)) (fault : ℕ × Refusal) → IsUnloadedBy false r fault → IsUnloadedBy false (r >>= f) fault
      ends (Ok x) f fault h = subst (IsUnloadedBy false (f x)) (sym h) (unloaded-memory (f x))
      ends (Err first) f fault h = h

-- ---- at a moment that is the last

module _ (t : Tree) (parent process : ℕ) (call : Call) (row : IsInARow t) (last : parent ≡ length t.made) (small : parent ≤ most_moments) where
  pub calls-made : (u : Tree) → with_moment t (record { parent = parent; process = process; call = call }) ≡ Ok u
      → calls_of u.made ≡ calls_of t.made ++ (process, call) ∷ []
  calls-made u made =
      calls-pushed t process call row (omega (arith, last, small)) u
      (ap (λ k. let s : SavedCall = record { parent = k; process = process; call = call } in with_moment t s) (sym last) ∙ made)

  pub row-made : (u : Tree) → with_moment t (record { parent = parent; process = process; call = call }) ≡ Ok u → IsInARow u
  row-made u made =
      row-pushed t process call row (omega (arith, last, small)) u
      (ap (λ k. let s : SavedCall = record { parent = k; process = process; call = call } in with_moment t s) (sym last) ∙ made)

  pub row-not-made : (given : Refusal) → IsHistoryRefusal (with_moment t (record { parent = parent; process = process; call = call })) given
      → (calls : List (ℕ × Call)) → calls_of t.made ≡ calls → (fault : ℕ × Refusal) → fault ≡ fault_at parent given
      → (clients : ℕ) (behind : List (ℕ × Call)) → clients ≤ 4
      → IsUnloadedBy false (loaded_saved clients (in_a_row (calls ++ (process, call) ∷ behind))) fault
  row-not-made given refused calls are fault told clients behind few =
      let Refused : ℕ → Type 0 = λ k. IsHistoryRefusal (let s : SavedCall = record { parent = k; process = process; call = call } in with_moment t s) given in
      let here : Refused (length t.made) = subst Refused last refused in
      let number : fault_at (length t.made) given ≡ fault = sym (told ∙ ap (λ k. fault_at k given) last) in
      subst (λ cs. IsUnloadedBy false (loaded_saved clients (in_a_row (cs ++ (process, call) ∷ behind))) fault) are
      (subst (IsUnloadedBy false (loaded_saved clients (in_a_row (calls_of t.made ++ (process, call) ∷ behind)))) number
      (row-refused t process call row (omega (arith, last, small)) given clients behind here few))

-- ---- the session

-- `main` can always be led to the last moment
pub last-is-there : (t : Tree) (given : Refusal) → moment_on t (last_moment t) ≡ Err given → ⊥
last-is-there t given is = by (nat_le (last_moment t) (last_moment t)) (le-leb (last_moment t) (last_moment t) (omega arith)) refl
  where
    by : (b : Bool) → b ≡ true → nat_le (last_moment t) (last_moment t) ≡ b → ⊥
    by true h same = absurd (cc)
    by false h same = absurd (cc)

module _ (t : Tree) (row : IsInARow t) where
  pub calls-loaded : loaded (calls_of t.made) ≡ Ok (head_moved t 0 (last_moment t))
  calls-loaded =
      let alone = (moments-kept (moments_from 0 (calls_of t.made)) 0 opening_tree t row).1 in
      let led : on_main t.made (length t.made) ≡ head_moved t 0 (last_moment t) =
      sym (ap (λ (bs : List Branch). let u : Tree = record { made = t.made; branches = headed bs 0 (length t.made) } in u) alone) in
      sym (row-loaded (calls_of t.made) []) ∙ ap (λ r. r >>= at_last) row ∙ ap Ok led

  pub row-session : (clients : ℕ) → clients ≤ 4 → loaded_saved clients (in_a_row (calls_of t.made)) ≡ Ok (session_over (head_moved t 0 (last_moment t)) clients)
  row-session clients few = row_law clients (calls_of t.made) few ∙ ap (over_loaded clients) calls-loaded
