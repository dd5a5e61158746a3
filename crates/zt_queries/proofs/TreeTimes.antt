-- The path to a moment of a tree, with the states of its moments, is a path of calls from the opening; so what happens
-- once at most on the one does so on the other.
use Rattle.std.proofs.Common.{◌≡◌, ◌≤◌, ℕ, suc, Bool, true, false, cond, ◌||◌, List, [], ◌∷◌, ◌++◌, length, map, Option, Some, None, refl, sym, ap, ◌∙◌, subst}
use Rattle.std.specs.Prelude.{if◌then◌else◌, filter, Result, Ok, Err, ◌==◌}
use Rattle.std.specs.List.{last_or}
use Rattle.std.proofs.lemmas.Bool.{eqb-true, eq-eqb, true≢false}
use Rattle.std.proofs.lemmas.List.{map-append}
use Rattle.std.proofs.lemmas.List.Elements.{filter-append}
use Rattle.zt_rows.specs.declared.calls.Happening.{Happening}
use Rattle.zt_rows.specs.declared.calls.Happening.TheVariants as happening
use Rattle.zt_rows.specs.declared.refusals.Refusal.{Refusal}
use Rattle.zt_rows.specs.declared.refusals.Refusal.TheVariants as refusal
use Rattle.zt_rows.specs.Opening.{opening}
use Rattle.zt_rows.specs.Reads.{has_live_process}
use Rattle.zt_rows.specs.State.{State}
use Rattle.zt_rows.specs.Step.{step}
use Rattle.zt_rows.specs.Tests.{among}
use Rattle.zt_rows.proofs.OpeningLaws.{opening-consistent}
use Rattle.zt_rows.proofs.RowLaws.{or_right}
use Rattle.zt_history.specs.HistoryRefusals.{check, ◌>>=◌}
use Rattle.zt_history.specs.TreeInvariant.{AreMoments, IsTree}
use Rattle.zt_history.specs.Tree.{Made, Tree, made_at, parent_of, parent_at, path, state_at}
use Rattle.zt_history.proofs.PathLaws.{path-opening, path-step, by_parents}
use Rattle.zt_history.proofs.RunLaws.{state-opening, state-step, made-there, parent-within}
use Rattle.zt_queries.specs.Happenings.{IsCallStep, IsCallPath, moments}
use Rattle.zt_queries.specs.HappeningTimes.{at_moment, happens, HappenOnce, last_on, is_known, when_on}
use Rattle.zt_queries.proofs.OnceLaws.{made-once, ended-once, peer_closed-once, leaked-once, last-only}

-- ---- one more state at the end of a path

abbrev last_state : State → List (ℕ × State) → State
last_state S [] = S
last_state S ((n, T) ∷ path) = last_state T path

last_state-push : (S : State) (path : List (ℕ × State)) (n : ℕ) (T : State) → last_state S (path ++ (n, T) ∷ []) ≡ T
last_state-push S [] n T = refl
last_state-push S ((m, U) ∷ path) n T = last_state-push U path n T

path-push : (S : State) (path : List (ℕ × State)) (n : ℕ) (T : State) → IsCallPath S path → IsCallStep (last_state S path) T → IsCallPath S (path ++ (n, T) ∷ [])
path-push S [] n T is one = (one, tt)
path-push S ((m, U) ∷ path) n T is one = (is.0, path-push U path n T is.1 one)

moments-push : (test : State → State → Bool) (S : State) (path : List (ℕ × State)) (n : ℕ) (T : State)
    → moments test S (path ++ (n, T) ∷ []) ≡ moments test S path ++ (if test (last_state S path) T then n ∷ [] else [])
moments-push test S [] n T = refl
moments-push test S ((m, U) ∷ path) n T = by (test S U) (moments-push test U path n T)
  where
    by : (b : Bool) → moments test U (path ++ (n, T) ∷ []) ≡ moments test U path ++ (if test (last_state U path) T then n ∷ [] else [])
        → (if b then m ∷ moments test U (path ++ (n, T) ∷ []) else moments test U (path ++ (n, T) ∷ []))
        ≡ (if b then m ∷ moments test U path else moments test U path) ++ (if test (last_state U path) T then n ∷ [] else [])
    by true e = ap (λ l. m ∷ l) e
    by false e = e

-- ---- the path to a moment

abbrev with_states : List Made → List ℕ → List (ℕ × State)
with_states made ms = map (λ n. (n, state_at made n)) ms

record IsWalked (made : List Made) (test : State → State → Bool) (m : ℕ) : Type 0 where
  is_path : IsCallPath opening (with_states made (path made m))
  end : last_state opening (with_states made (path made m)) ≡ state_at made m
  same : moments test opening (with_states made (path made m)) ≡ filter (at_moment test made) (path made m)

module _ (made : List Made) (are : AreMoments made) (test : State → State → Bool) where
  pub next-made : (i : ℕ) (e : Made) → made_at made (suc i) ≡ Some e → IsCallStep (state_at made (parent_at made (suc i))) (state_at made (suc i))
  next-made i e at =
      let is = are.each i e at in
      let up : parent_at made (suc i) ≡ e.parent = ap parent_of at in
      record {
        process = e.process;
        call = e.call;
        live = ap (λ p. has_live_process (state_at made p) e.process) up ∙ is.running;
        is = is.limits;
        gives = state-step made are.falls i e at ∙ ap (λ p. (step (state_at made p) e.process e.call).0) (sym up);
      }

  walked : (m : ℕ) → m ≤ length made → IsWalked made test m
  walked m = by_parents made are.falls (λ m. m ≤ length made → IsWalked made test m) base one m
    where
      base : 0 ≤ length made → IsWalked made test 0
      base h = record {
        is_path = subst (λ ms. IsCallPath opening (with_states made ms)) (sym (path-opening made)) tt;
        end = ap (λ ms. last_state opening (with_states made ms)) (path-opening made) ∙ sym (state-opening made);
        same = rw (path-opening made) refl;
      }

      one : (i : ℕ) → (parent_at made (suc i) ≤ length made → IsWalked made test (parent_at made (suc i))) → suc i ≤ length made → IsWalked made test (suc i)
      one i before h =
          let up : ℕ = parent_at made (suc i) in
          let e = made-there made are i h in
          let rest : IsWalked made test up = before (parent-within made are i h) in
          let T : State = state_at made (suc i) in
          let longer : with_states made (path made (suc i)) ≡ with_states made (path made up) ++ (suc i, T) ∷ [] =
          ap (with_states made) (path-step made are.falls i) ∙ map-append (λ n. (n, state_at made n)) (path made up) (suc i ∷ []) in
          let onward : IsCallStep (last_state opening (with_states made (path made up))) T = subst (λ S. IsCallStep S T) (sym rest.end) (next-made i e.0 e.1) in
          record {
            is_path = subst (IsCallPath opening) (sym longer) (path-push opening (with_states made (path made up)) (suc i) T rest.is_path onward);
            end = ap (last_state opening) longer ∙ last_state-push opening (with_states made (path made up)) (suc i) T;
            same =
                ap (moments test opening) longer
                ∙ moments-push test opening (with_states made (path made up)) (suc i) T
                ∙ (λ j. rest.same j ++ (if test (rest.end j) T then suc i ∷ [] else []))
                ∙ sym (filter-append (at_moment test made) (path made up) (suc i ∷ []))
                ∙ ap (filter (at_moment test made)) (sym (path-step made are.falls i));
          }

-- ---- once at most

module _ (made : List Made) (are : AreMoments made) (m : ℕ) (within : m ≤ length made) (x : ℕ) where
  pub once : (what : Happening) → length (filter (at_moment (happens what x) made) (path made m)) ≤ 1
  once happening.Made = let w = walked made are (happens happening.Made x) m within in subst (λ l. length l ≤ 1) w.same (made-once opening _ x opening-consistent w.is_path)
  once happening.Ended = let w = walked made are (happens happening.Ended x) m within in subst (λ l. length l ≤ 1) w.same (ended-once opening _ x opening-consistent w.is_path)
  once happening.PeerClosed = let w = walked made are (happens happening.PeerClosed x) m within in subst (λ l. length l ≤ 1) w.same (peer_closed-once opening _ x opening-consistent w.is_path)
  once happening.Leaked = let w = walked made are (happens happening.Leaked x) m within in subst (λ l. length l ≤ 1) w.same (leaked-once opening _ x opening-consistent w.is_path)

pub tree-once : (t : Tree) → IsTree t → HappenOnce t
tree-once t is what m x within = once t.made is.moments m within x what

-- what is among a list and passes is among what passes
pub among-filter : (test : ℕ → Bool) (xs : List ℕ) (i : ℕ) → among xs i ≡ true → test i ≡ true → among (filter test xs) i ≡ true
among-filter test [] i h t = h
among-filter test (y ∷ xs) i h t = by (y == i) refl (test y) refl (λ g. among-filter test xs i g t)
  where
    by : (a : Bool) → (y == i) ≡ a → (b : Bool) → test y ≡ b → (among xs i ≡ true → among (filter test xs) i ≡ true) → among (filter test (y ∷ xs)) i ≡ true
    by true e true f rest = rw f (ap (λ c. c || among (filter test xs) i) e)
    by true e false f rest = absurd (true≢false (sym t ∙ ap test (sym (eqb-true y i e)) ∙ f))
    by false e true f rest = rw f (ap (λ c. c || among (filter test xs) i) e ∙ rest (sym (ap (λ c. c || among xs i) e) ∙ h))
    by false e false f rest = rw f (rest (sym (ap (λ c. c || among xs i) e) ∙ h))

-- and the other way about
pub filter-among : (test : ℕ → Bool) (xs : List ℕ) (i : ℕ) → among (filter test xs) i ≡ true → (among xs i ≡ true) × (test i ≡ true)
filter-among test [] i h = absurd (true≢false (sym h))
filter-among test (y ∷ xs) i h = by (test y) refl h (λ g. filter-among test xs i g)
  where
    first : (b : Bool) → (y == i) ≡ b → test y ≡ true → (b || among (filter test xs) i) ≡ true → (among (filter test xs) i ≡ true → (among xs i ≡ true) × (test i ≡ true))
        → (among (y ∷ xs) i ≡ true) × (test i ≡ true)
    first true e f g rest = (ap (λ c. c || among xs i) e, ap test (sym (eqb-true y i e)) ∙ f)
    first false e f g rest = let r = rest g in (ap (λ c. c || among xs i) e ∙ r.0, r.1)

    by : (b : Bool) → test y ≡ b → among (cond b (y ∷ filter test xs) (filter test xs)) i ≡ true → (among (filter test xs) i ≡ true → (among xs i ≡ true) × (test i ≡ true))
        → (among (y ∷ xs) i ≡ true) × (test i ≡ true)
    by true f g rest = first (y == i) refl f g rest
    by false f g rest = let r = rest g in (or_right (y == i) (among xs i) r.0, r.1)

one_among : (n i : ℕ) → among (n ∷ []) i ≡ true → i ≡ n
one_among n i h = by (n == i) refl
  where
    by : (b : Bool) → (n == i) ≡ b → i ≡ n
    by true e = sym (eqb-true n i e)
    by false e = absurd (true≢false (sym h ∙ ap (λ c. c || false) e))

-- what was found where the object is known
found_on : (b : Bool) (o : Option ℕ) (found : Option ℕ) → (check b refusal.NoObject >>= λ _. Ok o) ≡ Ok found → o ≡ found
found_on true o found h = ap (λ (r : Result (Option ℕ) Refusal). said r) h
  where
    said : Result (Option ℕ) Refusal → Option ℕ
    said (Ok o) = o
    said (Err e) = None
found_on false o found h = cc

-- what was found is all that passes
one-found : (made : List Made) (m x n : ℕ) (what : Happening) → AreMoments made → m ≤ length made → when_on what made m x ≡ Ok (Some n)
    → filter (at_moment (happens what x) made) (path made m) ≡ n ∷ []
unfolding last_on
one-found made m x n what are within found =
    let test : ℕ → Bool = at_moment (happens what x) made in
    let last : last_or None (filter test (path made m)) ≡ Some n = found_on (is_known (state_at made m) x) (last_on (happens what x) made m) (Some n) found in
    last-only (filter test (path made m)) n (once made are m within x what) last

-- it is on the path, and there it happens
pub found-there : (made : List Made) (m x n : ℕ) (what : Happening) → AreMoments made → m ≤ length made → when_on what made m x ≡ Ok (Some n)
    → (among (path made m) n ≡ true) × (at_moment (happens what x) made n ≡ true)
found-there made m x n what are within found =
    filter-among (at_moment (happens what x) made) (path made m) n
    (ap (λ l. among l n) (one-found made m x n what are within found) ∙ ap (λ b. b || false) (eq-eqb n n refl))

pub only-moment : (made : List Made) (m x n i : ℕ) (what : Happening) → AreMoments made → m ≤ length made → when_on what made m x ≡ Ok (Some n)
    → among (path made m) i ≡ true → at_moment (happens what x) made i ≡ true → i ≡ n
only-moment made m x n i what are within found on here =
    one_among n i
    (ap (λ l. among l i) (sym (one-found made m x n what are within found)) ∙ among-filter (at_moment (happens what x) made) (path made m) i on here)

pub no-moment : (made : List Made) (m x i : ℕ) (what : Happening) → when_on what made m x ≡ Ok None → among (path made m) i ≡ true → at_moment (happens what x) made i ≡ false
unfolding last_on
no-moment made m x i what found on =
    let test : ℕ → Bool = at_moment (happens what x) made in
    let last : last_or None (filter test (path made m)) ≡ None = found_on (is_known (state_at made m) x) (last_on (happens what x) made m) None found in
    by (test i) refl last
  where
    some_last : (xs : List ℕ) (y : ℕ) → last_or (Some y) xs ≡ None → ⊥
    some_last [] y h = cc
    some_last (x ∷ xs) y h = some_last xs x h

    none_pass : (xs : List ℕ) → last_or None xs ≡ None → xs ≡ []
    none_pass [] h = refl
    none_pass (x ∷ xs) h = absurd (some_last xs x h)

    by : (b : Bool) → at_moment (happens what x) made i ≡ b → last_or None (filter (at_moment (happens what x) made) (path made m)) ≡ None → at_moment (happens what x) made i ≡ false
    by false e last = e
    by true e last =
        absurd (true≢false (sym (among-filter (at_moment (happens what x) made) (path made m) i on e) ∙ ap (λ l. among l i) (none_pass _ last)))
