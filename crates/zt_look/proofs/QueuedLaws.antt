-- Each message that is listed came and ended as the queues of the path's states tell.
use Rattle.std.proofs.Common.{◌≡◌, ℕ, zero, suc, ◌≤◌, ◌<◌, Bool, true, false, cond, ◌||◌, List, [], ◌∷◌, ◌++◌, map, Option, Some, None, is_some, refl, sym, ◌∙◌, ap, subst, arith}
use Rattle.std.specs.Prelude.{◌==◌, ⊤, nat_le, Result, Ok, Err}
use Rattle.std.specs.List.{AllByRecursion, cons_option, filter_map}
use Rattle.std.specs.Option.{option_map}
use Rattle.std.proofs.lemmas.Bool.{eq-eqb, eqb-true}
use Rattle.zt_rows.specs.declared.keys.RowKey.{RowKey}
use Rattle.zt_rows.specs.declared.keys.RowKey.TheVariants as key
use Rattle.zt_rows.specs.declared.refusals.Refusal.{Refusal}
use Rattle.zt_rows.specs.declared.refusals.Refusal.TheVariants as refusal
use Rattle.zt_rows.specs.Change.{changed}
use Rattle.zt_rows.specs.Contents.{MessageContent}
use Rattle.zt_rows.specs.Reads.{as_message, message}
use Rattle.zt_rows.specs.State.{State, row}
use Rattle.zt_rows.specs.Tests.{among}
use Rattle.zt_history.specs.HistoryRefusals.{check, ◌>>=◌}
use Rattle.zt_history.specs.Tree.{Made, Tree, last_moment, parent_at, path, state_at}
use Rattle.zt_history.specs.TreeInvariant.{Falls, IsTree}
use Rattle.zt_history.proofs.PathLaws.{by_parents, path-opening, path-step}
use Rattle.zt_queries.specs.HappeningTimes.{is_known}
use Rattle.zt_look.specs.declared.changes.Change.{Change}
use Rattle.zt_look.specs.declared.message_list.MessageEnd.{MessageEnd}
use Rattle.zt_look.specs.declared.message_list.QueuedMessage.{QueuedMessage}
use Rattle.zt_look.specs.Changes.{changes_at}
use Rattle.zt_look.specs.MessageList.{comes_under, end_at, gone_on, messages_along, messages_on, queued_at}
use Rattle.zt_look.specs.QueuedMessages.{EndsSo, IsQueued}

-- ---- moments each of which was made at the one before

abbrev IsChain : List Made → ℕ → List ℕ → Type 0
IsChain made p [] = ⊤
IsChain made p (m ∷ ms) = (parent_at made m ≡ p) × (p < m) × IsChain made m ms

abbrev end_from : ℕ → List ℕ → ℕ
end_from p [] = p
end_from p (m ∷ ms) = end_from m ms

chain-push : (made : List Made) (x : ℕ) (ms : List ℕ) (p : ℕ) → IsChain made p ms → parent_at made x ≡ end_from p ms → end_from p ms < x → IsChain made p (ms ++ x ∷ [])
chain-push made x [] p c up later = (up, later, tt)
chain-push made x (m ∷ ms) p c up later = (c.0, c.1, chain-push made x ms m c.2 up later)

end-push : (x : ℕ) (ms : List ℕ) (p : ℕ) → end_from p (ms ++ x ∷ []) ≡ x
end-push x [] p = refl
end-push x (m ∷ ms) p = end-push x ms m

path-end_from : (made : List Made) → Falls made → (m : ℕ) → end_from 0 (path made m) ≡ m
path-end_from made falls zero = ap (end_from 0) (path-opening made)
path-end_from made falls (suc i) = ap (end_from 0) (path-step made falls i) ∙ end-push (suc i) (path made (parent_at made (suc i))) 0

path-chain : (made : List Made) → Falls made → (m : ℕ) → IsChain made 0 (path made m)
path-chain made falls = by_parents made falls (λ m. IsChain made 0 (path made m)) (subst (IsChain made 0) (sym (path-opening made)) tt) step
  where
    step : (i : ℕ) → IsChain made 0 (path made (parent_at made (suc i))) → IsChain made 0 (path made (suc i))
    step i rest =
        let last : end_from 0 (path made (parent_at made (suc i))) ≡ parent_at made (suc i) = path-end_from made falls (parent_at made (suc i)) in
        subst (IsChain made 0) (sym (path-step made falls i)) (chain-push made (suc i) (path made (parent_at made (suc i))) 0 rest (sym last) (omega (arith, last, falls i)))

-- ---- what comes in a call

all-append : {A : Type 0} (P : A → Type 0) (xs ys : List A) → AllByRecursion P xs → AllByRecursion P ys → AllByRecursion P (xs ++ ys)
all-append P [] ys a b = b
all-append P (x ∷ xs) ys a b = (a.0, all-append P xs ys a.1 b)

abbrev pair_at : State → State → RowKey → Change
pair_at S T k = record { key = k; before = row S k; after = row T k }

abbrev AllOf : (QueuedMessage → Type 0) → Option QueuedMessage → Type 0
AllOf P (Some q) = P q
AllOf P None = ⊤

module _ (S T : State) (e m : ℕ) (ended : ℕ → Option (ℕ × MessageEnd)) (P : QueuedMessage → Type 0)
    (each : (n : ℕ) (d : MessageContent) → message S e n ≡ None → message T e n ≡ Some d → P (record { number = n; message = d; written = m; ended = ended n })) where
  abbrev came : Option (ℕ × MessageContent) → Option QueuedMessage
  came o = option_map (λ q. record { number = q.0; message = q.1; written = m; ended = ended q.0 }) o

  one-came : (k : RowKey) → AllOf P (queued_at ended e m (pair_at S T k))
  one-came (key.Msg f n) = by (as_message (row S (key.Msg f n))) (as_message (row T (key.Msg f n))) (f == e) refl refl refl
    where
      by : (a b : Option MessageContent) (same : Bool) → as_message (row S (key.Msg f n)) ≡ a → as_message (row T (key.Msg f n)) ≡ b → (f == e) ≡ same
          → AllOf P (came (comes_under e (key.Msg f n) a b))
      by (Some c) None same p q r = tt
      by (Some c) (Some d) same p q r = tt
      by None None same p q r = tt
      by None (Some d) false p q r = subst (λ b. AllOf P (came (cond b (Some (n, d)) None))) (sym r) tt
      by None (Some d) true p q r =
          let own : f ≡ e = eqb-true f e r in
          subst (λ b. AllOf P (came (cond b (Some (n, d)) None))) (sym r)
          (each n d (ap (λ g. as_message (row S (key.Msg g n))) (sym own) ∙ p) (ap (λ g. as_message (row T (key.Msg g n))) (sym own) ∙ q))
  one-came _ = tt

  all-cons : (o : Option QueuedMessage) (xs : List QueuedMessage) → AllOf P o → AllByRecursion P xs → AllByRecursion P (cons_option o xs)
  all-cons (Some q) xs one rest = (one, rest)
  all-cons None xs one rest = rest

  all-came : (ks : List RowKey) → AllByRecursion P (filter_map (queued_at ended e m) (map (pair_at S T) ks))
  all-came [] = tt
  all-came (k ∷ ks) = all-cons (queued_at ended e m (pair_at S T k)) (filter_map (queued_at ended e m) (map (pair_at S T) ks)) (one-came k) (all-came ks)

-- ---- along a path

or_true : (b : Bool) → (b || true) ≡ true
or_true true = refl
or_true false = refl

module _ (made : List Made) (at e : ℕ) where
  abbrev AreOnPath : List ℕ → Type 0
  AreOnPath ms = (x : ℕ) → among ms x ≡ true → among (path made at) x ≡ true

  on-first : (m : ℕ) (ms : List ℕ) → AreOnPath (m ∷ ms) → among (path made at) m ≡ true
  on-first m ms on = on m (ap (λ b. b || among ms m) (eq-eqb m m refl))

  on-rest : (m : ℕ) (ms : List ℕ) → AreOnPath (m ∷ ms) → AreOnPath ms
  on-rest m ms on x h = on x (ap (λ b. (m == x) || b) h ∙ or_true (m == x))

  -- what is there at the moment before ends at one of these, or is still there at the last one
  ends-so : (n written p : ℕ) (ms : List ℕ) → written ≤ p → is_some (message (state_at made p) e n) ≡ true → IsChain made p ms → AreOnPath ms → end_from p ms ≡ at
      → EndsSo made at e n written (gone_on made e n ms)
  ends-so n written p [] early there c on last = subst (λ q. is_some (message (state_at made q) e n) ≡ true) last there
  ends-so n written p (m ∷ ms) early there c on last = by (ends-so n written m ms) (message (state_at made m) e n) refl
    where
      by : (written ≤ m → is_some (message (state_at made m) e n) ≡ true → IsChain made m ms → AreOnPath ms → end_from m ms ≡ at → EndsSo made at e n written (gone_on made e n ms))
          → (o : Option MessageContent) → message (state_at made m) e n ≡ o → EndsSo made at e n written (gone_on made e n (m ∷ ms))
      by rest (Some d) q =
          subst (λ o. EndsSo made at e n written (cond (is_some o) (gone_on made e n ms) (Some (m, end_at made e m)))) (sym q)
          (rest (omega (arith, early, c.1)) (ap is_some q) c.2 (on-rest m ms on) last)
      by rest None q =
          subst (λ o. EndsSo made at e n written (cond (is_some o) (gone_on made e n ms) (Some (m, end_at made e m)))) (sym q) (record {
            on_path = on-first m ms on;
            later = omega (arith, early, c.1);
            before = subst (λ q. is_some (message (state_at made q) e n) ≡ true) (sym c.0) there;
            gone = q;
            told = refl;
          })

  all-queued : (p : ℕ) (ms : List ℕ) → IsChain made p ms → AreOnPath ms → end_from p ms ≡ at → AllByRecursion (IsQueued made at e) (messages_along made e ms)
  all-queued p [] c on last = tt
  all-queued p (m ∷ ms) c on last =
      all-append (IsQueued made at e) (filter_map (queued_at (λ n. gone_on made e n ms) e m) (changes_at made m)) (messages_along made e ms)
      (all-came (state_at made (parent_at made m)) (state_at made m) e m (λ n. gone_on made e n ms) (IsQueued made at e) (λ n d none some. record {
        on_path = on-first m ms on;
        before = none;
        came = some;
        ended = ends-so n m m ms (omega arith) (ap is_some some) c.2 (on-rest m ms on) last;
      }) (changed (state_at made (parent_at made m)) (state_at made m)))
      (all-queued m ms c.2 (on-rest m ms on) last)

-- of a tree
pub each-queued : (t : Tree) (at e : ℕ) (list : List QueuedMessage) → IsTree t → messages_on t at e ≡ Ok list → AllByRecursion (IsQueued t.made at e) list
each-queued t at e list tree given = by (nat_le at (last_moment t)) (is_known (state_at t.made at) e) refl refl
  where
    same : (x y : List QueuedMessage) → ◌≡◌ {A = Result (List QueuedMessage) Refusal} (Ok x) (Ok y) → x ≡ y
    same x y e = cc

    never : (r : Refusal) (y : List QueuedMessage) → ◌≡◌ {A = Result (List QueuedMessage) Refusal} (Err r) (Ok y) → ⊥
    never r y e = cc

    by : (b c : Bool) → nat_le at (last_moment t) ≡ b → is_known (state_at t.made at) e ≡ c → AllByRecursion (IsQueued t.made at e) list
    by true true p q =
        let falls = tree.moments.falls in
        let found : messages_along t.made e (path t.made at) ≡ list =
        same (messages_along t.made e (path t.made at)) list (
        sym (λ i. (check (p i) refusal.NoMoment >>= λ _. Ok at) >>= λ _. check (q i) refusal.NoObject >>= λ _. Ok (messages_along t.made e (path t.made at))) ∙ given) in
        subst (AllByRecursion (IsQueued t.made at e)) found (all-queued t.made at e 0 (path t.made at) (path-chain t.made falls at) (λ x h. h) (path-end_from t.made falls at))
    by true false p q = absurd (never refusal.NoObject list (
        sym (λ i. (check (p i) refusal.NoMoment >>= λ _. Ok at) >>= λ _. check (q i) refusal.NoObject >>= λ _. Ok (messages_along t.made e (path t.made at))) ∙ given))
    by false c p q = absurd (never refusal.NoMoment list (
        sym (λ i. (check (p i) refusal.NoMoment >>= λ _. Ok at) >>= λ _. check (is_known (state_at t.made at) e) refusal.NoObject >>= λ _. Ok (messages_along t.made e (path t.made at))) ∙ given))
