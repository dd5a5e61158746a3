-- Messages along a path, from its end back to its beginning: the ends that are noted by then are those at the later moments.
use Rattle.std.proofs.Common.{◌≡◌, ℕ, zero, suc, ◌+◌, ◌≤◌, ◌<◌, Bool, true, false, cond, ◌||◌, List, [], ◌∷◌, ◌++◌, length, map, get_or, take, drop, Option, Some, None, is_some, refl, sym, ◌∙◌, ap, subst, arith}
use Rattle.std.specs.Prelude.{slice_get, ◌==◌, reverse, Result, Ok, Err, OnOk}
use Rattle.std.specs.List.{cons_option, filter_map, list_any}
use Rattle.std.specs.Option.{option_map}
use Rattle.std.proofs.lemmas.Bool.{true≢false, eq-eqb, eqb-true}
use Rattle.std.proofs.lemmas.Option.{none-some, slice_get_within, get_or_from_slice_get}
use Rattle.std.proofs.lemmas.List.{at_drop_more, take_more}
use Rattle.zt_rows.specs.declared.keys.RowKey.{RowKey}
use Rattle.zt_rows.specs.declared.keys.RowKey.TheVariants as key
use Rattle.zt_rows.specs.declared.rows.Row.{Row}
use Rattle.zt_rows.specs.ProofsOnly.KeyOrder.{rowkey_eq-equal}
use Rattle.zt_rows.specs.Change.{changed, differ_at}
use Rattle.zt_rows.specs.Contents.{MessageContent}
use Rattle.zt_rows.specs.Keys.{rowkey_eq}
use Rattle.zt_rows.specs.Reads.{as_message, message}
use Rattle.zt_rows.specs.State.{State, row}
use Rattle.zt_rows.proofs.ChangeLaws.{among-changed, same_where_not_differ}
use Rattle.zt_history.specs.Timeline.{IsPath}
use Rattle.zt_history.specs.Tree.{Made, parent_at, path, end_of, state_at}
use Rattle.zt_history.specs.TreeInvariant.{Falls, record_of, recorded_at}
use Rattle.zt_history.proofs.ListLaws.{get-within, end_of-push}
use Rattle.zt_history.proofs.PathLaws.{path-end, path-opening}
use Rattle.zt_history.proofs.WayLaws.{way-next}
use Rattle.zt_look.specs.declared.changes.Change.{Change}
use Rattle.zt_look.specs.declared.message_list.MessageEnd.{MessageEnd}
use Rattle.zt_look.specs.declared.message_list.QueuedMessage.{QueuedMessage}
use Rattle.zt_look.specs.Changes.{changes, changes_at}
use Rattle.zt_look.specs.MessageList.{comes_under, end_at, gone_on, messages_along, queued_at}
use Rattle.zt_look.specs.ProofsOnly.MessageEnds.{AreEnds, end_over, goes_under, is_going, is_number}
use Rattle.zt_look.specs.ProofsOnly.RecordSides.{row_before}
use Rattle.zt_look.proofs.CallLaws.{any-mapped, prefix-path}
use Rattle.zt_look.proofs.ChangeLaws.{here-before, row-turned}

abbrev Ends : Type 0
Ends = ℕ → Option (ℕ × MessageEnd)

-- ---- keys of a list

none_of : (p : RowKey → Bool) → ((k : RowKey) → p k ≡ false) → (ks : List RowKey) → list_any p ks ≡ false
none_of p never [] = refl
none_of p never (k ∷ ks) = ap (λ b. b || list_any p ks) (never k) ∙ none_of p never ks

or_true : (b : Bool) → (b || true) ≡ true
or_true true = refl
or_true false = refl

pub one_of : (p : RowKey → Bool) (q : RowKey) → p q ≡ true → (ks : List RowKey) → list_any (rowkey_eq q) ks ≡ true → list_any p ks ≡ true
one_of p q is [] h = absurd (true≢false (sym h))
one_of p q is (k ∷ ks) h = by (one_of p q is ks) (rowkey_eq q k) refl
  where
    by : (list_any (rowkey_eq q) ks ≡ true → list_any p ks ≡ true) → (b : Bool) → rowkey_eq q k ≡ b → (p k || list_any p ks) ≡ true
    by rest true e = ap (λ b. b || list_any p ks) (sym (ap p (rowkey_eq-equal q k e)) ∙ is)
    by rest false e = ap (λ b. p k || b) (rest (ap (λ b. b || list_any (rowkey_eq q) ks) (sym e) ∙ h)) ∙ or_true (p k)

same_number : (a b : ℕ) → (a == b) ≡ true → a ≡ b
same_number a b e = eqb-true a b e

-- ---- what comes and what goes between two states

abbrev pair_at : State → State → RowKey → Change
pair_at S T k = record { key = k; before = row S k; after = row T k }

module _ (S T : State) (e : ℕ) where
  -- with ends that agree at what is there after the changes, what comes is the same
  module _ (m : ℕ) (ended gone : Ends) (agree : (n : ℕ) → is_some (message T e n) ≡ true → ended n ≡ gone n) where
    abbrev came : Ends → Option (ℕ × MessageContent) → Option QueuedMessage
    came ended o = option_map (λ q. record { number = q.0; message = q.1; written = m; ended = ended q.0 }) o

    same-came : (k : RowKey) → queued_at ended e m (pair_at S T k) ≡ queued_at gone e m (pair_at S T k)
    same-came (key.Msg f n) = by (as_message (row S (key.Msg f n))) (as_message (row T (key.Msg f n))) (f == e) refl refl
      where
        by : (a b : Option MessageContent) (same : Bool) → as_message (row T (key.Msg f n)) ≡ b → (f == e) ≡ same
            → came ended (comes_under e (key.Msg f n) a b) ≡ came gone (comes_under e (key.Msg f n) a b)
        by (Some c) None same p q = refl
        by (Some c) (Some d) same p q = refl
        by None None same p q = refl
        by None (Some d) false p q = ap (λ b. came ended (cond b (Some (n, d)) None)) q ∙ sym (ap (λ b. came gone (cond b (Some (n, d)) None)) q)
        by None (Some d) true p q =
            let there : is_some (message T e n) ≡ true = ap is_some (ap (λ g. as_message (row T (key.Msg g n))) (sym (same_number f e q)) ∙ p) in
            ap (λ b. came ended (cond b (Some (n, d)) None)) q
            ∙ ap (λ (x : Option (ℕ × MessageEnd)). Some (record { number = n; message = d; written = m; ended = x })) (agree n there)
            ∙ sym (ap (λ b. came gone (cond b (Some (n, d)) None)) q)
    same-came _ = refl

    same-coming : (ks : List RowKey) → filter_map (queued_at ended e m) (map (pair_at S T) ks) ≡ filter_map (queued_at gone e m) (map (pair_at S T) ks)
    same-coming [] = refl
    same-coming (k ∷ ks) =
        ap (λ o. cons_option o (filter_map (queued_at ended e m) (map (pair_at S T) ks))) (same-came k)
        ∙ ap (cons_option (queued_at gone e m (pair_at S T k))) (same-coming ks)

    pub coming-agrees : filter_map (queued_at ended e m) (changes S T) ≡ filter_map (queued_at gone e m) (changes S T)
    coming-agrees = same-coming (changed S T)

  -- what is there after the changes goes by none of them
  module _ (n : ℕ) (c : MessageContent) (there : message T e n ≡ Some c) where
    stays : (k : RowKey) → is_going e n (pair_at S T k) ≡ false
    stays (key.Msg f i) = by (as_message (row S (key.Msg f i))) (as_message (row T (key.Msg f i))) (f == e) (i == n) refl refl refl
      where
        by : (a b : Option MessageContent) (same one : Bool) → as_message (row T (key.Msg f i)) ≡ b → (f == e) ≡ same → (i == n) ≡ one
            → is_number n (goes_under e (key.Msg f i) a b) ≡ false
        by None None same one p q r = refl
        by None (Some d) same one p q r = refl
        by (Some d) (Some x) same one p q r = refl
        by (Some d) None false one p q r = ap (λ b. is_number n (cond b (Some i) None)) q
        by (Some d) None true false p q r = ap (λ b. is_number n (cond b (Some i) None)) q ∙ r
        by (Some d) None true true p q r =
            absurd (none-some c (sym (ap (λ f. as_message (row T (key.Msg f i))) (sym (same_number f e q)) ∙ p) ∙ ap (message T e) (same_number i n r) ∙ there))
    stays _ = refl

    pub not-going : list_any (is_going e n) (changes S T) ≡ false
    not-going = any-mapped (is_going e n) (pair_at S T) (changed S T) ∙ none_of (λ k. is_going e n (pair_at S T k)) stays (changed S T)

  -- what was there before and is not there after goes
  pub is-going : (n : ℕ) (c : MessageContent) → message S e n ≡ Some c → message T e n ≡ None → list_any (is_going e n) (changes S T) ≡ true
  is-going n c was none =
      any-mapped (is_going e n) (pair_at S T) (changed S T)
      ∙ one_of (λ k. is_going e n (pair_at S T k)) (key.Msg e n) goes_here (changed S T) (among-changed S T (key.Msg e n) ∙ differs (differ_at S T (key.Msg e n)) refl)
    where
      goes_here : is_going e n (pair_at S T (key.Msg e n)) ≡ true
      goes_here =
          ap (λ a. is_number n (goes_under e (key.Msg e n) a (as_message (row T (key.Msg e n))))) was
          ∙ ap (λ b. is_number n (goes_under e (key.Msg e n) (Some c) b)) none
          ∙ ap (λ b. is_number n (cond b (Some n) None)) (eq-eqb e e refl)
          ∙ eq-eqb n n refl

      differs : (b : Bool) → differ_at S T (key.Msg e n) ≡ b → differ_at S T (key.Msg e n) ≡ true
      differs true h = h
      differs false h = absurd (none-some c (sym none ∙ sym (ap as_message (same_where_not_differ S T (key.Msg e n) h)) ∙ was))

-- ---- over one moment

module _ (made : List Made) (e m : ℕ) (later : List ℕ) where
  -- what comes there, with the ends at the later moments
  pub came-over : (ended : Ends) (list new : List QueuedMessage) → AreEnds made e (state_at made m) later ended → reverse list ≡ messages_along made e later
      → reverse new ≡ filter_map (queued_at ended e m) (changes_at made m) ++ reverse list → reverse new ≡ messages_along made e (m ∷ later)
  came-over ended list new ends so_far put =
      put
      ∙ ap (λ l. l ++ reverse list) (coming-agrees (state_at made (parent_at made m)) (state_at made m) e m ended (λ n. gone_on made e n later) ends)
      ∙ ap (λ l. filter_map (queued_at (λ n. gone_on made e n later) e m) (changes_at made m) ++ l) so_far

  abbrev S : State
  S = state_at made (parent_at made m)

  abbrev T : State
  T = state_at made m

  -- the ends of what is there before it
  pub ends-over : (ended new : Ends) → AreEnds made e (state_at made m) later ended → ((n : ℕ) → new n ≡ end_over e n (changes_at made m) (m, end_at made e m) (ended n))
      → AreEnds made e (state_at made (parent_at made m)) (m ∷ later) new
  ends-over ended new ends put n was = by (message S e n) (message T e n) refl refl
    where
      by : (a b : Option MessageContent) → message S e n ≡ a → message T e n ≡ b → new n ≡ gone_on made e n (m ∷ later)
      by None b p q = absurd (true≢false (sym was ∙ ap is_some p))
      by (Some c) None p q =
          put n
          ∙ ap (λ b. cond b (Some (m, end_at made e m)) (ended n)) (is-going S T e n c p q)
          ∙ sym (ap (λ o. cond (is_some o) (gone_on made e n later) (Some (m, end_at made e m))) q)
      by (Some c) (Some d) p q =
          put n
          ∙ ap (λ b. cond b (Some (m, end_at made e m)) (ended n)) (not-going S T e n d q)
          ∙ ends n (ap is_some q)
          ∙ sym (ap (λ o. cond (is_some o) (gone_on made e n later) (Some (m, end_at made e m))) q)

-- ---- along a path

module _ (made : List Made) (falls : Falls made) (way : List ℕ) (is : IsPath made way) where
  path-before : (i : ℕ) → i ≤ length way → path made (end_of (take i way)) ≡ take i way
  path-before zero h = path-opening made
  path-before (suc i) h =
      let part = prefix-path made falls way is i h in
      let more : suc i ≡ i + 1 = omega arith in
      ap (λ n. path made (end_of (take n way))) more ∙ ap (λ w. path made (end_of w)) part.is ∙ ap (path made) (path-end made falls part.moment) ∙ sym part.is ∙ ap (λ n. take n way) (sym more)

  -- the moment behind so many, the one at which it was made, and what is left from it on
  pub next-moment : (i : ℕ) → i < length way → parent_at made (end_of (take (i + 1) way)) ≡ end_of (take i way)
  next-moment i h =
      let at = get-within way i h in
      ap (parent_at made) (last-of i at.0 at.1) ∙ way-next made falls way is i at.0 (end_of (take i way)) at.1 (path-before i (omega (arith, h)))
    where
      last-of : (i q : ℕ) → slice_get way i ≡ Some q → end_of (take (i + 1) way) ≡ q
      last-of i q at =
          ap end_of (take_more way i q (slice_get_within way i q at)) ∙ end_of-push (take i way) (get_or way i q) ∙ get_or_from_slice_get way i q q at

  pub left-behind : (i : ℕ) → i < length way → drop i way ≡ end_of (take (i + 1) way) ∷ drop (i + 1) way
  left-behind i h =
      let last : end_of (take (i + 1) way) ≡ get_or way i 0 = ap end_of (take_more way i 0 h) ∙ end_of-push (take i way) (get_or way i 0) in
      drop_more way i h ∙ ap (λ x. x ∷ drop (i + 1) way) (sym last)
    where
      drop_more : (xs : List ℕ) (i : ℕ) → i < length xs → drop i xs ≡ get_or xs i 0 ∷ drop (i + 1) xs
      drop_more xs i h = at_drop_more (λ l. l) xs i 0 h

-- ---- the row before the call of a position

none_there : {A B : Type 0} (f : A → B) (o : Option A) (x : A) → o ≡ Some x → option_map f o ≡ None → ⊥
none_there f o x e n = cc

module _ (made : List Made) (m : ℕ) (k : RowKey) (T : State) (at : T ≡ state_at made m) where
  pub row-unrecorded : m ≤ length made → recorded_at made m m ≡ None → row T k ≡ row (state_at made (parent_at made m)) k
  row-unrecorded h n = by m refl
    where
      by : (i : ℕ) → m ≡ i → row T k ≡ row (state_at made (parent_at made m)) k
      by zero e = ap (λ U. row U k) at ∙ ap (λ i. row (state_at made i) k) (e ∙ sym (ap (parent_at made) e))
      by (suc i) e =
          let there = get-within made i (omega (arith, h, e)) in
          absurd (none_there (λ _. record_of made (suc i) (suc i)) (slice_get made i) there.0 there.1 (sym (ap (λ m. recorded_at made m m) e) ∙ n))

  pub row-recorded : Falls made → (R : List (RowKey × Option Row)) → recorded_at made m m ≡ Some R → row_before R k (row T k) ≡ row (state_at made (parent_at made m)) k
  row-recorded falls R r =
      ap (λ U. row_before R k (row U k)) at
      ∙ ap (λ Q. row_before Q k (row (state_at made m) k)) (here-before made falls m R r)
      ∙ row-turned (state_at made (parent_at made m)) (state_at made m) k

-- ---- what a call that ends well leaves

pub ok_given : {A E : Type 0} (r : Result A E) (Q : Type 0) → Q → OnOk r Q
ok_given (Ok x) Q q = q
ok_given (Err e) Q q = tt

pub ok_more : {A E : Type 0} (r : Result A E) (P Q : Type 0) → (P → Q) → OnOk r P → OnOk r Q
ok_more (Ok x) P Q f p = f p
ok_more (Err e) P Q f p = tt

-- ---- one moment of a path

module _ (made : List Made) (falls : Falls made) (way : List ℕ) (is : IsPath made way) (e i place p : ℕ) (so_many : place ≡ i + 1) (inside : i < length way) (at : p ≡ end_of (take (i + 1) way)) where
  here : end_of (take place way) ≡ p
  here = ap (λ n. end_of (take n way)) so_many ∙ sym at

  left : p ∷ drop place way ≡ drop i way
  left = ap (λ n. p ∷ drop n way) so_many ∙ ap (λ q. q ∷ drop (i + 1) way) at ∙ sym (left-behind made falls way is i inside)

  -- the list with what comes at the moment
  pub path-listed : (ended : Ends) (list new : List QueuedMessage) → reverse list ≡ messages_along made e (drop place way) → AreEnds made e (state_at made (end_of (take place way))) (drop place way) ended
      → reverse new ≡ filter_map (queued_at ended e p) (changes_at made p) ++ reverse list → reverse new ≡ messages_along made e (drop i way)
  path-listed ended list new so_far ends put =
      came-over made e p (drop place way) ended list new (subst (λ q. AreEnds made e (state_at made q) (drop place way) ended) here ends) so_far put
      ∙ ap (messages_along made e) left

  -- the ends of what is there before it
  pub path-ends : (ended new : Ends) → AreEnds made e (state_at made (end_of (take place way))) (drop place way) ended
      → ((n : ℕ) → new n ≡ end_over e n (changes_at made p) (p, end_at made e p) (ended n)) → AreEnds made e (state_at made (end_of (take i way))) (drop i way) new
  path-ends ended new ends put =
      let up : parent_at made p ≡ end_of (take i way) = ap (parent_at made) at ∙ next-moment made falls way is i inside in
      let over : AreEnds made e (state_at made (parent_at made p)) (p ∷ drop place way) new =
      ends-over made e p (drop place way) ended new (subst (λ q. AreEnds made e (state_at made q) (drop place way) ended) here ends) put in
      subst (λ l. AreEnds made e (state_at made (end_of (take i way))) l new) left (subst (λ q. AreEnds made e (state_at made q) (p ∷ drop place way) new) up over)
