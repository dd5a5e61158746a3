-- Ending in parts is ending: rows of objects, tables and waits, member after member.
use Rattle.std.proofs.Common.{◌≡◌, ◌<◌, ◌≤◌, ℕ, zero, suc, add-one, ◌+◌, Bool, true, false, not, cond, ◌&&◌, ◌||◌, List, length, take, get_or, ◌⊎◌, inl, inr, refl, sym, ap, ◌∙◌, arith, option_and_then, subst}
use Rattle.std.specs.Option.{option_map_or}
use Rattle.std.specs.Prelude.{Option, None, Some, ◌==◌, nat_lt, if◌then◌else◌}
use Rattle.std.proofs.lemmas.Bool.{eqb-true, eq-eqb}
use Rattle.std.proofs.lemmas.List.Folds.{list_any_more}
use Rattle.zt_rows.specs.declared.keys.RowKey.{RowKey}
use Rattle.zt_rows.specs.declared.keys.RowKey.TheVariants as key
use Rattle.zt_rows.specs.declared.rows.Held.{Held}
use Rattle.zt_rows.specs.declared.rows.Life.{Life}
use Rattle.zt_rows.specs.declared.rows.Life.TheVariants as life
use Rattle.zt_rows.specs.declared.rows.ObjectRow.{ObjectRow}
use Rattle.zt_rows.specs.declared.rows.Wait.{Wait}
use Rattle.zt_rows.specs.declared.rows.Row.{Row}
use Rattle.zt_rows.specs.declared.rows.Row.TheVariants as rows
use Rattle.zt_rows.specs.Keys.{rowkey_eq}
use Rattle.zt_rows.specs.State.{State, row, put, change}
use Rattle.zt_rows.specs.Reads.{as_object, as_entry, as_wait, object, entry}
use Rattle.zt_rows.specs.Tests.{among}
use Rattle.zt_rows.specs.End.{left_by, end}
use Rattle.zt_rows.proofs.StateLaws.{row-change, row-put, same_state}
use Rattle.zt_rows.proofs.ReadLaws.{object-row, entry-row}
use Rattle.zt_rows.proofs.RowLaws.{or_true, not_true}
use Rattle.zt_index.specs.Chains as chains
use Rattle.zt_index.specs.Chains.{IsBehind}
use Rattle.zt_index.specs.Criteria.{is_by, waits_where}
use Rattle.zt_store.specs.KoidSets.{only}
use Rattle.zt_jobs.specs.ProofsOnly.TaskTree.{IsRising}
use Rattle.zt_jobs.specs.ProofsOnly.EndedTasks.{left_behind, with_end, with_life, without_tables, without_waits}
use Rattle.zt_jobs.specs.ProofsOnly.NextRow.{IsNextRow}
use Rattle.zt_jobs.proofs.MemberLaws.{this_one}
use Rattle.zt_jobs.proofs.WalkLaws.{behind-same, behind-change, change-then, change-alike, IsSeen, seen-none, seen-put, seen-past, seen-all, none-left, unseen-left, below_more, below_same, below_none, below_past, below_all, below_over, below_or}

-- ---- sets of processes and jobs

-- one more of a list
pub among-more : (xs : List ℕ) (i d : ℕ) → i < length xs → (y : ℕ) → among (take (i + 1) xs) y ≡ (among (take i xs) y || only (get_or xs i d) y)
among-more xs i d lt y = list_any_more (λ m. m == y) xs i d lt ∙ ap (λ b. among (take i xs) y || b) (this_one (get_or xs i d) y)

-- y is among the first i + 1 of a list exactly if it is among the first i or is m, the element at i
pub among-item : (xs : List ℕ) (i m : ℕ) → i < length xs → m ≡ get_or xs i m → (y : ℕ) → among (take (i + 1) xs) y ≡ (among (take i xs) y || only m y)
among-item xs i m lt is y = among-more xs i m lt y ∙ ap (λ x. among (take i xs) y || only x y) (sym is)

-- what stands before an element of a rising list is below it
lower-from : (xs : List ℕ) (i m y j : ℕ) → IsRising xs → i < length xs → m ≡ get_or xs i m → j ≤ i → among (take j xs) y ≡ true → y < m
lower-from xs i m y zero rising lt is le here = cc
lower-from xs i m y (suc j) rising lt is le here =
    let more : (among (take j xs) y || only (get_or xs j m) y) ≡ true = sym (ap (λ n. among (take n xs) y) (sym (add-one j)) ∙ among-more xs j m (omega arith) y) ∙ here in
    elim (or_true (among (take j xs) y) _ more) [
      | inl e ↦ lower-from xs i m y j rising lt is (omega arith) e
      | inr e ↦
          let same : get_or xs j m ≡ y = sym (eqb-true y (get_or xs j m) e) in
          let less : get_or xs j m < get_or xs i m = rising j i m (omega arith) lt in
          omega arith
    ]

pub among-lower : (xs : List ℕ) (i m : ℕ) → IsRising xs → i < length xs → m ≡ get_or xs i m → (y : ℕ) → among (take i xs) y ≡ true → y < m
among-lower xs i m rising lt is y here = lower-from xs i m y i rising lt is (omega arith) here

pub among-new : (xs : List ℕ) (i m : ℕ) → IsRising xs → i < length xs → m ≡ get_or xs i m → among (take i xs) m ≡ false
among-new xs i m rising lt is = not_true (among (take i xs) m) (λ t. let l : m < m = among-lower xs i m rising lt is m t in absurd (omega arith))

if-either : {A : Type 0} (a b : Bool) (u v : A) → (if b then u else (if a then u else v)) ≡ (if (a || b) then u else v)
if-either true true u v = refl
if-either true false u v = refl
if-either false true u v = refl
if-either false false u v = refl

gone-either : {A : Type 0} (a b : Bool) (f : A → Option A) (u : A) → f u ≡ (if b then None else Some u) → option_and_then f (if a then None else Some u) ≡ (if (a || b) then None else Some u)
gone-either true b f u e = refl
gone-either false b f u e = e

-- ---- rows of objects

pub end-none : (S : State) (ending : ℕ → Bool) (how : Life) (x : ℕ) → object S x ≡ None → S ≡ left_behind (with_end ending how) S (key.Object x)
end-none S ending how x none = behind-same (with_end ending how) S (key.Object x) (stays (row S (key.Object x)) none)
  where
    stays : (r : Option Row) → as_object r ≡ None → option_and_then (with_end ending how (key.Object x)) r ≡ r
    stays (Some (rows.Object o)) e = cc
    stays (Some r) e = refl
    stays None e = refl

pub end-some : (S : State) (how : Life) (x : ℕ) (o : ObjectRow) → object S x ≡ Some o → put S (key.Object x) (Some (rows.Object (record o { link = 0; life = how; critical = 0 }))) ≡ left_behind (with_end (only x) how) S (key.Object x)
end-some S how x o there =
    let ended : Bool → ObjectRow = λ b. record o { link = if b then 0 else o.link; life = if b then how else o.life; critical = if b then 0 else o.critical } in
    ap (put S (key.Object x)) (sym
    (ap (option_and_then (with_end (only x) how (key.Object x))) (object-row S x o there)
    ∙ ap (λ b. Some (rows.Object (ended b))) (eq-eqb x x refl)))

-- the row of one object is all that changes
pub end-one : (S : State) (how : Life) (x : ℕ) → left_behind (with_end (only x) how) S (key.Object x) ≡ change (with_end (only x) how) S
end-one S how x = behind-change (with_end (only x) how) S (key.Object x) (λ q apart. other q apart (row S q))
  where
    other : (q : RowKey) → rowkey_eq q (key.Object x) ≡ false → (r : Option Row) → option_and_then (with_end (only x) how q) r ≡ r
    other (key.Object y) apart (Some (rows.Object o)) =
        ap (λ b. Some (rows.Object (record o { link = if b then 0 else o.link; life = if b then how else o.life; critical = if b then 0 else o.critical }))) apart
    other _ apart (Some r) = refl
    other q apart None = refl

-- one more has ended
pub end-more : (S : State) (before after : ℕ → Bool) (how : Life) (x : ℕ) → ((y : ℕ) → after y ≡ (before y || only x y)) → change (with_end (only x) how) (change (with_end before how) S) ≡ change (with_end after how) S
end-more S before after how x is = change-then (with_end (only x) how) (with_end before how) (with_end after how) S at
  where
    at : (k : RowKey) (r : Row) → option_and_then (with_end (only x) how k) (with_end before how k r) ≡ with_end after how k r
    at (key.Object y) (rows.Object o) =
        (λ i. Some (rows.Object (record o { link = if-either (before y) (only x y) 0 o.link i; life = if-either (before y) (only x y) how o.life i; critical = if-either (before y) (only x y) 0 o.critical i })))
        ∙ ap (λ b. Some (rows.Object (record o { link = if b then 0 else o.link; life = if b then how else o.life; critical = if b then 0 else o.critical }))) (sym (is y))
    at _ r = refl

-- nothing has ended
pub end-nothing : (S : State) (before : ℕ → Bool) (how : Life) → ((y : ℕ) → before y ≡ false) → S ≡ change (with_end before how) S
end-nothing S before how none = same_state _ _ (λ q. sym (row-change (with_end before how) S q ∙ at q (row S q)))
  where
    at : (q : RowKey) (r : Option Row) → option_and_then (with_end before how q) r ≡ r
    at (key.Object y) (Some (rows.Object o)) = ap (λ b. Some (rows.Object (record o { link = if b then 0 else o.link; life = if b then how else o.life; critical = if b then 0 else o.critical }))) (none y)
    at _ (Some r) = refl
    at q None = refl

-- ---- tables

pub tables-more : (S : State) (before after : ℕ → Bool) (x : ℕ) → ((y : ℕ) → after y ≡ (before y || only x y)) → change (without_tables (only x)) (change (without_tables before) S) ≡ change (without_tables after) S
tables-more S before after x is = change-then (without_tables (only x)) (without_tables before) (without_tables after) S at
  where
    at : (k : RowKey) (r : Row) → option_and_then (without_tables (only x) k) (without_tables before k r) ≡ without_tables after k r
    at (key.Entry p h) (rows.Entry held) =
        gone-either (before p) (only x p) (without_tables (only x) (key.Entry p h)) (rows.Entry held) refl
        ∙ ap (λ b. if b then None else Some (rows.Entry held)) (sym (is p))
    at _ r = refl

pub tables-nothing : (S : State) (before : ℕ → Bool) → ((y : ℕ) → before y ≡ false) → S ≡ change (without_tables before) S
tables-nothing S before none = same_state _ _ (λ q. sym (row-change (without_tables before) S q ∙ at q (row S q)))
  where
    at : (q : RowKey) (r : Option Row) → option_and_then (without_tables before q) r ≡ r
    at (key.Entry p h) (Some (rows.Entry held)) = ap (λ b. if b then None else Some (rows.Entry held)) (none p)
    at _ (Some r) = refl
    at q None = refl

-- what is left of one entry
pub entry-none : (S : State) (p h : ℕ) → entry S p h ≡ None → S ≡ left_behind (without_tables (only p)) S (key.Entry p h)
entry-none S p h none = behind-same (without_tables (only p)) S (key.Entry p h) (stays (row S (key.Entry p h)) none)
  where
    stays : (r : Option Row) → as_entry r ≡ None → option_and_then (without_tables (only p) (key.Entry p h)) r ≡ r
    stays (Some (rows.Entry held)) e = cc
    stays (Some r) e = refl
    stays None e = refl

pub entry-some : (S : State) (p h : ℕ) (held : Held) → entry S p h ≡ Some held → put S (key.Entry p h) None ≡ left_behind (without_tables (only p)) S (key.Entry p h)
entry-some S p h held there =
    ap (put S (key.Entry p h)) (sym
    (ap (option_and_then (without_tables (only p) (key.Entry p h))) (entry-row S p h held there)
    ∙ ap (λ b. if b then None else Some (rows.Entry held)) (eq-eqb p p refl)))

abbrev pub seen_entries : ℕ → ℕ → RowKey → Bool
seen_entries p v (key.Entry q h) = (q == p) && nat_lt h v
seen_entries p v _ = false

module _ (S : State) (p : ℕ) where
  abbrev pub EntriesSeen : State → ℕ → Type 0
  EntriesSeen T v = IsSeen (without_tables (only p)) S T (seen_entries p v)

  pub entries-start : EntriesSeen S 0
  entries-start = seen-none (without_tables (only p)) S (seen_entries p 0) at
    where
      and_none : (b c : Bool) → c ≡ false → (b && c) ≡ false
      and_none true c e = e
      and_none false c e = refl

      at : (k : RowKey) → seen_entries p 0 k ≡ false
      at (key.Entry q h) = and_none (q == p) (nat_lt h 0) (below_none h)
      at _ = refl

  pub entries-put : (T : State) (v : ℕ) → EntriesSeen T v → EntriesSeen (left_behind (without_tables (only p)) T (key.Entry p v)) (v + 1)
  entries-put T v seen = seen-put (without_tables (only p)) S T (key.Entry p v) (seen_entries p v) (seen_entries p (v + 1)) seen (and_last (p == p) (below_same v)) at
    where
      and_last : (b : Bool) {c : Bool} → c ≡ false → (b && c) ≡ false
      and_last true e = e
      and_last false e = refl

      spread : (b c d : Bool) → (b && (c || d)) ≡ ((b && c) || (b && d))
      spread true c d = refl
      spread false c d = refl

      at : (k : RowKey) → seen_entries p (v + 1) k ≡ (seen_entries p v k || rowkey_eq k (key.Entry p v))
      at (key.Entry q h) = ap (λ b. (q == p) && b) (below_more h v) ∙ spread (q == p) (nat_lt h v) (h == v)
      at key.Counters = refl
      at (key.Object x) = refl
      at (key.Msg e n) = refl
      at (key.Packet e n) = refl
      at (key.Wait n) = refl

  pub entries-past : (T : State) (v next : ℕ) → EntriesSeen T (v + 1) → IsNextRow T (λ h. key.Entry p h) v (Some next) → EntriesSeen T next
  entries-past T v next seen is = seen-past (without_tables (only p)) S T (seen_entries p (v + 1)) (seen_entries p next) seen at
    where
      of : (q h : ℕ) (b : Bool) → (q == p) ≡ b → ((b && nat_lt h next) ≡ (b && nat_lt h (v + 1))) ⊎ (((b && nat_lt h (v + 1)) ≡ false) × (option_and_then (without_tables (only p) (key.Entry q h)) (row T (key.Entry q h)) ≡ row T (key.Entry q h)))
      of q h true e = elim (below_past h v next is.0) [
        | inl same ↦ inl same
        | inr w ↦ inr (w.0, none-left (without_tables (only p)) S (row T (key.Entry q h)) (key.Entry q h) (ap (λ z. row T (key.Entry z h)) (eqb-true q p e) ∙ is.1 h w.1 w.2))
      ]
      of q h false e = inl refl

      at : (k : RowKey) → (seen_entries p next k ≡ seen_entries p (v + 1) k) ⊎ ((seen_entries p (v + 1) k ≡ false) × (option_and_then (without_tables (only p) k) (row T k) ≡ row T k))
      at (key.Entry q h) = of q h (q == p) refl
      at _ = inl refl

  pub entries-all : (T : State) (v : ℕ) → EntriesSeen T (v + 1) → IsNextRow T (λ h. key.Entry p h) v None → T ≡ change (without_tables (only p)) S
  entries-all T v seen is = seen-all (without_tables (only p)) S T (seen_entries p (v + 1)) seen at
    where
      other : (q h : ℕ) → (q == p) ≡ false → (r : Option Row) → option_and_then (without_tables (only p) (key.Entry q h)) r ≡ r
      other q h apart (Some (rows.Entry held)) = ap (λ b. if b then None else Some (rows.Entry held)) apart
      other q h apart (Some r) = refl
      other q h apart None = refl

      of : (q h : ℕ) (b : Bool) → (q == p) ≡ b → ((b && nat_lt h (v + 1)) ≡ true) ⊎ (((b && nat_lt h (v + 1)) ≡ false) × (option_and_then (without_tables (only p) (key.Entry q h)) (row S (key.Entry q h)) ≡ row S (key.Entry q h)))
      of q h true e = elim (below_all h v) [
        | inl t ↦ inl t
        | inr w ↦ inr (w.0, unseen-left (without_tables (only p)) S T (seen_entries p (v + 1)) seen (key.Entry q h) (ap (λ b. b && nat_lt h (v + 1)) e ∙ w.0) (none-left (without_tables (only p)) S (row T (key.Entry q h)) (key.Entry q h) (ap (λ z. row T (key.Entry z h)) (eqb-true q p e) ∙ is h w.1)))
      ]
      of q h false e = inr (refl, other q h e (row S (key.Entry q h)))

      same : (k : RowKey) → ((r : Row) → without_tables (only p) k r ≡ Some r) → (r : Option Row) → option_and_then (without_tables (only p) k) r ≡ r
      same k h (Some r) = h r
      same k h None = refl

      at : (k : RowKey) → (seen_entries p (v + 1) k ≡ true) ⊎ ((seen_entries p (v + 1) k ≡ false) × (option_and_then (without_tables (only p) k) (row S k) ≡ row S k))
      at (key.Entry q h) = of q h (q == p) refl
      at key.Counters = inr (refl, same key.Counters (λ r. refl) (row S key.Counters))
      at (key.Object x) = inr (refl, same (key.Object x) (λ r. refl) (row S (key.Object x)))
      at (key.Msg e n) = inr (refl, same (key.Msg e n) (λ r. refl) (row S (key.Msg e n)))
      at (key.Packet e n) = inr (refl, same (key.Packet e n) (λ r. refl) (row S (key.Packet e n)))
      at (key.Wait n) = inr (refl, same (key.Wait n) (λ r. refl) (row S (key.Wait n)))

-- ---- waits

pub waits-more : (S : State) (before after : ℕ → Bool) (x : ℕ) → ((y : ℕ) → after y ≡ (before y || only x y)) → change (without_waits (only x)) (change (without_waits before) S) ≡ change (without_waits after) S
waits-more S before after x is = change-then (without_waits (only x)) (without_waits before) (without_waits after) S at
  where
    at : (k : RowKey) (r : Row) → option_and_then (without_waits (only x) k) (without_waits before k r) ≡ without_waits after k r
    at (key.Wait n) (rows.Wait w) =
        gone-either (before w.process) (only x w.process) (without_waits (only x) (key.Wait n)) (rows.Wait w) refl
        ∙ ap (λ b. if b then None else Some (rows.Wait w)) (sym (is w.process))
    at _ r = refl

pub waits-nothing : (S : State) (before : ℕ → Bool) → ((y : ℕ) → before y ≡ false) → S ≡ change (without_waits before) S
waits-nothing S before none = same_state _ _ (λ q. sym (row-change (without_waits before) S q ∙ at q (row S q)))
  where
    at : (q : RowKey) (r : Option Row) → option_and_then (without_waits before q) r ≡ r
    at (key.Wait n) (Some (rows.Wait w)) = ap (λ b. if b then None else Some (rows.Wait w)) (none w.process)
    at _ (Some r) = refl
    at q None = refl

-- what is left of one wait
wait-gone : (T : State) (p n : ℕ) → waits_where T (is_by p) n ≡ true → put T (key.Wait n) None ≡ left_behind (without_waits (only p)) T (key.Wait n)
wait-gone T p n made = ap (put T (key.Wait n)) (sym (gone (row T (key.Wait n)) made))
  where
    gone : (r : Option Row) → option_map_or (is_by p) (as_wait r) false ≡ true → option_and_then (without_waits (only p) (key.Wait n)) r ≡ None
    gone (Some (rows.Wait w)) e = ap (λ b. if b then None else Some (rows.Wait w)) e
    gone (Some r) e = cc
    gone None e = cc

wait-stays : (T : State) (p n : ℕ) → waits_where T (is_by p) n ≡ false → option_and_then (without_waits (only p) (key.Wait n)) (row T (key.Wait n)) ≡ row T (key.Wait n)
wait-stays T p n other = stays (row T (key.Wait n)) other
  where
    stays : (r : Option Row) → option_map_or (is_by p) (as_wait r) false ≡ false → option_and_then (without_waits (only p) (key.Wait n)) r ≡ r
    stays (Some (rows.Wait w)) e = ap (λ b. if b then None else Some (rows.Wait w)) e
    stays (Some r) e = refl
    stays None e = refl

abbrev pub seen_waits : ℕ → RowKey → Bool
seen_waits n (key.Wait m) = nat_lt m n
seen_waits n _ = false

-- the first number behind the low one, or of all
abbrev pub first_behind : Option ℕ → ℕ
first_behind None = 0
first_behind (Some n) = n + 1

behind : (low : Option ℕ) (m : ℕ) → first_behind low ≤ m → IsBehind (λ a b. a < b) low m
behind None m le = tt
behind (Some n) m le = omega arith

pub behind-least : (low : Option ℕ) (n : ℕ) → IsBehind (λ a b. a < b) low n → first_behind low ≤ n
behind-least None n h = omega arith
behind-least (Some m) n h = omega arith

-- what comes behind a wait is the same where that wait has gone
next-kept : (T : State) (p n : ℕ) (later : Option ℕ) → chains.IsNext (waits_where T (is_by p)) (Some n) later → chains.IsNext (waits_where (put T (key.Wait n) None) (is_by p)) (Some n) later
next-kept T p n later is = at later is
  where
    same : (m : ℕ) → n < m → waits_where (put T (key.Wait n) None) (is_by p) m ≡ waits_where T (is_by p) m
    same m over =
        ap (λ r. option_map_or (is_by p) (as_wait r) false)
        (row-put T (key.Wait n) None (key.Wait m)
        ∙ ap (λ b. cond b None (row T (key.Wait m))) (not_true (m == n) (λ t. let e : m ≡ n = eqb-true m n t in absurd (omega arith))))

    at : (o : Option ℕ) → chains.IsNext (waits_where T (is_by p)) (Some n) o → chains.IsNext (waits_where (put T (key.Wait n) None) (is_by p)) (Some n) o
    at None h = (tt, λ m over short. same m over ∙ h.1 m over tt)
    at (Some k) h = ((h.0.0, same k h.0.0 ∙ h.0.1), λ m over short. same m over ∙ h.1 m over short)

module _ (S : State) (p : ℕ) where
  abbrev pub WaitsSeen : State → ℕ → Type 0
  WaitsSeen T n = IsSeen (without_waits (only p)) S T (seen_waits n)

  waits-start : WaitsSeen S 0
  waits-start = seen-none (without_waits (only p)) S (seen_waits 0) at
    where
      at : (k : RowKey) → seen_waits 0 k ≡ false
      at (key.Wait m) = below_none m
      at _ = refl

  waits-put : (T : State) (n : ℕ) → WaitsSeen T n → WaitsSeen (left_behind (without_waits (only p)) T (key.Wait n)) (n + 1)
  waits-put T n seen = seen-put (without_waits (only p)) S T (key.Wait n) (seen_waits n) (seen_waits (n + 1)) seen (below_same n) at
    where
      at : (k : RowKey) → seen_waits (n + 1) k ≡ (seen_waits n k || rowkey_eq k (key.Wait n))
      at (key.Wait m) = below_more m n
      at key.Counters = refl
      at (key.Object x) = refl
      at (key.Entry q h) = refl
      at (key.Msg e i) = refl
      at (key.Packet e i) = refl

  waits-past : (T : State) (low : Option ℕ) (n : ℕ) → WaitsSeen T (first_behind low) → chains.IsNext (waits_where T (is_by p)) low (Some n) → WaitsSeen T n
  waits-past T low n seen is = seen-past (without_waits (only p)) S T (seen_waits (first_behind low)) (seen_waits n) seen at
    where
      at : (k : RowKey) → (seen_waits n k ≡ seen_waits (first_behind low) k) ⊎ ((seen_waits (first_behind low) k ≡ false) × (option_and_then (without_waits (only p) k) (row T k) ≡ row T k))
      at (key.Wait m) = elim (below_over m (first_behind low) n (behind-least low n is.0.0)) [ inl same ↦ inl same | inr w ↦ inr (w.0, wait-stays T p m (is.1 m (behind low m w.1) w.2)) ]
      at _ = inl refl

  -- the next wait has gone
  waits-next : (T : State) (low : Option ℕ) (n : ℕ) → WaitsSeen T (first_behind low) → chains.IsNext (waits_where T (is_by p)) low (Some n) → WaitsSeen (put T (key.Wait n) None) (n + 1)
  waits-next T low n seen is = subst (λ U. WaitsSeen U (n + 1)) (sym (wait-gone T p n is.0.1)) (waits-put T n (waits-past T low n seen is))

  waits-all : (T : State) (low : Option ℕ) → WaitsSeen T (first_behind low) → chains.IsNext (waits_where T (is_by p)) low None → T ≡ change (without_waits (only p)) S
  waits-all T low seen is = seen-all (without_waits (only p)) S T (seen_waits (first_behind low)) seen at
    where
      same : (k : RowKey) → ((r : Row) → without_waits (only p) k r ≡ Some r) → (r : Option Row) → option_and_then (without_waits (only p) k) r ≡ r
      same k h (Some r) = h r
      same k h None = refl

      at : (k : RowKey) → (seen_waits (first_behind low) k ≡ true) ⊎ ((seen_waits (first_behind low) k ≡ false) × (option_and_then (without_waits (only p) k) (row S k) ≡ row S k))
      at (key.Wait m) = elim (below_or m (first_behind low)) [
        | inl t ↦ inl t
        | inr w ↦ inr (w.0, unseen-left (without_waits (only p)) S T (seen_waits (first_behind low)) seen (key.Wait m) w.0 (wait-stays T p m (is.1 m (behind low m w.1) tt)))
      ]
      at key.Counters = inr (refl, same key.Counters (λ r. refl) (row S key.Counters))
      at (key.Object x) = inr (refl, same (key.Object x) (λ r. refl) (row S (key.Object x)))
      at (key.Entry q h) = inr (refl, same (key.Entry q h) (λ r. refl) (row S (key.Entry q h)))
      at (key.Msg e i) = inr (refl, same (key.Msg e i) (λ r. refl) (row S (key.Msg e i)))
      at (key.Packet e i) = inr (refl, same (key.Packet e i) (λ r. refl) (row S (key.Packet e i)))

  -- all waits up to the next one were seen
  pub record WaitsLeft (T : State) (next : Option ℕ) : Type 0 where
    pub low : Option ℕ
    pub seen : WaitsSeen T (first_behind low)
    pub is : chains.IsNext (waits_where T (is_by p)) low next

  pub left-start : (next : Option ℕ) → chains.IsNext (waits_where S (is_by p)) None next → WaitsLeft S next
  left-start next is = record { low = None; seen = waits-start; is = is }

  pub left-next : (T : State) (next later : Option ℕ) (n : ℕ) → next ≡ Some n → WaitsLeft T next → chains.IsNext (waits_where T (is_by p)) (Some n) later → WaitsLeft (put T (key.Wait n) None) later
  left-next T next later n e left is = record {
    low = Some n;
    seen = waits-next T left.low n left.seen (subst (chains.IsNext (waits_where T (is_by p)) left.low) e left.is);
    is = next-kept T p n later is;
  }

  pub left-end : (T : State) (next : Option ℕ) → ((n : ℕ) → next ≡ Some n → ⊥) → WaitsLeft T next → T ≡ change (without_waits (only p)) S
  left-end T None none left = waits-all T left.low left.seen left.is
  left-end T (Some n) none left = absurd (none n refl)

-- ---- all parts

pub parts : (S : State) (ending : ℕ → Bool) (how : Life) → change (without_waits ending) (change (without_tables ending) (change (with_end ending how) S)) ≡ end S ending how
unfolding end
parts S ending how =
    ap (change (without_waits ending)) (change-then (without_tables ending) (with_end ending how) (λ k r. option_and_then (without_tables ending k) (with_end ending how k r)) S (λ k r. refl))
    ∙ change-then (without_waits ending) (λ k r. option_and_then (without_tables ending k) (with_end ending how k r)) (left_by ending how) S at
  where
    at : (k : RowKey) (r : Row) → option_and_then (without_waits ending k) (option_and_then (without_tables ending k) (with_end ending how k r)) ≡ left_by ending how k r
    at (key.Object x) (rows.Object o) = refl
    at (key.Entry p h) (rows.Entry held) = elim (ending p) as (λ b. option_and_then (without_waits ending (key.Entry p h)) (if b then None else Some (rows.Entry held)) ≡ (if b then None else Some (rows.Entry held))) [ true ↦ refl | false ↦ refl ]
    at (key.Wait n) (rows.Wait w) = refl
    at _ r = refl

-- two sets with the same members, given as tests that agree on each koid, leave the same state when they end
pub end-alike : (S : State) (a b : ℕ → Bool) (how : Life) → ((x : ℕ) → a x ≡ b x) → end S a how ≡ end S b how
end-alike S a b how same = ap (λ e. end S e how) (λ i x. same x i)

-- ---- one that ends otherwise than the rest

pub life-none : (S : State) (x : ℕ) (how : Life) → object S x ≡ None → S ≡ left_behind (with_life x how) S (key.Object x)
life-none S x how none = behind-same (with_life x how) S (key.Object x) (stays (row S (key.Object x)) none)
  where
    stays : (r : Option Row) → as_object r ≡ None → option_and_then (with_life x how (key.Object x)) r ≡ r
    stays (Some (rows.Object o)) e = cc
    stays (Some r) e = refl
    stays None e = refl

pub life-some : (S : State) (x : ℕ) (how : Life) (o : ObjectRow) → object S x ≡ Some o → put S (key.Object x) (Some (rows.Object (record o { life = how }))) ≡ left_behind (with_life x how) S (key.Object x)
life-some S x how o there =
    ap (put S (key.Object x)) (sym
    (ap (option_and_then (with_life x how (key.Object x))) (object-row S x o there)
    ∙ ap (λ b. Some (rows.Object (record o { life = if b then how else o.life }))) (eq-eqb x x refl)))

-- the row of one object is all that changes
life-one : (S : State) (x : ℕ) (how : Life) → left_behind (with_life x how) S (key.Object x) ≡ change (with_life x how) S
life-one S x how = behind-change (with_life x how) S (key.Object x) (λ q apart. other q apart (row S q))
  where
    other : (q : RowKey) → rowkey_eq q (key.Object x) ≡ false → (r : Option Row) → option_and_then (with_life x how q) r ≡ r
    other (key.Object y) apart (Some (rows.Object o)) = ap (λ b. Some (rows.Object (record o { life = if b then how else o.life }))) apart
    other _ apart (Some r) = refl
    other q apart None = refl

-- an object after an end of this kind, if it ended
abbrev after : Bool → Life → ObjectRow → ObjectRow
after b left o = record o { link = if b then 0 else o.link; life = if b then left else o.life; critical = if b then 0 else o.critical }

-- a member that ends so after all were killed, and one that ends so before the others are killed
pub exit-parts : (S : State) (ending : ℕ → Bool) (p : ℕ) (how : Life) → ending p ≡ true → left_behind (with_life p how) (end S ending life.Killed) (key.Object p) ≡ end (end S (λ x. x == p) how) (λ x. ending x && not (x == p)) life.Killed
unfolding end
exit-parts S ending p how member =
    life-one (end S ending life.Killed) p how
    ∙ change-then (with_life p how) (left_by ending life.Killed) (λ k r. option_and_then (with_life p how k) (left_by ending life.Killed k r)) S (λ k r. refl)
    ∙ change-alike _ _ S at
    ∙ sym (change-then (left_by others life.Killed) (left_by (λ x. x == p) how) (λ k r. option_and_then (left_by others life.Killed k) (left_by (λ x. x == p) how k r)) S (λ k r. refl))
  where
    others : ℕ → Bool
    others x = ending x && not (x == p)

    inside : (x : ℕ) → (x == p) ≡ true → ending x ≡ true
    inside x same = subst (λ z. ending z ≡ true) (sym (eqb-true x p same)) member

    object-alike : (a e : Bool) (o : ObjectRow) → (e ≡ true → a ≡ true) → record (after a life.Killed o) { life = if e then how else (if a then life.Killed else o.life) } ≡ after (a && not e) life.Killed (after e how o)
    object-alike true true o h = refl
    object-alike true false o h = refl
    object-alike false false o h = refl
    object-alike false true o h = let t : false ≡ true = h refl in cc

    gone-alike : (a e : Bool) (f : Row → Option Row) (r : Row) → (e ≡ true → a ≡ true) → f r ≡ (if (a && not e) then None else Some r) → (if a then None else Some r) ≡ option_and_then f (if e then None else Some r)
    gone-alike true true f r h g = refl
    gone-alike true false f r h g = sym g
    gone-alike false false f r h g = sym g
    gone-alike false true f r h g = let t : false ≡ true = h refl in cc

    kept-entry : (b : Bool) (q h : ℕ) (held : Held) → option_and_then (with_life p how (key.Entry q h)) (if b then None else Some (rows.Entry held)) ≡ (if b then None else Some (rows.Entry held))
    kept-entry true q h held = refl
    kept-entry false q h held = refl

    kept-wait : (b : Bool) (n : ℕ) (w : Wait) → option_and_then (with_life p how (key.Wait n)) (if b then None else Some (rows.Wait w)) ≡ (if b then None else Some (rows.Wait w))
    kept-wait true n w = refl
    kept-wait false n w = refl

    at : (k : RowKey) (r : Row) → option_and_then (with_life p how k) (left_by ending life.Killed k r) ≡ option_and_then (left_by others life.Killed k) (left_by (λ x. x == p) how k r)
    at (key.Object x) (rows.Object o) = ap (λ z. Some (rows.Object z)) (object-alike (ending x) (x == p) o (inside x))
    at (key.Entry q h) (rows.Entry held) =
        kept-entry (ending q) q h held
        ∙ gone-alike (ending q) (q == p) (left_by others life.Killed (key.Entry q h)) (rows.Entry held) (inside q) refl
    at (key.Wait n) (rows.Wait w) =
        kept-wait (ending w.process) n w
        ∙ gone-alike (ending w.process) (w.process == p) (left_by others life.Killed (key.Wait n)) (rows.Wait w) (inside w.process) refl
    at _ r = refl
