-- Numbers by koid that are those of the rows: how large they are, what a put makes of them, and how far rows reach.
use Rattle.std.proofs.Common.{zero, suc, ◌≡◌, ◌≤◌, ◌<◌, ◌-◌, ◌^◌, ℕ, ◌+◌, ⊎_elim, Bool, true, false, cond, ◌&&◌, ◌||◌, List, length, get_or, take, nat_lt, Option, Some, None, refl, sym, ap, ◌∙◌, subst, arith, count_by}
use Rattle.std.specs.Prelude.{◌==◌}
use Rattle.std.specs.List.{list_all}
use Rattle.std.proofs.lemmas.Bool.{cases_eq, eq-eqb, lt-ltb}
use Rattle.std.proofs.lemmas.List.{get_or_past}
use Rattle.std.proofs.lemmas.List.Sums.{list_all-from_AllPass}
use Rattle.zt_rows.specs.declared.keys.RowKey.{RowKey}
use Rattle.zt_rows.specs.declared.keys.RowKey.TheVariants as key
use Rattle.zt_rows.specs.declared.rows.Held.{Held}
use Rattle.zt_rows.specs.declared.rows.ObjectRow.{ObjectRow}
use Rattle.zt_rows.specs.declared.rows.Row.{Row}
use Rattle.zt_rows.specs.declared.rows.Row.TheVariants as rows
use Rattle.zt_rows.specs.Contents.{MessageContent}
use Rattle.zt_rows.specs.Keys.{rowkey_eq}
use Rattle.zt_rows.specs.ProofsOnly.KeyOrder.{rowkey_eq-equal}
use Rattle.zt_rows.specs.State.{State, row, put}
use Rattle.zt_rows.specs.Opening.{hollow}
use Rattle.zt_rows.specs.Reads.{is_live_process, is_live_job}
use Rattle.zt_rows.specs.Settle.{is_child_job_of, is_child_process_of}
use Rattle.zt_rows.proofs.RowLaws.{and_both}
use Rattle.zt_rows.proofs.StateLaws.{row-put}
use Rattle.zt_index.specs.declared.support_counts.KoidCounts.{KoidCounts}
use Rattle.zt_index.specs.KoidCounts.{named_by, job_by, process_by, given, given_if, none_given, plus, numbers_at, counts_within, counts_within_if}
use Rattle.zt_index.specs.ProofsOnly.KoidCounts.{total, numbers_of, NamesFew, AreKoidCounts}
use Rattle.zt_index.proofs.Totals.{share, total-put, share-within, total-within}
use Rattle.zt_index.proofs.Naming.{named_next}

-- ---- what a row, or none, gives

named-share : (x : ℕ) (k : RowKey) (o : Option Row) → share (named_by x) k o ≡ (given_if x k o).named
named-share x k (Some r) = refl
named-share x k None = refl

jobs-share : (x : ℕ) (k : RowKey) (o : Option Row) → share (job_by x) k o ≡ (given_if x k o).jobs
jobs-share x k (Some r) = refl
jobs-share x k None = refl

processes-share : (x : ℕ) (k : RowKey) (o : Option Row) → share (process_by x) k o ≡ (given_if x k o).processes
processes-share x k (Some r) = refl
processes-share x k None = refl

-- ---- a put

module _ (S : State) (k : RowKey) (r : Option Row) (x : ℕ) where
  named-put : total (named_by x) (put S k r) + (given_if x k (row S k)).named ≡ total (named_by x) S + (given_if x k r).named
  named-put = omega (arith, total-put (named_by x) S k r, named-share x k (row S k), named-share x k r)

  jobs-put : total (job_by x) (put S k r) + (given_if x k (row S k)).jobs ≡ total (job_by x) S + (given_if x k r).jobs
  jobs-put = omega (arith, total-put (job_by x) S k r, jobs-share x k (row S k), jobs-share x k r)

  processes-put : total (process_by x) (put S k r) + (given_if x k (row S k)).processes ≡ total (process_by x) S + (given_if x k r).processes
  processes-put = omega (arith, total-put (process_by x) S k r, processes-share x k (row S k), processes-share x k r)

same_numbers : (a b : KoidCounts) → a.named ≡ b.named → a.jobs ≡ b.jobs → a.processes ≡ b.processes → a ≡ b
same_numbers a b p q s = λ i. record { named = p i; jobs = q i; processes = s i }

-- raised by the row that comes and lowered by the row that went, the numbers are those of the rows after the put
pub koid_counts-put : (S : State) (k : RowKey) (r : Option Row) (old raised new : List KoidCounts) → AreKoidCounts S old
    → ((x : ℕ) → numbers_at raised x ≡ plus (numbers_at old x) (given_if x k r))
    → ((x : ℕ) → plus (numbers_at new x) (given_if x k (row S k)) ≡ numbers_at raised x)
    → AreKoidCounts (put S k r) new
koid_counts-put S k r old raised new koid_counts up down x =
    let u : plus (numbers_at new x) (given_if x k (row S k)) ≡ plus (numbers_of S x) (given_if x k r) =
    down x ∙ up x ∙ ap (λ n. plus n (given_if x k r)) (koid_counts x) in
    let named = ap (λ (n : KoidCounts). n.named) u in
    let jobs = ap (λ (n : KoidCounts). n.jobs) u in
    let processes = ap (λ (n : KoidCounts). n.processes) u in
    same_numbers (numbers_at new x) (numbers_of (put S k r) x)
    (omega (arith, named, named-put S k r x)) (omega (arith, jobs, jobs-put S k r x)) (omega (arith, processes, processes-put S k r x))

pub names_few-put : (S : State) (k : RowKey) (r : Option Row) → NamesFew S → ((x : ℕ) → (given_if x k r).named ≤ 64) → NamesFew (put S k r)
names_few-put S k r few new x l s e = here (rowkey_eq l k) refl
  where
    here : (b : Bool) → rowkey_eq l k ≡ b → named_by x l s ≤ 64
    here true t =
        let there : r ≡ Some s = sym (ap (λ c. cond c r (row S l)) t) ∙ sym (row-put S k r l) ∙ e in
        let same : l ≡ k = rowkey_eq-equal l k t in
        let le : named_by x k s ≤ 64 = subst (λ (o : Option Row). (given_if x k o).named ≤ 64) there (new x) in
        subst (λ q. named_by x q s ≤ 64) (sym same) le
    here false t = few x l s (sym (ap (λ c. cond c r (row S l)) t) ∙ sym (row-put S k r l) ∙ e)

-- ---- how large the numbers are

bit-small : (b : Bool) → cond {A = ℕ} b 1 0 ≤ 1
bit-small true = omega arith
bit-small false = omega arith

pub named-small : (S : State) (x : ℕ) → NamesFew S → length S.rows ≤ 2 ^ 48 + 1 → total (named_by x) S < 2 ^ 62
named-small S x few short = omega (arith, total-within (named_by x) 64 S (λ k r e. few x k r e))

pub jobs-small : (S : State) (x : ℕ) → length S.rows ≤ 2 ^ 48 + 1 → total (job_by x) S < 2 ^ 62
jobs-small S x short = omega (arith, total-within (job_by x) 1 S (λ k r e. bit-small (is_child_job_of x k r)))

pub processes-small : (S : State) (x : ℕ) → length S.rows ≤ 2 ^ 48 + 1 → total (process_by x) S < 2 ^ 62
processes-small S x short = omega (arith, total-within (process_by x) 1 S (λ k r e. bit-small (is_child_process_of x k r)))

pub record AreSmall (n : KoidCounts) : Type 0 where
  pub named : n.named < 2 ^ 62
  pub jobs : n.jobs < 2 ^ 62
  pub processes : n.processes < 2 ^ 62

-- the numbers of a koid leave room for one more row
pub small-at : (S : State) (list : List KoidCounts) (x : ℕ) (n : KoidCounts) → n ≡ numbers_at list x → AreKoidCounts S list → NamesFew S → length S.rows ≤ 2 ^ 48 + 1 → AreSmall n
small-at S list x n at_n koid_counts few short =
    subst AreSmall (sym (at_n ∙ koid_counts x)) (record { named = named-small S x few short; jobs = jobs-small S x short; processes = processes-small S x short })

-- where only the objects below n give something, and each of them one at most, all rows give n at most
module _ (g : RowKey → Row → ℕ) (others : (k : RowKey) (r : Row) → ((y : ℕ) → k ≡ key.Object y → ⊥) → g k r ≤ 0) (one : (y : ℕ) (r : Row) → g (key.Object y) r ≤ 1) where
  nothing-by : (S : State) → ((y : ℕ) → row S (key.Object y) ≡ None) → (k : RowKey) (r : Row) → row S k ≡ Some r → g k r ≤ 0
  nothing-by S none k r e = others k r (λ y is. let there : Some r ≡ None = sym e ∙ ap (row S) is ∙ none y in cc)

  share-one : (y : ℕ) (o : Option Row) → share g (key.Object y) o ≤ 1
  share-one y (Some r) = one y r
  share-one y None = omega arith

  below-without : (n : ℕ) (S : State) → ((y : ℕ) → suc n ≤ y → row S (key.Object y) ≡ None) → (y : ℕ) → n ≤ y → row (put S (key.Object n) None) (key.Object y) ≡ None
  below-without n S none y le =
      row-put S (key.Object n) None (key.Object y)
      ∙ elim (rowkey_eq (key.Object y) (key.Object n)) as (λ b. rowkey_eq (key.Object y) (key.Object n) ≡ b → cond b None (row S (key.Object y)) ≡ None) [
        | true ↦ λ t. refl
        | false ↦ λ t. none y (⊎_elim (λ s. let same : rowkey_eq (key.Object y) (key.Object n) ≡ true = eq-eqb y n s in cc) (λ s. omega arith) (cases_eq y n))
      ] refl

  pub total-below : (n : ℕ) (S : State) → ((y : ℕ) → n ≤ y → row S (key.Object y) ≡ None) → total g S ≤ n
  total-below zero S none = omega (arith, total-within g 0 S (nothing-by S (λ y. none y (omega arith))))
  total-below (suc n) S none =
      let rest : total g (put S (key.Object n) None) ≤ n = total-below n (put S (key.Object n) None) (below-without n S none) in
      let moved = total-put g S (key.Object n) None in
      let last = share-one n (row S (key.Object n)) in
      omega arith

job-by-object : (x : ℕ) (k : RowKey) (r : Row) → ((y : ℕ) → k ≡ key.Object y → ⊥) → job_by x k r ≤ 0
job-by-object x (key.Object y) r other = absurd (other y refl)
job-by-object x key.Counters r other = omega arith
job-by-object x (key.Entry _ _) r other = omega arith
job-by-object x (key.Msg _ _) r other = omega arith
job-by-object x (key.Packet _ _) r other = omega arith
job-by-object x (key.Wait _) r other = omega arith

process-by-object : (x : ℕ) (k : RowKey) (r : Row) → ((y : ℕ) → k ≡ key.Object y → ⊥) → process_by x k r ≤ 0
process-by-object x (key.Object y) r other = absurd (other y refl)
process-by-object x key.Counters r other = omega arith
process-by-object x (key.Entry _ _) r other = omega arith
process-by-object x (key.Msg _ _) r other = omega arith
process-by-object x (key.Packet _ _) r other = omega arith
process-by-object x (key.Wait _) r other = omega arith

-- there are no more tasks below a koid than objects, so that there can be one more job and one more process
pub tasks-few : (S : State) (list : List KoidCounts) (x : ℕ) → AreKoidCounts S list → ((y : ℕ) → 2 ^ 32 - 2 ≤ y → row S (key.Object y) ≡ None) → ((numbers_at list x).jobs < 2 ^ 32 - 1) × ((numbers_at list x).processes < 2 ^ 32 - 1)
tasks-few S list x koid_counts low =
    let jobs : total (job_by x) S ≤ 2 ^ 32 - 2 = total-below (job_by x) (job-by-object x) (λ y r. bit-small (is_child_job_of x (key.Object y) r)) (2 ^ 32 - 2) S low in
    let processes : total (process_by x) S ≤ 2 ^ 32 - 2 = total-below (process_by x) (process-by-object x) (λ y r. bit-small (is_child_process_of x (key.Object y) r)) (2 ^ 32 - 2) S low in
    subst (λ (n : KoidCounts). (n.jobs < 2 ^ 32 - 1) × (n.processes < 2 ^ 32 - 1)) (sym (koid_counts x)) (omega arith, omega arith)

-- what the row under a key gives is part of the numbers
pub given-there : (S : State) (k : RowKey) (x : ℕ) → (given_if x k (row S k)).named ≤ total (named_by x) S
given-there S k x = omega (arith, share-within (named_by x) S k, named-share x k (row S k))

pub jobs-there : (S : State) (k : RowKey) (x : ℕ) → (given_if x k (row S k)).jobs ≤ total (job_by x) S
jobs-there S k x = omega (arith, share-within (job_by x) S k, jobs-share x k (row S k))

pub processes-there : (S : State) (k : RowKey) (x : ℕ) → (given_if x k (row S k)).processes ≤ total (process_by x) S
processes-there S k x = omega (arith, share-within (process_by x) S k, processes-share x k (row S k))

-- ---- rows count for koids that have numbers

below : (x n : ℕ) → (n ≤ x → ⊥) → nat_lt x n ≡ true
below x n h = lt-ltb x n (omega arith)

-- from n on no koid is counted for
abbrev pub Beyond : ℕ → (ℕ → KoidCounts) → Type 0
Beyond n numbers = (x : ℕ) → n ≤ x → numbers x ≡ none_given

module _ (n : ℕ) where
  one_here : (b : Bool) → b ≡ true → cond {A = ℕ} b 1 0 ≡ 1
  one_here true e = refl
  one_here false e = cc

  entry-within : (p h : ℕ) (held : Held) → Beyond n (λ x. given x (key.Entry p h) (rows.Entry held)) → nat_lt held.koid n ≡ true
  entry-within p h held none =
      below held.koid n (λ le.
      let zero : cond {A = ℕ} (held.koid == held.koid) 1 0 ≡ 0 = ap (λ (m : KoidCounts). m.named) (none held.koid le) in
      let one : cond {A = ℕ} (held.koid == held.koid) 1 0 ≡ 1 = one_here _ (eq-eqb held.koid held.koid refl) in
      absurd (omega arith))

  message-within : (e m : ℕ) (message : MessageContent) → Beyond n (λ x. given x (key.Msg e m) (rows.Msg message)) → list_all (λ (held : Held). nat_lt held.koid n) message.handles ≡ true
  message-within e m message none =
      list_all-from_AllPass _ message.handles (λ i d p.
      below (get_or message.handles i d).koid n (λ le.
      let x : ℕ = (get_or message.handles i d).koid in
      let zero : count_by (λ (held : Held). held.koid == x) message.handles ≡ 0 = ap (λ (m : KoidCounts). m.named) (none x le) in
      let more : count_by (λ (held : Held). held.koid == x) (take i message.handles) + 1 ≤ count_by (λ (held : Held). held.koid == x) message.handles = named_next message.handles i x d p refl in
      absurd (omega arith)))

  task-within : (y : ℕ) (o : ObjectRow) (job process : Bool) → is_live_job o ≡ job → is_live_process o ≡ process → Beyond n (λ x. given x (key.Object y) (rows.Object o)) → cond (job || process) (nat_lt o.link n) true ≡ true
  task-within y o true process at_job at_process none =
      below o.link n (λ le.
      let zero : cond {A = ℕ} (is_live_job o && (o.link == o.link)) 1 0 ≡ 0 = ap (λ (m : KoidCounts). m.jobs) (none o.link le) in
      let one : cond {A = ℕ} (is_live_job o && (o.link == o.link)) 1 0 ≡ 1 = one_here _ (and_both _ _ at_job (eq-eqb o.link o.link refl)) in
      absurd (omega arith))
  task-within y o false true at_job at_process none =
      below o.link n (λ le.
      let zero : cond {A = ℕ} (is_live_process o && (o.link == o.link)) 1 0 ≡ 0 = ap (λ (m : KoidCounts). m.processes) (none o.link le) in
      let one : cond {A = ℕ} (is_live_process o && (o.link == o.link)) 1 0 ≡ 1 = one_here _ (and_both _ _ at_process (eq-eqb o.link o.link refl)) in
      absurd (omega arith))
  task-within y o false false at_job at_process none = refl

pub given-within : (n : ℕ) (k : RowKey) (r : Row) → Beyond n (λ x. given x k r) → counts_within n k r ≡ true
given-within n (key.Entry p h) (rows.Entry held) none = entry-within n p h held none
given-within n (key.Msg e m) (rows.Msg message) none = message-within n e m message none
given-within n (key.Object y) (rows.Object o) none = task-within n y o (is_live_job o) (is_live_process o) refl refl none
given-within n key.Counters r none = refl
given-within n (key.Packet _ _) r none = refl
given-within n (key.Wait _) r none = refl
given-within n (key.Entry _ _) _ none = refl
given-within n (key.Msg _ _) _ none = refl
given-within n (key.Object _) _ none = refl

-- what stands counts within the numbers that are kept
pub stands-within : (S : State) (list : List KoidCounts) (k : RowKey) → AreKoidCounts S list → counts_within_if (length list) k (row S k) ≡ true
stands-within S list k koid_counts = here (row S k) refl
  where
    here : (o : Option Row) → row S k ≡ o → counts_within_if (length list) k o ≡ true
    here None e = refl
    here (Some r) e =
        given-within (length list) k r (λ x le.
        let none : numbers_of S x ≡ none_given = sym (koid_counts x) ∙ get_or_past list x none_given le in
        let named = ap (λ (n : KoidCounts). n.named) none in
        let jobs = ap (λ (n : KoidCounts). n.jobs) none in
        let processes = ap (λ (n : KoidCounts). n.processes) none in
        let a : (given x k r).named ≤ total (named_by x) S = subst (λ o. (given_if x k o).named ≤ total (named_by x) S) e (given-there S k x) in
        let b : (given x k r).jobs ≤ total (job_by x) S = subst (λ o. (given_if x k o).jobs ≤ total (job_by x) S) e (jobs-there S k x) in
        let c : (given x k r).processes ≤ total (process_by x) S = subst (λ o. (given_if x k o).processes ≤ total (process_by x) S) e (processes-there S k x) in
        same_numbers (given x k r) none_given (omega arith) (omega arith) (omega arith))

-- ---- an exchange: raised by the row that came, lowered by the row that went

pub record IsPart (part whole : KoidCounts) : Type 0 where
  pub named : part.named ≤ whole.named
  pub jobs : part.jobs ≤ whole.jobs
  pub processes : part.processes ≤ whole.processes

module _ (S : State) (k : RowKey) (came went : Option Row) (is_went : went ≡ row S k) (old raised : List KoidCounts) (koid_counts : AreKoidCounts S old) (up : (x : ℕ) → numbers_at raised x ≡ plus (numbers_at old x) (given_if x k came)) where
  raised-over : (x : ℕ) → numbers_at raised x ≡ plus (numbers_of S x) (given_if x k came)
  raised-over x = up x ∙ ap (λ n. plus n (given_if x k came)) (koid_counts x)

  pub went-there : (x : ℕ) → IsPart (given_if x k went) (numbers_at raised x)
  went-there x =
      let all : IsPart (given_if x k (row S k)) (plus (numbers_of S x) (given_if x k came)) = record {
        named = omega (arith, given-there S k x);
        jobs = omega (arith, jobs-there S k x);
        processes = omega (arith, processes-there S k x);
      } in
      subst (λ n. IsPart (given_if x k went) n) (sym (raised-over x)) (subst (λ o. IsPart (given_if x k o) (plus (numbers_of S x) (given_if x k came))) (sym is_went) all)

  pub koid_counts-exchanged : (T : State) (new : List KoidCounts) → T ≡ put S k came → ((x : ℕ) → plus (numbers_at new x) (given_if x k went) ≡ numbers_at raised x) → AreKoidCounts T new
  koid_counts-exchanged T new is_put down =
      subst (λ U. AreKoidCounts U new) (sym is_put) (koid_counts-put S k came old raised new koid_counts up (λ x. ap (λ o. plus (numbers_at new x) (given_if x k o)) (sym is_went) ∙ down x))

pub names_few-exchanged : (S T : State) (k : RowKey) (came : Option Row) → T ≡ put S k came → NamesFew S → ((x : ℕ) → (given_if x k came).named ≤ 64) → NamesFew T
names_few-exchanged S T k came is_put few new = subst NamesFew (sym is_put) (names_few-put S k came few new)

-- ---- the state of counters alone

pub numbers-hollow : (x : ℕ) → numbers_of hollow x ≡ none_given
unfolding total hollow put
numbers-hollow x = refl

pub koid_counts-hollow : (list : List KoidCounts) → length list ≡ 0 → AreKoidCounts hollow list
koid_counts-hollow list empty x = get_or_past list x none_given (omega arith) ∙ sym (numbers-hollow x)

pub names_few-hollow : NamesFew hollow
names_few-hollow x k r e =
    let none : total (named_by x) hollow ≡ 0 = ap (λ (n : KoidCounts). n.named) (numbers-hollow x) in
    let le : (given x k r).named ≤ total (named_by x) hollow = subst (λ o. (given_if x k o).named ≤ total (named_by x) hollow) e (given-there hollow k x) in
    omega arith
