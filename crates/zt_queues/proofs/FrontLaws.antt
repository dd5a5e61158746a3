-- The front of a queue, found by the least number under which an endpoint has a row; and the queue without it.
use Rattle.std.proofs.Common.{◌≡◌, ◌<◌, ℕ, Bool, true, false, not, cond, ◌&&◌, T, List, [], ◌∷◌, inl, refl, sym, ap, ◌∙◌, subst, arith}
use Rattle.std.specs.Prelude.{Option, None, Some, IsSome, ◌==◌, if◌then◌else◌}
use Rattle.std.specs.List.{filter_map, cons_option}
use Rattle.std.specs.FinMap.Entries as entries
use Rattle.std.specs.Ordering.{eq_by_cmp, is_lt, nat_cmp, ordering_then}
use Rattle.std.specs.Cmp.{tied_itself}
use Rattle.std.proofs.lemmas.Bool.{eqb-true, eq-eqb}
use Rattle.std.proofs.lemmas.Bool.Decides.{nat_tests}
use Rattle.zt_rows.specs.declared.keys.RowKey.{RowKey}
use Rattle.zt_rows.specs.declared.keys.RowKey.TheVariants as key
use Rattle.zt_rows.specs.declared.rows.Row.{Row}
use Rattle.zt_rows.specs.declared.rows.Row.TheVariants as rows
use Rattle.zt_rows.specs.Contents.{MessageContent}
use Rattle.zt_rows.specs.Keys.{rowkey_cmp, rowkey_eq}
use Rattle.zt_rows.specs.ProofsOnly.KeyOrder.{rowkey_cmp_total, rowkey_eq-cmp, rowkey_eq-self, rowkey_eq-equal}
use Rattle.zt_rows.specs.State.{State, row, put}
use Rattle.zt_rows.specs.Reads.{as_message, message, queued, queue}
use Rattle.zt_rows.specs.Room.{SuitsKey}
use Rattle.zt_rows.specs.Tests.{first}
use Rattle.zt_rows.proofs.ReadLaws.{some_one}
use Rattle.zt_rows.proofs.RowLaws.{In, in-filter_map, in-row}
use Rattle.zt_cells.specs.FirstNumber.{IsFirst}

-- ---- tests

left_of : (a b : Bool) → T (a && b) → T a
left_of true b h = tt
left_of false b h = h

right_of : (a b : Bool) → T (a && b) → T b
right_of true b h = h
right_of false b h = absurd h

it_holds : (b : Bool) → T b → b ≡ true
it_holds true h = refl
it_holds false h = absurd h

not_tied : (q k : RowKey) → T (is_lt (rowkey_cmp k q)) → rowkey_eq q k ≡ false
not_tied q k below =
    elim (rowkey_eq q k) as (λ b. rowkey_eq q k ≡ b → b ≡ false) [
      | true ↦ λ t.
          let less : is_lt (rowkey_cmp k k) ≡ true = ap (λ z. is_lt (rowkey_cmp k z)) (sym (rowkey_eq-equal q k t)) ∙ it_holds _ below in
          let tie : is_lt (rowkey_cmp k k) ≡ false = ap is_lt (tied_itself rowkey_cmp_total k) in
          cc
      | false ↦ λ _. refl
    ] refl

apart-from : (q k : RowKey) → eq_by_cmp rowkey_cmp k q ≡ false → rowkey_eq q k ≡ false
apart-from q k h =
    elim (rowkey_eq q k) as (λ b. rowkey_eq q k ≡ b → b ≡ false) [
      | true ↦ λ t.
          let tie : eq_by_cmp rowkey_cmp k q ≡ true = ap (λ z. eq_by_cmp rowkey_cmp k z) (rowkey_eq-equal q k t) ∙ rowkey_eq-cmp k k ∙ rowkey_eq-self k in
          cc
      | false ↦ λ _. refl
    ] refl

lower_number : (e j n : ℕ) → is_lt (ordering_then (nat_cmp e e) (nat_cmp j n)) ≡ true → j < n
lower_number e j n h = grind (arith, nat_tests)

-- ---- one row of a queue

if_some : {A : Type 0} (b : Bool) (v w : A) → (if b then Some v else None) ≡ Some w → (b ≡ true) × (v ≡ w)
if_some true v w e = (refl, some_one v w e)
if_some false v w e = cc

-- what a row gives to the queue
pub queued-some : (e n : ℕ) (m : MessageContent) (k : RowKey) (r : Row) → queued e (k, r) ≡ Some (n, m) → (k ≡ key.Msg e n) × (r ≡ rows.Msg m)
queued-some e n m (key.Msg f i) (rows.Msg c) h =
    let w = if_some (e == f) (i, c) (n, m) h in
    let owner : f ≡ e = sym (eqb-true e f w.0) in
    let number : i ≡ n = ap (λ (z : ℕ × MessageContent). z.0) w.1 in
    let content : c ≡ m = ap (λ (z : ℕ × MessageContent). z.1) w.1 in
    (λ j. key.Msg (owner j) (number j), ap rows.Msg content)
queued-some e n m _ _ h = cc

pub queued-here : (e n : ℕ) (m : MessageContent) → queued e (key.Msg e n, rows.Msg m) ≡ Some (n, m)
queued-here e n m = ap (λ b. if b then Some (n, m) else None) (eq-eqb e e refl)

-- ---- what stands under a key

abbrev find_row : RowKey → List (RowKey × Row) → Option Row
find_row k es = entries.find rowkey_cmp k es

found-head : (e : RowKey × Row) (es : List (RowKey × Row)) → find_row e.0 (e ∷ es) ≡ Some e.1
found-head e es = ap (λ b. cond b (Some e.1) (find_row e.0 es)) (rowkey_eq-cmp e.0 e.0 ∙ rowkey_eq-self e.0)

none-tail : (k : RowKey) (e : RowKey × Row) (es : List (RowKey × Row)) → find_row k (e ∷ es) ≡ None → find_row k es ≡ None
none-tail k e es h =
    elim (eq_by_cmp rowkey_cmp k e.0) as (λ b. cond b (Some e.1) (find_row k es) ≡ None → find_row k es ≡ None) [
      | true ↦ λ s. cc
      | false ↦ λ s. s
    ] h

-- a row found behind a key stands under a greater one
found-above : (x k : RowKey) (r : Row) (es : List (RowKey × Row)) → T (entries.below_all rowkey_cmp x es) → find_row k es ≡ Some r → T (is_lt (rowkey_cmp x k))
found-above x k r [] below h = cc
found-above x k r (e ∷ es) below h =
    elim (eq_by_cmp rowkey_cmp k e.0) as (λ b. eq_by_cmp rowkey_cmp k e.0 ≡ b → cond b (Some e.1) (find_row k es) ≡ Some r → T (is_lt (rowkey_cmp x k))) [
      | true ↦ λ t _. subst (λ z. T (is_lt (rowkey_cmp x z))) (sym (rowkey_eq-equal k e.0 (sym (rowkey_eq-cmp k e.0) ∙ t))) (left_of _ _ below)
      | false ↦ λ _ s. found-above x k r es (right_of _ _ below) s
    ] refl h

-- ---- along the rows

abbrev messages_of : ℕ → List (RowKey × Row) → List (ℕ × MessageContent)
messages_of x es = filter_map (queued x) es

module _ (x : ℕ) where
  -- where the endpoint has no row under any number, no row is in its queue
  not_queued : (e : RowKey × Row) (es : List (RowKey × Row)) → ((j : ℕ) → find_row (key.Msg x j) (e ∷ es) ≡ None) → queued x e ≡ None
  not_queued e es none =
      elim (queued x e) as (λ o. queued x e ≡ o → o ≡ None) [
        | None ↦ λ _. refl
        | Some v ↦ λ q.
            let is : e.0 ≡ key.Msg x v.0 = (queued-some x v.0 v.1 e.0 e.1 q).0 in
            let gone : find_row e.0 (e ∷ es) ≡ None = ap (λ k. find_row k (e ∷ es)) is ∙ none v.0 in
            let here : find_row e.0 (e ∷ es) ≡ Some e.1 = found-head e es in
            cc
      ] refl

  none-queued : (es : List (RowKey × Row)) → ((j : ℕ) → find_row (key.Msg x j) es ≡ None) → messages_of x es ≡ []
  none-queued [] none = refl
  none-queued (e ∷ es) none =
      ap (λ o. cons_option o (messages_of x es)) (not_queued e es none) ∙ none-queued es (λ j. none-tail (key.Msg x j) e es (none j))

module _ (x n : ℕ) (m : MessageContent) where
  abbrev stays : RowKey → Bool
  stays q = not (rowkey_eq q (key.Msg x n))

  abbrev rest : List (RowKey × Row) → List (RowKey × Row)
  rest es = entries.where_key rowkey_cmp stays es

  -- nothing that stands above the message goes with it
  all-stay : (es : List (RowKey × Row)) → T (entries.below_all rowkey_cmp (key.Msg x n) es) → rest es ≡ es
  all-stay [] below = refl
  all-stay (e ∷ es) below =
      ap (λ b. cond (not b) (e ∷ rest es) (rest es)) (not_tied e.0 (key.Msg x n) (left_of _ _ below))
      ∙ ap (λ l. e ∷ l) (all-stay es (right_of _ _ below))

  at-front : (es : List (RowKey × Row)) → T (entries.below_all rowkey_cmp (key.Msg x n) es) → messages_of x ((key.Msg x n, rows.Msg m) ∷ es) ≡ (n, m) ∷ messages_of x (rest ((key.Msg x n, rows.Msg m) ∷ es))
  at-front es below =
      ap (λ o. cons_option o (messages_of x es)) (queued-here x n m)
      ∙ ap (λ l. (n, m) ∷ messages_of x l) (sym (ap (λ b. cond (not b) ((key.Msg x n, rows.Msg m) ∷ rest es) (rest es)) (rowkey_eq-self (key.Msg x n)) ∙ all-stay es below))

  abbrev NoneLower : List (RowKey × Row) → Type 0
  NoneLower es = (j : ℕ) → j < n → find_row (key.Msg x j) es ≡ None

  -- a row before the first message is not in the queue
  passed : (e : RowKey × Row) (es : List (RowKey × Row)) → T (entries.below_all rowkey_cmp e.0 es) → find_row (key.Msg x n) es ≡ Some (rows.Msg m) → NoneLower (e ∷ es) → queued x e ≡ None
  passed e es below later none =
      elim (queued x e) as (λ o. queued x e ≡ o → o ≡ None) [
        | None ↦ λ _. refl
        | Some v ↦ λ q.
            let is : e.0 ≡ key.Msg x v.0 = (queued-some x v.0 v.1 e.0 e.1 q).0 in
            let above : T (is_lt (rowkey_cmp (key.Msg x v.0) (key.Msg x n))) = subst (λ k. T (is_lt (rowkey_cmp k (key.Msg x n)))) is (found-above e.0 (key.Msg x n) (rows.Msg m) es below later) in
            let gone : find_row e.0 (e ∷ es) ≡ None = ap (λ k. find_row k (e ∷ es)) is ∙ none v.0 (lower_number x v.0 n (it_holds _ above)) in
            let here : find_row e.0 (e ∷ es) ≡ Some e.1 = found-head e es in
            cc
      ] refl

  abbrev IsFront : List (RowKey × Row) → Type 0
  IsFront es = messages_of x es ≡ (n, m) ∷ messages_of x (rest es)

  before-front : (e : RowKey × Row) (es : List (RowKey × Row)) → T (entries.below_all rowkey_cmp e.0 es) → find_row (key.Msg x n) es ≡ Some (rows.Msg m) → NoneLower (e ∷ es) → eq_by_cmp rowkey_cmp (key.Msg x n) e.0 ≡ false → IsFront es → IsFront (e ∷ es)
  before-front e es below later none apart next =
      let no : queued x e ≡ None = passed e es below later none in
      let kept : rest (e ∷ es) ≡ e ∷ rest es = ap (λ b. cond (not b) (e ∷ rest es) (rest es)) (apart-from e.0 (key.Msg x n) apart) in
      ap (λ o. cons_option o (messages_of x es)) no
      ∙ next
      ∙ ap (λ o. (n, m) ∷ cons_option o (messages_of x (rest es))) (sym no)
      ∙ ap (λ l. (n, m) ∷ messages_of x l) (sym kept)

  front : (es : List (RowKey × Row)) → T (entries.is_sorted rowkey_cmp es) → find_row (key.Msg x n) es ≡ Some (rows.Msg m) → NoneLower es → IsFront es
  front [] sorted here none = cc
  front (e ∷ es) sorted here none =
      elim (eq_by_cmp rowkey_cmp (key.Msg x n) e.0) as (λ b. eq_by_cmp rowkey_cmp (key.Msg x n) e.0 ≡ b → cond b (Some e.1) (find_row (key.Msg x n) es) ≡ Some (rows.Msg m) → IsFront (e ∷ es)) [
        | true ↦ λ t s.
            let place : key.Msg x n ≡ e.0 = rowkey_eq-equal (key.Msg x n) e.0 (sym (rowkey_eq-cmp (key.Msg x n) e.0) ∙ t) in
            let value : rows.Msg m ≡ e.1 = sym (some_one e.1 (rows.Msg m) s) in
            let is : ◌≡◌ {A = RowKey × Row} (key.Msg x n, rows.Msg m) e = λ i. (place i, value i) in
            subst (λ (z : RowKey × Row). T (entries.below_all rowkey_cmp z.0 es) → IsFront (z ∷ es)) is (at-front es) (left_of _ _ sorted)
        | false ↦ λ t s. before-front e es (left_of _ _ sorted) s none t (front es (right_of _ _ sorted) s (λ j lower. none-tail (key.Msg x j) e es (none j lower)))
      ] refl here

  -- ---- without the front

  skipped : (e : RowKey × Row) (es : List (RowKey × Row)) → queued x e ≡ None → messages_of x (rest (e ∷ es)) ≡ messages_of x (rest es)
  skipped e es q =
      elim (stays e.0) as (λ b. messages_of x (cond b (e ∷ rest es) (rest es)) ≡ messages_of x (rest es)) [
        | true ↦ ap (λ o. cons_option o (messages_of x (rest es))) q
        | false ↦ refl
      ]

  front-goes : (es : List (RowKey × Row)) → T (entries.below_all rowkey_cmp (key.Msg x n) es) → messages_of x (rest ((key.Msg x n, rows.Msg m) ∷ es)) ≡ messages_of x es
  front-goes es below =
      ap (messages_of x) (ap (λ b. cond (not b) ((key.Msg x n, rows.Msg m) ∷ rest es) (rest es)) (rowkey_eq-self (key.Msg x n)) ∙ all-stay es below)

  behind-front : (es : List (RowKey × Row)) (later : List (ℕ × MessageContent)) → T (entries.is_sorted rowkey_cmp es) → messages_of x es ≡ (n, m) ∷ later → messages_of x (rest es) ≡ later
  behind-front [] later sorted h = cc
  behind-front (e ∷ es) later sorted h =
      elim (queued x e) as (λ o. queued x e ≡ o → cons_option o (messages_of x es) ≡ (n, m) ∷ later → messages_of x (rest (e ∷ es)) ≡ later) [
        | None ↦ λ q g. skipped e es q ∙ behind-front es later (right_of _ _ sorted) g
        | Some v ↦ λ q g.
            let one : v ≡ (n, m) = cc in
            let others : messages_of x es ≡ later = cc in
            let is = queued-some x n m e.0 e.1 (q ∙ ap Some one) in
            let pair : ◌≡◌ {A = RowKey × Row} (key.Msg x n, rows.Msg m) e = λ i. (sym is.0 i, sym is.1 i) in
            subst (λ (z : RowKey × Row). T (entries.below_all rowkey_cmp z.0 es) → messages_of x (rest (z ∷ es)) ≡ messages_of x es) pair (front-goes es) (left_of _ _ sorted) ∙ others
      ] refl h

-- ---- the queue of an endpoint

-- an endpoint without a row under any number has an empty queue
pub queue-empty : (S : State) (x : ℕ) → ((j : ℕ) → row S (key.Msg x j) ≡ None) → queue S x ≡ []
unfolding queue row
queue-empty S x none = none-queued x S.rows none

-- a message with no row of a lower number is the front of its queue, and the queue without it is the rest
pub queue-front : (S : State) (x n : ℕ) (m : MessageContent) → row S (key.Msg x n) ≡ Some (rows.Msg m) → ((j : ℕ) → j < n → row S (key.Msg x j) ≡ None) → queue S x ≡ (n, m) ∷ queue (put S (key.Msg x n) None) x
unfolding queue row put
queue-front S x n m here none = front x n m S.rows S.sorted here none

-- what a look for the least number says of the first message
pub first-none : (S : State) (x : ℕ) → IsFirst S (λ j. key.Msg x j) None → first (queue S x) ≡ None
first-none S x none = ap first (queue-empty S x none)

pub first-some : (S : State) (x n : ℕ) (m : MessageContent) → IsFirst S (λ j. key.Msg x j) (Some n) → row S (key.Msg x n) ≡ Some (rows.Msg m) → first (queue S x) ≡ Some (n, m)
first-some S x n m is here = ap first (queue-front S x n m here is.1)

-- under the least number there is a message
pub front-there : (S : State) (x n : ℕ) → IsFirst S (λ j. key.Msg x j) (Some n) → ((k : RowKey) → SuitsKey k (row S k)) → message S x n ≡ None → ⊥
front-there S x n is suited none = of (row S (key.Msg x n)) (suited (key.Msg x n)) is.0 none
  where
    of : (r : Option Row) → SuitsKey (key.Msg x n) r → IsSome r → as_message r ≡ None → ⊥
    of (Some (rows.Msg m)) fits some gone = cc
    of (Some (rows.Counters c)) fits some gone = cc
    of (Some (rows.Object o)) fits some gone = cc
    of (Some (rows.Entry h)) fits some gone = cc
    of (Some (rows.Packet p)) fits some gone = cc
    of (Some (rows.Wait w)) fits some gone = cc
    of None fits some gone = cc

-- a queue without its front is the rest of it
pub queue-behind : (S : State) (x n : ℕ) (m : MessageContent) (later : List (ℕ × MessageContent)) → queue S x ≡ (n, m) ∷ later → queue (put S (key.Msg x n) None) x ≡ later
unfolding queue put
queue-behind S x n m later h = behind-front x n m S.rows later S.sorted h

-- the first message of a queue stands under its key
pub queue-row : (S : State) (x n : ℕ) (m : MessageContent) (later : List (ℕ × MessageContent)) → queue S x ≡ (n, m) ∷ later → row S (key.Msg x n) ≡ Some (rows.Msg m)
unfolding queue
queue-row S x n m later h =
    let w = in-filter_map (queued x) (n, m) S.rows (subst (λ q. In (n, m) q) (sym h) (inl refl)) in
    let is = queued-some x n m w.0.0 w.0.1 w.2 in
    ap (row S) (sym is.0) ∙ in-row S w.0.0 w.0.1 w.1 ∙ ap Some is.1
