-- Records and exchanges: what a record holds, that putting it back restores, and that exchanging back restores.
use Rattle.std.proofs.Common.{◌≡◌, Bool, true, false, cond, not, ◌&&◌, ◌||◌, T, List, [], ◌∷◌, map, filter, Option, Some, None, is_some, refl, sym, ap, ◌∙◌, unwrap_or, ◌↔◌}
use Rattle.std.specs.Ordering.{eq_by_cmp}
use Rattle.std.specs.FinMap.Entries as entries
use Rattle.std.specs.List.{list_any, AllByRecursion, IsDistinct}
use Rattle.zt_rows.specs.declared.keys.RowKey.{RowKey}
use Rattle.zt_rows.specs.declared.rows.Row.{Row}
use Rattle.zt_rows.specs.Keys.{rowkey_cmp, rowkey_eq}
use Rattle.zt_rows.specs.ProofsOnly.KeyOrder.{rowkey_cmp_total, rowkey_cmp-equal, rowkey_eq-cmp, rowkey_eq-self, rowkey_eq-equal, rowkey_eq-laws}
use Rattle.zt_rows.specs.Same.{row_eq}
use Rattle.zt_rows.specs.ProofsOnly.SameRows.{row_eq-decides}
use Rattle.zt_rows.specs.State.{State, row}
use Rattle.zt_rows.specs.Change.{keys, over, keys_of_both, option_row_eq, differ_at, changed, rows_under, before, with_rows, rows_at, exchange}
use Rattle.zt_rows.specs.Path.{records_of, forth_of, end_of, exchange_back, exchange_forth}
use Rattle.zt_rows.proofs.StateLaws.{row-put, row-rows, same_state}

-- the rows of a record: none where the key is not listed
abbrev pub Rows : Type 0
Rows = List (RowKey × Option Row)

abbrev pub among : RowKey → List RowKey → Bool
among q ks = list_any (rowkey_eq q) ks

-- ---- keys

among-tied : (q : RowKey) (ks : List RowKey) → list_any (eq_by_cmp rowkey_cmp q) ks ≡ among q ks
among-tied q ks = λ i. list_any (λ x. rowkey_eq-cmp q x i) ks

pub among-keys : (S : State) (q : RowKey) → is_some (row S q) ≡ among q (keys S)
among-keys S q = ap is_some (row-rows S q) ∙ entries.is_some-find rowkey_cmp q S.rows ∙ among-tied q (keys S)

filter-step : (p : RowKey → Bool) (q k : RowKey) (ks : List RowKey) (b : Bool) → p k ≡ b → among q (filter p ks) ≡ (p q && among q ks) → among q (cond b (k ∷ filter p ks) (filter p ks)) ≡ (p q && (rowkey_eq q k || among q ks))
filter-step p q k ks true is rest =
    elim (rowkey_eq q k) as (λ b. rowkey_eq q k ≡ b → (b || among q (filter p ks)) ≡ (p q && (b || among q ks))) [
      | true ↦ λ e. sym (ap (λ x. x && true) (ap p (rowkey_eq-equal q k e) ∙ is))
      | false ↦ λ e. rest
    ] refl
filter-step p q k ks false is rest =
    elim (rowkey_eq q k) as (λ b. rowkey_eq q k ≡ b → among q (filter p ks) ≡ (p q && (b || among q ks))) [
      | true ↦ λ e.
          let no : p q ≡ false = ap p (rowkey_eq-equal q k e) ∙ is in
          rest ∙ ap (λ x. x && among q ks) no ∙ sym (ap (λ x. x && true) no)
      | false ↦ λ e. rest
    ] refl

none_among : (b : Bool) → false ≡ (b && false)
none_among true = refl
none_among false = refl

pub among-filter : (p : RowKey → Bool) (q : RowKey) (ks : List RowKey) → among q (filter p ks) ≡ (p q && among q ks)
among-filter p q [] = none_among (p q)
among-filter p q (k ∷ ks) = filter-step p q k ks (p k) refl (among-filter p q ks)

-- ---- a list of keys with the rows of a state

pub find-rows_under : (S : State) (q : RowKey) (ks : List RowKey) → entries.find rowkey_cmp q (rows_under S ks) ≡ cond (among q ks) (Some (row S q)) None
find-rows_under S q [] = refl
find-rows_under S q (k ∷ ks) =
    ap (λ b. cond b (Some (row S k)) (entries.find rowkey_cmp q (rows_under S ks))) (rowkey_eq-cmp q k)
    ∙ elim (rowkey_eq q k) as (λ b. rowkey_eq q k ≡ b → ◌≡◌ {A = Option (Option Row)} (cond b (Some (row S k)) (entries.find rowkey_cmp q (rows_under S ks))) (cond (b || among q ks) (Some (row S q)) None)) [
      | true ↦ λ e. ap (λ x. Some (row S x)) (sym (rowkey_eq-equal q k e))
      | false ↦ λ e. find-rows_under S q ks
    ] refl

-- ---- the keys of both states

either : Option Row → Option Row → Option Row
either (Some r) o = Some r
either None o = o

either-cond : (b : Bool) (r : Row) (o t : Option Row) → cond b (Some r) (either o t) ≡ either (cond b (Some r) o) t
unfolding either
either-cond true r o t = refl
either-cond false r o t = refl

row-over : (es : List (RowKey × Row)) (S : State) (q : RowKey) → row (over es S) q ≡ either (entries.find rowkey_cmp q es) (row S q)
unfolding either
row-over [] S q = refl
row-over (e ∷ es) S q =
    row-put (over es S) e.0 (Some e.1) q
    ∙ ap (λ b. cond b (Some e.1) (row (over es S) q)) (sym (rowkey_eq-cmp q e.0))
    ∙ ap (cond (eq_by_cmp rowkey_cmp q e.0) (Some e.1)) (row-over es S q)
    ∙ either-cond (eq_by_cmp rowkey_cmp q e.0) e.1 (entries.find rowkey_cmp q es) (row S q)

among-both : (S T : State) (q : RowKey) → among q (keys_of_both S T) ≡ is_some (either (row S q) (row T q))
unfolding keys_of_both
among-both S T q =
    sym (among-keys (over S.rows T) q) ∙ ap is_some (row-over S.rows T q) ∙ ap (λ o. is_some (either o (row T q))) (sym (row-rows S q))

seen_where_differ : (a b : Option Row) → (not (option_row_eq a b) && is_some (either a b)) ≡ not (option_row_eq a b)
unfolding either
seen_where_differ (Some a) (Some b) = twice (not (row_eq a b))
  where
    twice : (x : Bool) → (x && true) ≡ x
    twice true = refl
    twice false = refl
seen_where_differ (Some a) None = refl
seen_where_differ None (Some b) = refl
seen_where_differ None None = refl

pub among-changed : (S T : State) (q : RowKey) → among q (changed S T) ≡ differ_at S T q
unfolding changed
among-changed S T q =
    among-filter (differ_at S T) q (keys_of_both S T)
    ∙ ap (λ b. differ_at S T q && b) (among-both S T q)
    ∙ seen_where_differ (row S q) (row T q)

pub find-before : (S T : State) (q : RowKey) → entries.find rowkey_cmp q (before S T) ≡ cond (differ_at S T q) (Some (row S q)) None
unfolding before
find-before S T q =
    find-rows_under S q (changed S T) ∙ ap (λ b. cond b (Some (row S q)) None) (among-changed S T q)

-- ---- the test of rows is exact

pub same_rows_here : (a b : Option Row) → option_row_eq a b ≡ true → a ≡ b
same_rows_here (Some a) (Some b) e = ap Some ((row_eq-decides a b).0 e)
same_rows_here None None e = refl
same_rows_here (Some a) None e = cc
same_rows_here None (Some b) e = cc

pub option_row_eq-self : (a : Option Row) → option_row_eq a a ≡ true
option_row_eq-self (Some a) = (row_eq-decides a a).1 refl
option_row_eq-self None = refl

not_true : (b : Bool) → not b ≡ false → b ≡ true
not_true true e = refl
not_true false e = sym e

pub same_where_not_differ : (S T : State) (q : RowKey) → differ_at S T q ≡ false → row S q ≡ row T q
same_where_not_differ S T q e = same_rows_here (row S q) (row T q) (not_true _ e)

turned_eq : (a b : Option Row) → option_row_eq a b ≡ option_row_eq b a
turned_eq (Some a) (Some b) = turn (row_eq a b) (row_eq b a) refl refl
  where
    turn : (x y : Bool) → row_eq a b ≡ x → row_eq b a ≡ y → x ≡ y
    turn true true p q = refl
    turn true false p q = sym ((row_eq-decides b a).1 (sym ((row_eq-decides a b).0 p))) ∙ q
    turn false true p q = sym p ∙ (row_eq-decides a b).1 (sym ((row_eq-decides b a).0 q))
    turn false false p q = refl
turned_eq (Some a) None = refl
turned_eq None (Some b) = refl
turned_eq None None = refl

pub differ-turned : (S T : State) (q : RowKey) → differ_at S T q ≡ differ_at T S q
differ-turned S T q = ap not (turned_eq (row S q) (row T q))

-- ---- the order of a record

both : (a b : Bool) → T a → T b → T (a && b)
both true b p q = q
both false b p q = p

first : (a b : Bool) → T (a && b) → T a
first true b p = tt
first false b p = p

second : (a b : Bool) → T (a && b) → T b
second true b p = p
second false b p = absurd p

below-under : (S : State) (p : RowKey → Bool) (x : RowKey) (es : List (RowKey × Row)) → T (entries.below_all rowkey_cmp x es) → T (entries.below_all rowkey_cmp x (rows_under S (filter p (map (λ e. e.0) es))))
below-under S p x [] h = tt
below-under S p x (e ∷ es) h =
    elim (p e.0) as (λ b. T (entries.below_all rowkey_cmp x (rows_under S (cond b (e.0 ∷ filter p (map (λ e. e.0) es)) (filter p (map (λ e. e.0) es)))))) [
      | true ↦ both _ _ (first _ _ h) (below-under S p x es (second _ _ h))
      | false ↦ below-under S p x es (second _ _ h)
    ]

pub sorted-under : (S : State) (p : RowKey → Bool) (es : List (RowKey × Row)) → T (entries.is_sorted rowkey_cmp es) → T (entries.is_sorted rowkey_cmp (rows_under S (filter p (map (λ e. e.0) es))))
sorted-under S p [] h = tt
sorted-under S p (e ∷ es) h =
    elim (p e.0) as (λ b. T (entries.is_sorted rowkey_cmp (rows_under S (cond b (e.0 ∷ filter p (map (λ e. e.0) es)) (filter p (map (λ e. e.0) es)))))) [
      | true ↦ both _ _ (below-under S p e.0 es (first _ _ h)) (sorted-under S p es (second _ _ h))
      | false ↦ sorted-under S p es (second _ _ h)
    ]

pub sorted-changed : (S U V : State) → T (entries.is_sorted rowkey_cmp (rows_under S (changed U V)))
unfolding changed keys_of_both
sorted-changed S U V = sorted-under S (differ_at U V) (over U.rows V).rows (over U.rows V).sorted

pub sorted-before : (S U : State) → T (entries.is_sorted rowkey_cmp (before S U))
unfolding before
sorted-before S U = sorted-changed S S U

-- a list of rows in order that holds what the record holds is the record
pub is_before : (S U : State) (es : Rows) → T (entries.is_sorted rowkey_cmp es) → ((q : RowKey) → entries.find rowkey_cmp q es ≡ cond (differ_at S U q) (Some (row S q)) None) → es ≡ before S U
is_before S U es sorted is =
    entries.same_entries rowkey_cmp rowkey_cmp_total rowkey_cmp-equal es (before S U) sorted (sorted-before S U) (λ q. is q ∙ sym (find-before S U q))

-- ---- what an exchange leaves

taken : (b : Bool) (r : Option Row) (o : Option (Option Row)) (d : Option Row) → cond b r (unwrap_or o d) ≡ unwrap_or (cond b (Some r) o) d
taken true r o d = refl
taken false r o d = refl

pub row-with_rows : (S : State) (R : Rows) (q : RowKey) → row (with_rows S R) q ≡ unwrap_or (entries.find rowkey_cmp q R) (row S q)
row-with_rows S [] q = refl
row-with_rows S (e ∷ es) q =
    row-put (with_rows S es) e.0 e.1 q
    ∙ ap (λ b. cond b e.1 (row (with_rows S es) q)) (sym (rowkey_eq-cmp q e.0))
    ∙ ap (cond (eq_by_cmp rowkey_cmp q e.0) e.1) (row-with_rows S es q)
    ∙ taken (eq_by_cmp rowkey_cmp q e.0) e.1 (entries.find rowkey_cmp q es) (row S q)

-- what was before, put back, restores the state
pub with_rows-before : (S U : State) → with_rows U (before S U) ≡ S
with_rows-before S U =
    same_state _ _ (λ q. row-with_rows U (before S U) q ∙ ap (λ o. unwrap_or o (row U q)) (find-before S U q) ∙ back q (differ_at S U q) refl)
  where
    back : (q : RowKey) (b : Bool) → differ_at S U q ≡ b → unwrap_or (cond b (Some (row S q)) None) (row U q) ≡ row S q
    back q true e = refl
    back q false e = sym (same_where_not_differ S U q e)

rows_at-under : (U S : State) (ks : List RowKey) → rows_at U (rows_under S ks) ≡ rows_under U ks
rows_at-under U S [] = refl
rows_at-under U S (k ∷ ks) = ap (λ es. (k, row U k) ∷ es) (rows_at-under U S ks)

rows_at-changed : (S U : State) → rows_at U (before S U) ≡ rows_under U (changed S U)
unfolding before
rows_at-changed S U = rows_at-under U S (changed S U)

-- the record of the one state against the other becomes that of the other against the one
pub rows_at-before : (S U : State) → rows_at U (before S U) ≡ before U S
rows_at-before S U =
    rows_at-changed S U
    ∙ is_before U S (rows_under U (changed S U)) (sorted-changed U S U) (λ q.
    find-rows_under U q (changed S U) ∙ ap (λ b. cond b (Some (row U q)) None) (among-changed S U q ∙ differ-turned S U q))

pub exchange-before : (S U : State) → ◌≡◌ {A = State × Rows} (exchange U (before S U)) (S, before U S)
exchange-before S U = λ i. (with_rows-before S U i, rows_at-before S U i)

-- ---- exchanging twice

find-rows_at : (S : State) (R : Rows) (q : RowKey) → entries.find rowkey_cmp q (rows_at S R) ≡ cond (is_some (entries.find rowkey_cmp q R)) (Some (row S q)) None
find-rows_at S [] q = refl
find-rows_at S (e ∷ es) q =
    elim (eq_by_cmp rowkey_cmp q e.0) as (λ b. eq_by_cmp rowkey_cmp q e.0 ≡ b → ◌≡◌ {A = Option (Option Row)} (cond b (Some (row S e.0)) (entries.find rowkey_cmp q (rows_at S es))) (cond (is_some (cond b (Some e.1) (entries.find rowkey_cmp q es))) (Some (row S q)) None)) [
      | true ↦ λ t. ap (λ k. Some (row S k)) (sym (rowkey_eq-equal q e.0 (sym (rowkey_eq-cmp q e.0) ∙ t)))
      | false ↦ λ t. find-rows_at S es q
    ] refl

pub with_rows-twice : (S : State) (R : Rows) → with_rows (with_rows S R) (rows_at S R) ≡ S
with_rows-twice S R =
    same_state _ _ (λ q. row-with_rows (with_rows S R) (rows_at S R) q ∙ ap (λ o. unwrap_or o (row (with_rows S R) q)) (find-rows_at S R q)
    ∙ ap (unwrap_or (cond (is_some (entries.find rowkey_cmp q R)) (Some (row S q)) None)) (row-with_rows S R q)
    ∙ here (entries.find rowkey_cmp q R) (row S q))
  where
    here : (o : Option (Option Row)) (r : Option Row) → unwrap_or (cond (is_some o) (Some r) None) (unwrap_or o r) ≡ r
    here (Some w) r = refl
    here None r = refl

abbrev keys_of : Rows → List RowKey
keys_of R = map (λ e. e.0) R

abbrev Found : Rows → RowKey × Option Row → Type 0
Found R e = entries.find rowkey_cmp e.0 R ≡ Some e.1

later : (e : RowKey × Option Row) (es fs : Rows) → AllByRecursion (λ k. rowkey_eq e.0 k ≡ false) (keys_of fs) → AllByRecursion (Found es) fs → AllByRecursion (Found (e ∷ es)) fs
later e es [] apart all = tt
later e es (f ∷ fs) apart all =
    (ap (λ b. cond b (Some e.1) (entries.find rowkey_cmp f.0 es)) (rowkey_eq-cmp f.0 e.0 ∙ rowkey_eq-laws.symm f.0 e.0 ∙ apart.0) ∙ all.0, later e es fs apart.1 all.1)

all_found : (R : Rows) → IsDistinct rowkey_eq (keys_of R) → AllByRecursion (Found R) R
unfolding IsDistinct
all_found [] d = tt
all_found (e ∷ es) d =
    (ap (λ b. cond b (Some e.1) (entries.find rowkey_cmp e.0 es)) (rowkey_eq-cmp e.0 e.0 ∙ rowkey_eq-self e.0), later e es es d.0 (all_found es d.1))

rows_at-found : (S : State) (R es : Rows) → AllByRecursion (Found R) es → rows_at (with_rows S R) (rows_at S es) ≡ es
rows_at-found S R [] all = refl
rows_at-found S R (e ∷ es) all =
    let r : row (with_rows S R) e.0 ≡ e.1 = row-with_rows S R e.0 ∙ ap (λ o. unwrap_or o (row S e.0)) all.0 in
    λ i. (e.0, r i) ∷ rows_at-found S R es all.1 i

-- to exchange a record with distinct keys twice changes nothing
pub exchange-twice : (S : State) (R : Rows) → IsDistinct rowkey_eq (keys_of R) → ◌≡◌ {A = State × Rows} (exchange (with_rows S R) (rows_at S R)) (S, R)
exchange-twice S R d = λ i. (with_rows-twice S R i, rows_at-found S R R (all_found R d) i)

-- ---- a path, back and forth

pub back_over : (S : State) (Us : List State) → ◌≡◌ {A = State × List Rows} (exchange_back (end_of S Us) (records_of S Us)) (S, forth_of S Us)
back_over S [] = refl
back_over S (U ∷ Us) =
    let rest = back_over U Us in
    let here : ◌≡◌ {A = State × Rows} (exchange (exchange_back (end_of U Us) (records_of U Us)).0 (before S U)) (S, before U S) =
    ap (λ (p : State × List Rows). exchange p.0 (before S U)) rest ∙ exchange-before S U in
    λ i. ((here i).0, (here i).1 ∷ (rest i).1)

pub forth_over : (S : State) (Us : List State) → ◌≡◌ {A = State × List Rows} (exchange_forth S (forth_of S Us)) (end_of S Us, records_of S Us)
forth_over S [] = refl
forth_over S (U ∷ Us) =
    let here : ◌≡◌ {A = State × Rows} (exchange S (before U S)) (U, before S U) = exchange-before U S in
    let rest : ◌≡◌ {A = State × List Rows} (exchange_forth (exchange S (before U S)).0 (forth_of U Us)) (end_of U Us, records_of U Us) =
    ap (λ (p : State × Rows). exchange_forth p.0 (forth_of U Us)) here ∙ forth_over U Us in
    λ i. ((rest i).0, (here i).1 ∷ (rest i).1)

-- exchanging back over the records of a path restores its first state
pub restores : (S : State) (Us : List State) → (exchange_back (end_of S Us) (records_of S Us)).0 ≡ S
restores S Us = ap (λ (p : State × List Rows). p.0) (back_over S Us)

pub exact_row_eq : (a b : Row) → (row_eq a b ≡ true) ↔ (a ≡ b)
exact_row_eq a b = row_eq-decides a b

pub ruleset exact_laws = (exact_row_eq)

pub ruleset twice_laws = (exchange-twice)

pub ruleset before_laws = (exchange-before)

pub ruleset path_laws = (restores)

pub ruleset turned_laws = (back_over, forth_over)
