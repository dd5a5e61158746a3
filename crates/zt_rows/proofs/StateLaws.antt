-- What stands under a key after a row is put and after each row is changed; states are told apart by looks.
use Rattle.std.proofs.Common.{◌≡◌, Bool, true, false, cond, not, ◌&&◌, T, List, [], ◌∷◌, Option, Some, None, refl, sym, ap, ◌∙◌, subst, option_and_then}
use Rattle.std.specs.declared.cmp.Ordering.{Ordering}
use Rattle.std.specs.declared.cmp.Ordering.TheVariants.{Less, Equal, Greater}
use Rattle.std.specs.Ordering.{eq_by_cmp, is_lt, is_eq}
use Rattle.std.specs.FinMap.Entries as entries
use mathlib.Core.HLevel.{Σ_prop_path}
use lib.Dec.{T_prop}
use Rattle.zt_rows.specs.declared.keys.RowKey.{RowKey}
use Rattle.zt_rows.specs.declared.rows.Row.{Row}
use Rattle.zt_rows.specs.Keys.{rowkey_cmp, rowkey_eq}
use Rattle.zt_rows.specs.ProofsOnly.KeyOrder.{rowkey_cmp_total, rowkey_cmp-equal, rowkey_eq-cmp, rowkey_eq-self, rowkey_eq-equal}
use Rattle.zt_rows.specs.RowOrder.{changed_rows, kept}
use Rattle.zt_rows.specs.State.{State, row, put, change, nothing, state_of}

turned : {A : Type 0} (b : Bool) (x y : A) → cond (not b) x y ≡ cond b y x
turned true x y = refl
turned false x y = refl

pub row-put : (s : State) (k : RowKey) (r : Option Row) (q : RowKey) → row (put s k r) q ≡ cond (rowkey_eq q k) r (row s q)
unfolding row put
row-put s k (Some r) q =
    entries.find-put rowkey_cmp rowkey_cmp_total q k r s.rows ∙ ap (λ b. cond b (Some r) (entries.find rowkey_cmp q s.rows)) (rowkey_eq-cmp q k)
row-put s k None q =
    entries.find-where_key rowkey_cmp (λ x. not (rowkey_eq x k)) q (λ x e. ap (λ x. not (rowkey_eq x k)) (sym (rowkey_cmp-equal q x e))) s.rows
    ∙ turned (rowkey_eq q k) (entries.find rowkey_cmp q s.rows) None

pub row-put-same : (s : State) (k : RowKey) (r : Option Row) → row (put s k r) k ≡ r
row-put-same s k r = row-put s k r k ∙ ap (λ b. cond b r (row s k)) (rowkey_eq-self k)

pub row-put-other : (s : State) (k : RowKey) (r : Option Row) (q : RowKey) → rowkey_eq q k ≡ false → row (put s k r) q ≡ row s q
row-put-other s k r q e = row-put s k r q ∙ ap (λ b. cond b r (row s q)) e

-- states with the same rows are one
pub same_state : (s t : State) → ((k : RowKey) → row s k ≡ row t k) → s ≡ t
unfolding row
same_state s t is =
    let rows : s.rows ≡ t.rows = entries.same_entries rowkey_cmp rowkey_cmp_total rowkey_cmp-equal s.rows t.rows s.sorted t.sorted is in
    let pairs : ◌≡◌ {A = (es : List (RowKey × Row)) × T (entries.is_sorted rowkey_cmp es)} (s.rows, s.sorted) (t.rows, t.sorted) = Σ_prop_path (λ es. T_prop _) rows in
    λ i. record { rows = (pairs i).0; sorted = (pairs i).1 }

pub same_rows : (s t : State) → s.rows ≡ t.rows → s ≡ t
same_rows s t rows =
    let pairs : ◌≡◌ {A = (es : List (RowKey × Row)) × T (entries.is_sorted rowkey_cmp es)} (s.rows, s.sorted) (t.rows, t.sorted) = Σ_prop_path (λ es. T_prop _) rows in
    λ i. record { rows = (pairs i).0; sorted = (pairs i).1 }

pub row-nothing : (q : RowKey) → row nothing q ≡ None
unfolding row
row-nothing q = refl

pub row-state_of : (es : List (RowKey × Row)) (q : RowKey) → row (state_of es) q ≡ entries.find rowkey_cmp q es
row-state_of [] q = row-nothing q
row-state_of (e ∷ es) q =
    row-put (state_of es) e.0 (Some e.1) q
    ∙ ap (λ b. cond b (Some e.1) (row (state_of es) q)) (sym (rowkey_eq-cmp q e.0))
    ∙ ap (cond (eq_by_cmp rowkey_cmp q e.0) (Some e.1)) (row-state_of es q)

pub row-rows : (s : State) (q : RowKey) → row s q ≡ entries.find rowkey_cmp q s.rows
unfolding row
row-rows s q = refl

-- a list of rows in order is the rows of its state
pub rows-state_of : (es : List (RowKey × Row)) → T (entries.is_sorted rowkey_cmp es) → (state_of es).rows ≡ es
rows-state_of es h =
    let t : State = record { rows = es; sorted = h } in
    ap (λ (s : State). s.rows) (same_state (state_of es) t (λ q. row-state_of es q ∙ sym (row-rows t q)))

pub state_of-rows : (s : State) → state_of s.rows ≡ s
state_of-rows s = same_state (state_of s.rows) s (λ q. row-state_of s.rows q ∙ sym (row-rows s q))

-- ---- two puts

pub put-put : (s : State) (k : RowKey) (r t : Option Row) → put (put s k r) k t ≡ put s k t
put-put s k r t =
    same_state _ _ (λ q. row-put (put s k r) k t q ∙ ap (cond (rowkey_eq q k) t) (row-put s k r q) ∙ again (rowkey_eq q k) t r (row s q) ∙ sym (row-put s k t q))
  where
    again : {A : Type 0} (b : Bool) (x y z : A) → cond b x (cond b y z) ≡ cond b x z
    again true x y z = refl
    again false x y z = refl

-- a row put back where it was
pub put-row : (s : State) (k : RowKey) → put s k (row s k) ≡ s
put-row s k =
    same_state _ _ (λ q. row-put s k (row s k) q ∙ here q (rowkey_eq q k) refl)
  where
    here : (q : RowKey) (b : Bool) → rowkey_eq q k ≡ b → cond b (row s k) (row s q) ≡ row s q
    here q true e = ap (row s) (sym (rowkey_eq-equal q k e))
    here q false e = refl

crossed : {A : Type 0} (a b : Bool) (x y z : A) → (a ≡ true → b ≡ true → x ≡ y) → cond a x (cond b y z) ≡ cond b y (cond a x z)
crossed true true x y z one = one refl refl
crossed true false x y z one = refl
crossed false b x y z one = refl

-- puts under two keys in either order
pub put-swap : (s : State) (k : RowKey) (r : Option Row) (l : RowKey) (t : Option Row) → rowkey_eq k l ≡ false → put (put s k r) l t ≡ put (put s l t) k r
put-swap s k r l t apart =
    same_state _ _ (λ q.
    row-put (put s k r) l t q ∙ ap (cond (rowkey_eq q l) t) (row-put s k r q)
    ∙ crossed (rowkey_eq q l) (rowkey_eq q k) t r (row s q) (λ a b.
    let same : k ≡ l = sym (rowkey_eq-equal q k b) ∙ rowkey_eq-equal q l a in
    let e : true ≡ false = sym (rowkey_eq-self k) ∙ ap (rowkey_eq k) same ∙ apart in cc)
    ∙ sym (row-put (put s l t) k r q ∙ ap (cond (rowkey_eq q k) r) (row-put s l t q)))

-- ---- a change of each row

both_first : (a b : Bool) → T (a && b) → T a
both_first true b p = tt
both_first false b p = p

both_second : (a b : Bool) → T (a && b) → T b
both_second true b p = p
both_second false b p = absurd p

not_tied : (o : Ordering) → T (is_lt o) → is_eq o ≡ false
not_tied Less p = refl
not_tied Equal p = absurd p
not_tied Greater p = absurd p

-- no row stands under a key that is below all
pub find_below : (q : RowKey) (es : List (RowKey × Row)) → T (entries.below_all rowkey_cmp q es) → entries.find rowkey_cmp q es ≡ None
find_below q [] h = refl
find_below q (e ∷ es) h =
    ap (λ b. cond b (Some e.1) (entries.find rowkey_cmp q es)) (not_tied _ (both_first _ _ h)) ∙ find_below q es (both_second _ _ h)

kept_elsewhere : (q k : RowKey) (r : Option Row) (es : List (RowKey × Row)) → eq_by_cmp rowkey_cmp q k ≡ false → entries.find rowkey_cmp q (kept k r es) ≡ entries.find rowkey_cmp q es
kept_elsewhere q k (Some r) es e = ap (λ b. cond b (Some r) (entries.find rowkey_cmp q es)) e
kept_elsewhere q k None es e = refl

kept_here : (q k : RowKey) (r : Option Row) (es : List (RowKey × Row)) → eq_by_cmp rowkey_cmp q k ≡ true → entries.find rowkey_cmp q es ≡ None → entries.find rowkey_cmp q (kept k r es) ≡ r
kept_here q k (Some r) es e none = ap (λ b. cond b (Some r) (entries.find rowkey_cmp q es)) e
kept_here q k None es e none = none

find-changed : (f : RowKey → Row → Option Row) (q : RowKey) (es : List (RowKey × Row)) → T (entries.is_sorted rowkey_cmp es) → entries.find rowkey_cmp q (changed_rows f es) ≡ option_and_then (f q) (entries.find rowkey_cmp q es)
find-changed f q [] h = refl
find-changed f q (e ∷ es) h =
    elim (eq_by_cmp rowkey_cmp q e.0) as (λ b. eq_by_cmp rowkey_cmp q e.0 ≡ b → entries.find rowkey_cmp q (kept e.0 (f e.0 e.1) (changed_rows f es)) ≡ option_and_then (f q) (cond b (Some e.1) (entries.find rowkey_cmp q es))) [
      | true ↦ λ t.
          let same : q ≡ e.0 = rowkey_eq-equal q e.0 (sym (rowkey_eq-cmp q e.0) ∙ t) in
          let none : entries.find rowkey_cmp q es ≡ None = find_below q es (subst (λ k. T (entries.below_all rowkey_cmp k es)) (sym same) (both_first _ _ h)) in
          kept_here q e.0 (f e.0 e.1) (changed_rows f es) t (find-changed f q es (both_second _ _ h) ∙ ap (option_and_then (f q)) none)
          ∙ ap (λ k. f k e.1) (sym same)
      | false ↦ λ t. kept_elsewhere q e.0 (f e.0 e.1) (changed_rows f es) t ∙ find-changed f q es (both_second _ _ h)
    ] refl

pub row-change : (f : RowKey → Row → Option Row) (s : State) (q : RowKey) → row (change f s) q ≡ option_and_then (f q) (row s q)
unfolding row change
row-change f s q = find-changed f q s.rows s.sorted

pub ruleset put_laws = (row-put)

pub ruleset change_laws = (row-change)
