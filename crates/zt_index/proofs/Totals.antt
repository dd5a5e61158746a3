-- Totals over the rows of a state: what a put changes, and what one row has of them.
use Rattle.std.proofs.Common.{◌≡◌, ◌≤◌, ℕ, ◌+◌, ◌*◌, Bool, true, false, cond, not, ◌&&◌, T, List, [], ◌∷◌, length, Option, Some, None, inl, inr, refl, sym, ap, ◌∙◌, subst, arith, count_by}
use Rattle.std.specs.declared.cmp.Ordering.{Ordering}
use Rattle.std.specs.declared.cmp.Ordering.TheVariants.{Less, Equal, Greater}
use Rattle.std.specs.Ordering.{is_lt, is_eq, eq_by_cmp}
use Rattle.std.specs.FinMap.Entries as entries
use Rattle.zt_rows.specs.declared.keys.RowKey.{RowKey}
use Rattle.zt_rows.specs.declared.rows.Row.{Row}
use Rattle.zt_rows.specs.Keys.{rowkey_cmp, rowkey_eq}
use Rattle.zt_rows.specs.ProofsOnly.KeyOrder.{rowkey_cmp_total, rowkey_cmp-equal, rowkey_eq-cmp, rowkey_eq-equal, rowkey_eq-laws}
use Rattle.zt_rows.specs.State.{State, row, put}
use Rattle.zt_rows.specs.Tests.{count_row}
use Rattle.zt_rows.proofs.StateLaws.{find_below}
use Rattle.zt_rows.proofs.RowLaws.{In, row-in, in-row, count-cons}
use Rattle.zt_index.specs.ProofsOnly.KoidCounts.{sum_rows, total}

both : (a b : Bool) → T a → T b → T (a && b)
both true b p q = q
both false b p q = p

first : (a b : Bool) → T (a && b) → T a
first true b p = tt
first false b p = p

second : (a b : Bool) → T (a && b) → T b
second true b p = p
second false b p = absurd p

less : (o : Ordering) → T (is_lt o) → o ≡ Less
less Less p = refl
less Equal p = absurd p
less Greater p = absurd p

below-lower : (k l : RowKey) (es : List (RowKey × Row)) → rowkey_cmp k l ≡ Less → T (entries.below_all rowkey_cmp l es) → T (entries.below_all rowkey_cmp k es)
below-lower k l [] p h = tt
below-lower k l (e ∷ es) p h =
    both _ _ (subst (λ o. T (is_lt o)) (sym (rowkey_cmp_total.trans k l e.0 p (less _ (first _ _ h)))) tt) (below-lower k l es p (second _ _ h))

module _ (g : RowKey → Row → ℕ) where
  -- what the row gives, where there is one
  abbrev pub share : RowKey → Option Row → ℕ
  share k (Some r) = g k r
  share k None = 0

  share-kept : (k l : RowKey) (r : Row) (o : Option Row) (b : Bool) → b ≡ true → k ≡ l → o ≡ None → share k (cond b (Some r) o) ≡ g l r
  share-kept k l r o true e same none = ap (λ x. g x r) same
  share-kept k l r o false e same none = cc

  sum-put : (k : RowKey) (r : Row) (es : List (RowKey × Row)) → T (entries.is_sorted rowkey_cmp es)
      → sum_rows g (entries.put rowkey_cmp k r es) + share k (entries.find rowkey_cmp k es) ≡ sum_rows g es + g k r
  sum-put k r [] h = omega arith
  sum-put k r (e ∷ es) h =
      elim (rowkey_cmp k e.0) as (λ o. rowkey_cmp k e.0 ≡ o → sum_rows g (entries.by_order o ((k, r) ∷ e ∷ es) ((e.0, r) ∷ es) (e ∷ entries.put rowkey_cmp k r es)) + share k (cond (is_eq o) (Some e.1) (entries.find rowkey_cmp k es)) ≡ (g e.0 e.1 + sum_rows g es) + g k r) [
        | Less ↦ λ o.
            let none : share k (entries.find rowkey_cmp k es) ≡ 0 = ap (share k) (find_below k es (below-lower k e.0 es o (first _ _ h))) in
            omega arith
        | Equal ↦ λ o.
            let same : g e.0 r ≡ g k r = ap (λ x. g x r) (sym (rowkey_cmp-equal k e.0 o)) in
            let old : g k e.1 ≡ g e.0 e.1 = ap (λ x. g x e.1) (rowkey_cmp-equal k e.0 o) in
            omega arith
        | Greater ↦ λ o.
            let rest : sum_rows g (entries.put rowkey_cmp k r es) + share k (entries.find rowkey_cmp k es) ≡ sum_rows g es + g k r = sum-put k r es (second (entries.below_all rowkey_cmp e.0 es) _ h) in
            omega arith
      ] refl

  sum-without : (k : RowKey) (es : List (RowKey × Row)) → T (entries.is_sorted rowkey_cmp es)
      → sum_rows g (entries.where_key rowkey_cmp (λ q. not (rowkey_eq q k)) es) + share k (entries.find rowkey_cmp k es) ≡ sum_rows g es
  sum-without k [] h = refl
  sum-without k (e ∷ es) h =
      let rest : sum_rows g (entries.where_key rowkey_cmp (λ q. not (rowkey_eq q k)) es) + share k (entries.find rowkey_cmp k es) ≡ sum_rows g es = sum-without k es (second (entries.below_all rowkey_cmp e.0 es) _ h) in
      elim (rowkey_eq e.0 k) as (λ b. rowkey_eq e.0 k ≡ b → sum_rows g (cond (not b) (e ∷ entries.where_key rowkey_cmp (λ q. not (rowkey_eq q k)) es) (entries.where_key rowkey_cmp (λ q. not (rowkey_eq q k)) es)) + share k (cond (eq_by_cmp rowkey_cmp k e.0) (Some e.1) (entries.find rowkey_cmp k es)) ≡ g e.0 e.1 + sum_rows g es) [
        | true ↦ λ t.
            let same : k ≡ e.0 = sym (rowkey_eq-equal e.0 k t) in
            let none : entries.find rowkey_cmp k es ≡ None = subst (λ q. entries.find rowkey_cmp q es ≡ None) (sym same) (find_below e.0 es (first (entries.below_all rowkey_cmp e.0 es) _ h)) in
            let gone : share k (entries.find rowkey_cmp k es) ≡ 0 = ap (share k) none in
            let here : share k (cond (eq_by_cmp rowkey_cmp k e.0) (Some e.1) (entries.find rowkey_cmp k es)) ≡ g e.0 e.1 =
            share-kept k e.0 e.1 (entries.find rowkey_cmp k es) _ (rowkey_eq-cmp k e.0 ∙ rowkey_eq-laws.symm k e.0 ∙ t) same none in
            omega arith
        | false ↦ λ t.
            let here : share k (cond (eq_by_cmp rowkey_cmp k e.0) (Some e.1) (entries.find rowkey_cmp k es)) ≡ share k (entries.find rowkey_cmp k es) =
            ap (λ b. share k (cond b (Some e.1) (entries.find rowkey_cmp k es))) (rowkey_eq-cmp k e.0 ∙ rowkey_eq-laws.symm k e.0 ∙ t) in
            omega arith
      ] refl

  -- a put takes away what the row gave that stood there, and adds what the new row gives
  pub total-put : (S : State) (k : RowKey) (r : Option Row) → total g (put S k r) + share k (row S k) ≡ total g S + share k r
  unfolding total put row
  total-put S k (Some r) = sum-put k r S.rows S.sorted
  total-put S k None = let e : total g (put S k None) + share k (row S k) ≡ total g S = sum-without k S.rows S.sorted in omega arith

  sum-has : (k : RowKey) (r : Row) (es : List (RowKey × Row)) → In (k, r) es → g k r ≤ sum_rows g es
  sum-has k r [] m = absurd m
  sum-has k r (e ∷ es) (inl p) = let same : g k r ≡ g e.0 e.1 = ap (λ (x : RowKey × Row). g x.0 x.1) p in omega arith
  sum-has k r (e ∷ es) (inr m) = let rest : g k r ≤ sum_rows g es = sum-has k r es m in omega arith

  -- a row that stands gives no more than all rows together
  pub share-within : (S : State) (k : RowKey) → share k (row S k) ≤ total g S
  unfolding total
  share-within S k = here (row S k) refl
    where
      here : (o : Option Row) → row S k ≡ o → share k o ≤ sum_rows g S.rows
      here (Some r) e = sum-has k r S.rows (row-in S k r e)
      here None e = omega arith

  sum-within : (most : ℕ) (es : List (RowKey × Row)) → ((k : RowKey) (r : Row) → In (k, r) es → g k r ≤ most) → sum_rows g es ≤ most * length es
  sum-within most [] h = omega arith
  sum-within most (e ∷ es) h =
      let here : g e.0 e.1 ≤ most = h e.0 e.1 (inl refl) in
      let rest : sum_rows g es ≤ most * length es = sum-within most es (λ k r m. h k r (inr m)) in
      omega arith

  -- no more than so many times the number of rows, where no row gives more
  pub total-within : (most : ℕ) (S : State) → ((k : RowKey) (r : Row) → row S k ≡ Some r → g k r ≤ most) → total g S ≤ most * length S.rows
  unfolding total
  total-within most S h = sum-within most S.rows (λ k r m. h k r (in-row S k r m))

count-sum : (test : RowKey → Row → Bool) (es : List (RowKey × Row)) → count_by (λ e. test e.0 e.1) es ≡ sum_rows (λ k r. cond (test k r) 1 0) es
count-sum test [] = refl
count-sum test (e ∷ es) = count-cons (λ e. test e.0 e.1) e es ∙ ap (λ n. cond (test e.0 e.1) 1 0 + n) (count-sum test es)

-- how many rows pass, as a total
pub count-total : (test : RowKey → Row → Bool) (S : State) → count_row test S ≡ total (λ k r. cond (test k r) 1 0) S
unfolding count_row total
count-total test S = count-sum test S.rows
