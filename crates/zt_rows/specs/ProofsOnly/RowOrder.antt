-- Rows stay in the order of their keys when one is put, when one goes, and when each is changed in its place. Used by
-- proofs only: that rows are in order is part of a state's type, so that what makes a state cites these.
use Rattle.std.specs.Prelude.{Bool, true, false, ◌&&◌, T, List, [], ◌∷◌, Option, None, Some, not}
use Rattle.std.specs.FinMap.Entries as entries
use Rattle.std.specs.Ordering.{is_lt}
use Rattle.zt_rows.specs.declared.keys.RowKey.{RowKey}
use Rattle.zt_rows.specs.declared.rows.Row.{Row}
use Rattle.zt_rows.specs.Keys.{rowkey_cmp, rowkey_eq}
use Rattle.zt_rows.specs.ProofsOnly.KeyOrder.{rowkey_cmp_total}
use Rattle.zt_rows.specs.RowOrder.{kept, changed_rows}

pub is_sorted-put : (k : RowKey) (r : Row) (es : List (RowKey × Row)) → T (entries.is_sorted rowkey_cmp es) → T (entries.is_sorted rowkey_cmp (entries.put rowkey_cmp k r es))
is_sorted-put k r es h = entries.is_sorted-put rowkey_cmp rowkey_cmp_total k r es h

pub is_sorted-without : (k : RowKey) (es : List (RowKey × Row)) → T (entries.is_sorted rowkey_cmp es) → T (entries.is_sorted rowkey_cmp (entries.where_key rowkey_cmp (λ q. not (rowkey_eq q k)) es))
is_sorted-without k es h = entries.is_sorted-where_key rowkey_cmp (λ q. not (rowkey_eq q k)) es h

both : (a b : Bool) → T a → T b → T (a && b)
both true b p q = q
both false b p q = p

first : (a b : Bool) → T (a && b) → T a
first true b p = tt
first false b p = p

second : (a b : Bool) → T (a && b) → T b
second true b p = p
second false b p = absurd p

below-kept : (x k : RowKey) (r : Option Row) (es : List (RowKey × Row)) → T (is_lt (rowkey_cmp x k)) → T (entries.below_all rowkey_cmp x es) → T (entries.below_all rowkey_cmp x (kept k r es))
below-kept x k (Some r) es p h = both _ _ p h
below-kept x k None es p h = h

below-changed : (x : RowKey) (f : RowKey → Row → Option Row) (es : List (RowKey × Row)) → T (entries.below_all rowkey_cmp x es) → T (entries.below_all rowkey_cmp x (changed_rows f es))
below-changed x f [] h = tt
below-changed x f (e ∷ es) h = below-kept x e.0 (f e.0 e.1) _ (first _ _ h) (below-changed x f es (second _ _ h))

sorted-kept : (k : RowKey) (r : Option Row) (es : List (RowKey × Row)) → T (entries.below_all rowkey_cmp k es) → T (entries.is_sorted rowkey_cmp es) → T (entries.is_sorted rowkey_cmp (kept k r es))
sorted-kept k (Some r) es p h = both _ _ p h
sorted-kept k None es p h = h

pub is_sorted-changed : (f : RowKey → Row → Option Row) (es : List (RowKey × Row)) → T (entries.is_sorted rowkey_cmp es) → T (entries.is_sorted rowkey_cmp (changed_rows f es))
is_sorted-changed f [] h = tt
is_sorted-changed f (e ∷ es) h =
    sorted-kept e.0 (f e.0 e.1) _ (below-changed e.0 f es (first _ _ h)) (is_sorted-changed f es (second _ _ h))
