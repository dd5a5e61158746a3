-- What holds of a record: its keys are distinct, and an exchange keeps their order.
use Rattle.std.proofs.Common.{◌≡◌, ℕ, Bool, true, false, ◌&&◌, T, List, [], ◌∷◌, ◌++◌, map, take, drop, length, Option, refl, sym, ap, ◌∙◌, subst, arith}
use Rattle.std.specs.declared.cmp.Ordering.{Ordering}
use Rattle.std.specs.declared.cmp.Ordering.TheVariants.{Less, Equal, Greater}
use Rattle.std.specs.Ordering.{is_lt, is_eq}
use Rattle.std.specs.FinMap.Entries as entries
use Rattle.std.specs.List.{AllByRecursion, IsDistinct, zip}
use Rattle.std.proofs.lemmas.List.{append-nil, drop_all, length-map, take_all}
use Rattle.std.proofs.lemmas.Slice.Zip.{firsts-zip}
use Rattle.zt_rows.specs.declared.keys.RowKey.{RowKey}
use Rattle.zt_rows.specs.declared.rows.Row.{Row}
use Rattle.zt_rows.specs.Keys.{rowkey_cmp, rowkey_eq}
use Rattle.zt_rows.specs.ProofsOnly.KeyOrder.{rowkey_eq-cmp}
use Rattle.zt_rows.specs.State.{State}
use Rattle.zt_rows.specs.Change.{before, rows_at, exchange}
use Rattle.zt_rows.proofs.ChangeLaws.{sorted-before}
use Rattle.zt_store.specs.ProofsOnly.RecordRows.{IsRecord}
use Rattle.zt_store.specs.ProofsOnly.StoreView.{AllSuit}
use Rattle.zt_store.proofs.Fitting.{Rows}
use Rattle.zt_store.proofs.Exchanges.{keys_of}

both : (a b : Bool) → T a → T b → T (a && b)
both true b p q = q
both false b p q = p

first : (a b : Bool) → T (a && b) → T a
first true b p = tt
first false b p = p

second : (a b : Bool) → T (a && b) → T b
second true b p = p
second false b p = absurd p

-- ---- keys in order are distinct

not_tied : (o : Ordering) → T (is_lt o) → is_eq o ≡ false
not_tied Less p = refl
not_tied Equal p = absurd p
not_tied Greater p = absurd p

below-apart : (k : RowKey) (R : Rows) → T (entries.below_all rowkey_cmp k R) → AllByRecursion (λ y. rowkey_eq k y ≡ false) (keys_of R)
below-apart k [] h = tt
below-apart k (e ∷ es) h = (sym (rowkey_eq-cmp k e.0) ∙ not_tied (rowkey_cmp k e.0) (first _ _ h), below-apart k es (second _ _ h))

pub distinct-sorted : (R : Rows) → T (entries.is_sorted rowkey_cmp R) → IsDistinct rowkey_eq (keys_of R)
unfolding IsDistinct
distinct-sorted [] h = tt
distinct-sorted (e ∷ es) h = (below-apart e.0 es (first _ _ h), distinct-sorted es (second _ _ h))

pub distinct-record : (ks : List RowKey) (rs : List (Option Row)) → IsRecord ks rs → IsDistinct rowkey_eq (keys_of (zip ks rs))
distinct-record ks rs is = distinct-sorted (zip ks rs) is.ordered

-- the keys of a record are those of its pairs
pub listed-record : (ks : List RowKey) (rs : List (Option Row)) → IsRecord ks rs → ks ≡ keys_of (zip ks rs)
listed-record ks rs is = sym (firsts-zip ks rs is.even)

-- ---- the other rows under the same keys

below-rows_at : (S : State) (k : RowKey) (R : Rows) → T (entries.below_all rowkey_cmp k R) → T (entries.below_all rowkey_cmp k (rows_at S R))
below-rows_at S k [] h = tt
below-rows_at S k (e ∷ es) h = both _ _ (first _ _ h) (below-rows_at S k es (second _ _ h))

sorted-rows_at : (S : State) (R : Rows) → T (entries.is_sorted rowkey_cmp R) → T (entries.is_sorted rowkey_cmp (rows_at S R))
sorted-rows_at S [] h = tt
sorted-rows_at S (e ∷ es) h = both _ _ (below-rows_at S e.0 es (first _ _ h)) (sorted-rows_at S es (second _ _ h))

abbrev pub IsSorted : Rows → Type 0
IsSorted R = T (entries.is_sorted rowkey_cmp R)

-- where the exchanged rows stand in the place of all
pub exchanged-whole : {A : Type 0} (R Q : List A) (n : ℕ) → length Q ≡ length R → length R ≡ n → take n (Q ++ drop (length Q) R) ≡ Q
exchanged-whole R Q n size len =
    ap (λ es. take n (Q ++ es)) (drop_all (length Q) R (omega (arith, size))) ∙ ap (take n) (append-nil Q) ∙ take_all n Q (omega (arith, size, len))

-- the rows that came by an exchange stand under the same keys
pub record-exchanged : (S T : State) (ks : List RowKey) (rs qs : List (Option Row)) → IsRecord ks rs → length qs ≡ length ks → ◌≡◌ {A = State × Rows} (T, zip ks qs) (exchange S (zip ks rs)) → AllSuit (zip ks qs)
    → IsRecord ks qs
record-exchanged S T ks rs qs is size exchanged suited =
    let rows : zip ks qs ≡ rows_at S (zip ks rs) = ap (λ (x : State × Rows). x.1) exchanged in
    record {
      even = size;
      suited = suited;
      ordered = subst IsSorted (sym rows) (sorted-rows_at S (zip ks rs) is.ordered);
    }

-- ---- a record of what was before

zip-unzipped : (R : Rows) → zip (keys_of R) (map (λ e. e.1) R) ≡ R
zip-unzipped [] = refl
zip-unzipped (e ∷ es) = ap (λ R. e ∷ R) (zip-unzipped es)

pub record-before : (S U : State) (R : Rows) → R ≡ before S U → AllSuit R → IsRecord (keys_of R) (map (λ e. e.1) R)
record-before S U R is suited = record {
  even = length-map R (λ (e : RowKey × Option Row). e.1) ∙ sym (length-map R (λ (e : RowKey × Option Row). e.0));
  suited = subst AllSuit (sym (zip-unzipped R)) suited;
  ordered = subst IsSorted (sym (zip-unzipped R ∙ is)) (sorted-before S U);
}
