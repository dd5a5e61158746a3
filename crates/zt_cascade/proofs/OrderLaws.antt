-- The waits of a state stand by rising number.
use Rattle.std.proofs.Common.{◌≡◌, ◌<◌, ℕ, Bool, true, false, List, [], ◌∷◌, refl, sym, ap, subst, arith, inl, inr}
use Rattle.std.specs.Prelude.{Option, None, Some, T, ◌&&◌}
use Rattle.std.specs.FinMap.Entries as entries
use Rattle.std.specs.List.{cons_option, filter_map}
use Rattle.std.specs.Ordering.{is_lt}
use Rattle.std.specs.declared.cmp.Ordering.{Ordering}
use Rattle.std.specs.declared.cmp.Ordering.TheVariants.{Less, Equal, Greater}
use Rattle.std.proofs.lemmas.Bool.Decides.{nat_tests}
use Rattle.zt_rows.specs.declared.keys.RowKey.{RowKey}
use Rattle.zt_rows.specs.declared.keys.RowKey.TheVariants as key
use Rattle.zt_rows.specs.declared.rows.Wait.{Wait}
use Rattle.zt_rows.specs.declared.rows.Row.{Row}
use Rattle.zt_rows.specs.declared.rows.Row.TheVariants as rows
use Rattle.zt_rows.specs.Keys.{rowkey_cmp}
use Rattle.zt_rows.specs.State.{State}
use Rattle.zt_rows.specs.Reads.{wait_at, waits}
use Rattle.zt_rows.proofs.RowLaws.{In, in-filter_map}
use Rattle.zt_rows.proofs.ReadLaws.{some_one}

-- each number is below those behind it
abbrev pub IsOrdered : List (ℕ × Wait) → Type 0
IsOrdered [] = Unit {0}
IsOrdered (e ∷ L) = ((n : ℕ) (w : Wait) → In (n, w) L → e.0 < n) × IsOrdered L

first : (a b : Bool) → T (a && b) → T a
first true b h = tt
first false b h = h

second : (a b : Bool) → T (a && b) → T b
second true b h = h
second false b h = absurd h

below : (k : RowKey) (es : List (RowKey × Row)) (e : RowKey × Row) → T (entries.below_all rowkey_cmp k es) → In e es → T (is_lt (rowkey_cmp k e.0))
below k [] e h l = absurd l
below k (d ∷ es) e h (inl is) = subst (λ (x : RowKey × Row). T (is_lt (rowkey_cmp k x.0))) (sym is) (first _ _ h)
below k (d ∷ es) e h (inr l) = below k es e (second _ _ h) l

is_less : (o : Ordering) → T (is_lt o) → o ≡ Less
is_less Less h = refl
is_less Equal h = absurd h
is_less Greater h = absurd h

less-wait : (m n : ℕ) → T (is_lt (rowkey_cmp (key.Wait m) (key.Wait n))) → m < n
less-wait m n h = let e : rowkey_cmp (key.Wait m) (key.Wait n) ≡ Less = is_less _ h in grind (arith, nat_tests)

-- the wait that the row is stands under a key of its number
wait-key : (k : RowKey) (r : Row) (n : ℕ) (w : Wait) → wait_at (k, r) ≡ Some (n, w) → k ≡ key.Wait n
wait-key (key.Wait m) (rows.Wait v) n w e = ap key.Wait (ap (λ (z : ℕ × Wait). z.0) (some_one (m, v) (n, w) e))
wait-key _ _ n w e = cc

-- one wait more
more : (o : Option (ℕ × Wait)) (L : List (ℕ × Wait)) → ((e : ℕ × Wait) → o ≡ Some e → (n : ℕ) (w : Wait) → In (n, w) L → e.0 < n) → IsOrdered L → IsOrdered (cons_option o L)
more None L h order = order
more (Some e) L h order = (h e refl, order)

ordered : (es : List (RowKey × Row)) → T (entries.is_sorted rowkey_cmp es) → IsOrdered (filter_map wait_at es)
ordered [] h = tt
ordered ((k, r) ∷ es) h =
    more (wait_at (k, r)) (filter_map wait_at es)
    (λ e here n w l.
    let z = in-filter_map wait_at (n, w) es l in
    let mine : k ≡ key.Wait e.0 = wait-key k r e.0 e.1 here in
    let other : z.0.0 ≡ key.Wait n = wait-key z.0.0 z.0.1 n w z.2 in
    less-wait e.0 n (subst (λ q. T (is_lt (rowkey_cmp (key.Wait e.0) q))) other (subst (λ q. T (is_lt (rowkey_cmp q z.0.0))) mine (below k es z.0 (first _ _ h) z.1))))
    (ordered es (second _ _ h))

pub ordered-waits : (S : State) → IsOrdered (waits S)
unfolding waits
ordered-waits S = ordered S.rows S.sorted
