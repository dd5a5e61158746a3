-- One object on its way out: what is left under one key, under some keys, and under all.
use Rattle.std.proofs.Common.{◌≡◌, ◌≤◌, ℕ, ◌+◌, Bool, true, false, cond, ◌&&◌, ◌||◌, ◌⊎◌, inl, inr, refl, sym, ap, ◌∙◌, subst, arith}
use Rattle.std.specs.Prelude.{Option, None, Some, option_and_then, if◌then◌else◌, ◌==◌}
use Rattle.std.proofs.lemmas.Bool.{eqb-true}
use Rattle.zt_rows.specs.declared.keys.RowKey.{RowKey}
use Rattle.zt_rows.specs.declared.keys.RowKey.TheVariants as key
use Rattle.zt_rows.specs.declared.rows.ObjectRow.{ObjectRow}
use Rattle.zt_rows.specs.declared.rows.Wait.{Wait}
use Rattle.zt_rows.specs.declared.rows.Row.{Row}
use Rattle.zt_rows.specs.declared.rows.Row.TheVariants as rows
use Rattle.zt_rows.specs.Keys.{rowkey_eq}
use Rattle.zt_rows.specs.ProofsOnly.KeyOrder.{rowkey_eq-equal}
use Rattle.zt_rows.specs.State.{State, row, put}
use Rattle.zt_rows.specs.Reads.{as_object, as_wait, object, wait}
use Rattle.zt_rows.specs.Room.{suits, SuitsKey}
use Rattle.zt_rows.specs.Tests.{is_endpoint}
use Rattle.zt_rows.specs.Collect.{unlinked, left, without}
use Rattle.zt_rows.proofs.StateLaws.{row-put, row-put-same, same_state, put-row}
use Rattle.zt_rows.proofs.RowLaws.{true≢false}
use Rattle.zt_rows.proofs.ReadLaws.{some_one, then_none, row-without}
use Rattle.zt_rows.proofs.WithoutLaws.{without-twice}
use Rattle.zt_index.proofs.Totals.{share, total-put}
use Rattle.zt_store.specs.KoidSets.{only}
use Rattle.zt_cascade.specs.ProofsOnly.RemovedObject.{left_at, left_behind, IsLeft, weighs, weight, IsPartly}

-- ---- under one key

pub left-none : (x : ℕ) (S : State) (k : RowKey) → row S k ≡ None → IsLeft x S k
left-none x S k e = ap (option_and_then (left (only x) k)) e ∙ sym e

-- where the row stays, nothing is to be done
pub behind-same : (x : ℕ) (S : State) (k : RowKey) → IsLeft x S k → S ≡ left_behind x S k
behind-same x S k e = sym (ap (put S k) e ∙ put-row S k)

-- where the row goes, nothing is left under the key
pub behind-none : (x : ℕ) (S : State) (k : RowKey) (r : Row) → row S k ≡ Some r → left (only x) k r ≡ None → put S k None ≡ left_behind x S k
behind-none x S k r there gone = sym (ap (put S k) (ap (option_and_then (left (only x) k)) there ∙ gone))

or-same : (a : Bool) → (a || a) ≡ a
or-same true = refl
or-same false = refl

-- what is left of what is left is all of it
pub left-again : (x : ℕ) (S : State) (k : RowKey) → option_and_then (left (only x) k) (left_at x S k) ≡ left_at x S k
left-again x S k =
    let b : ℕ → Bool = only x in
    ap (option_and_then (left b k)) (sym (row-without b S k))
    ∙ sym (row-without b (without S b) k)
    ∙ ap (λ s. row s k) (without-twice S b b ∙ ap (without S) (λ i y. or-same (b y) i))
    ∙ row-without b S k

pub behind-left : (x : ℕ) (S : State) (k : RowKey) → IsLeft x (left_behind x S k) k
behind-left x S k =
    let here : row (left_behind x S k) k ≡ left_at x S k = row-put-same S k (left_at x S k) in
    ap (option_and_then (left (only x) k)) here ∙ left-again x S k ∙ sym here

-- ---- weights

share-if : (k : RowKey) (b : Bool) (s : Row) (most : ℕ) → weighs k s ≤ most → share weighs k (if b then None else Some s) ≤ most
share-if k true s most h = omega arith
share-if k false s most h = h

share-left : (x : ℕ) (k : RowKey) (r : Row) → share weighs k (left (only x) k r) ≤ weighs k r
share-left x (key.Object y) (rows.Object o) = share-if (key.Object y) (y == x) (rows.Object (unlinked (only x) o)) 1 (omega arith)
share-left x (key.Msg e n) (rows.Msg m) = share-if (key.Msg e n) (e == x) (rows.Msg m) _ (omega arith)
share-left x (key.Packet p n) (rows.Packet k) = share-if (key.Packet p n) (p == x) (rows.Packet k) 1 (omega arith)
share-left x (key.Wait n) (rows.Wait w) = share-if (key.Wait n) (w.port == x) (rows.Wait w) 1 (omega arith)
share-left x k r = omega arith

share-less : (x : ℕ) (k : RowKey) (r : Option Row) → share weighs k (option_and_then (left (only x) k) r) ≤ share weighs k r
share-less x k (Some r) = share-left x k r
share-less x k None = omega arith

pub behind-lighter : (x : ℕ) (S : State) (k : RowKey) → weight (left_behind x S k) ≤ weight S
behind-lighter x S k =
    let e : weight (left_behind x S k) + share weighs k (row S k) ≡ weight S + share weighs k (left_at x S k) = total-put weighs S k (left_at x S k) in
    let l : share weighs k (left_at x S k) ≤ share weighs k (row S k) = share-less x k (row S k) in
    omega arith

-- what goes from under the key weighs no more
pub behind-gone : (x : ℕ) (S : State) (k : RowKey) (r : Row) → row S k ≡ Some r → left (only x) k r ≡ None → weight (left_behind x S k) + weighs k r ≡ weight S
behind-gone x S k r there gone =
    let none : left_at x S k ≡ None = ap (option_and_then (left (only x) k)) there ∙ gone in
    let e : weight (left_behind x S k) + share weighs k (row S k) ≡ weight S + share weighs k (left_at x S k) = total-put weighs S k (left_at x S k) in
    let a : share weighs k (row S k) ≡ weighs k r = ap (share weighs k) there in
    let b : share weighs k (left_at x S k) ≡ 0 = ap (share weighs k) none in
    omega arith

-- ---- under some keys

pub partly-itself : (x : ℕ) (S : State) → IsPartly x S S
partly-itself x S = record { at = λ k. inl refl; lighter = omega arith }

pub partly-then : (x : ℕ) (S T U : State) → IsPartly x S T → IsPartly x T U → IsPartly x S U
partly-then x S T U first second = record {
  at = λ k. at_key k (first.at k) (second.at k);
  lighter = let a : weight T ≤ weight S = first.lighter in let b : weight U ≤ weight T = second.lighter in omega arith;
}
  where
    at_key : (k : RowKey) → (row T k ≡ row S k) ⊎ (row T k ≡ left_at x S k) → (row U k ≡ row T k) ⊎ (row U k ≡ left_at x T k) → (row U k ≡ row S k) ⊎ (row U k ≡ left_at x S k)
    at_key k (inl d) (inl e) = inl (e ∙ d)
    at_key k (inr d) (inl e) = inr (e ∙ d)
    at_key k (inl d) (inr e) = inr (e ∙ ap (option_and_then (left (only x) k)) d)
    at_key k (inr d) (inr e) = inr (e ∙ ap (option_and_then (left (only x) k)) d ∙ left-again x S k)

pub partly-behind : (x : ℕ) (S : State) (k : RowKey) → IsPartly x S (left_behind x S k)
partly-behind x S k = record {
  at = λ q. elim (rowkey_eq q k) as (λ b. rowkey_eq q k ≡ b → (row (left_behind x S k) q ≡ row S q) ⊎ (row (left_behind x S k) q ≡ left_at x S q)) [
    | true ↦ λ t. inr (row-put S k (left_at x S k) q ∙ ap (λ b. cond b (left_at x S k) (row S q)) t ∙ ap (left_at x S) (sym (rowkey_eq-equal q k t)))
    | false ↦ λ t. inl (row-put S k (left_at x S k) q ∙ ap (λ b. cond b (left_at x S k) (row S q)) t)
  ] refl;
  lighter = behind-lighter x S k;
}

pub partly-more : (x : ℕ) (S T : State) (k : RowKey) → IsPartly x S T → IsPartly x S (left_behind x T k)
partly-more x S T k h = partly-then x S T (left_behind x T k) h (partly-behind x T k)

-- what stays, stays while more goes
pub left-stays : (x : ℕ) (T U : State) (k : RowKey) → IsPartly x T U → IsLeft x T k → IsLeft x U k
left-stays x T U k h e =
    let same : row U k ≡ row T k = elim (h.at k) [ inl d ↦ d | inr d ↦ d ∙ e ] in
    ap (option_and_then (left (only x) k)) same ∙ e ∙ sym same

-- ---- under all keys

pub partly-end : (x : ℕ) (S T : State) → IsPartly x S T → ((k : RowKey) → IsLeft x T k) → T ≡ without S (only x)
partly-end x S T h all = same_state T (without S (only x)) (λ k.
    let here : row T k ≡ left_at x S k = elim (h.at k) [ inl d ↦ sym (all k) ∙ ap (option_and_then (left (only x) k)) d | inr d ↦ d ] in
    here ∙ sym (row-without (only x) S k))

left-counters : (x : ℕ) (r : Option Row) → option_and_then (left (only x) key.Counters) r ≡ r
left-counters x (Some r) = refl
left-counters x None = refl

left-entry : (x p h : ℕ) (r : Option Row) → option_and_then (left (only x) (key.Entry p h)) r ≡ r
left-entry x p h (Some r) = refl
left-entry x p h None = refl

left-message : (x e n : ℕ) → (e == x) ≡ false → (r : Option Row) → option_and_then (left (only x) (key.Msg e n)) r ≡ r
left-message x e n f (Some (rows.Msg m)) = then_none (e == x) (rows.Msg m) f
left-message x e n f (Some r) = refl
left-message x e n f None = refl

left-packet : (x p n : ℕ) → (p == x) ≡ false → (r : Option Row) → option_and_then (left (only x) (key.Packet p n)) r ≡ r
left-packet x p n f (Some (rows.Packet k)) = then_none (p == x) (rows.Packet k) f
left-packet x p n f (Some r) = refl
left-packet x p n f None = refl

-- an object's row is left where its own link is, or names nothing that goes
pub left-object : (x y : ℕ) → (y == x) ≡ false → (r : Option Row) → ((o : ObjectRow) → as_object r ≡ Some o → (is_endpoint o.kind && (o.link == x)) ≡ true → o.link ≡ 0) → option_and_then (left (only x) (key.Object y)) r ≡ r
left-object x y f (Some (rows.Object o)) h =
    let link : (if is_endpoint o.kind && (o.link == x) then 0 else o.link) ≡ o.link = link-same (is_endpoint o.kind && (o.link == x)) o.link (h o refl) in
    let same : unlinked (only x) o ≡ o = λ i. record { kind = o.kind; signals = o.signals; link = link i; life = o.life; next = o.next; critical = o.critical } in
    then_none (y == x) (rows.Object (unlinked (only x) o)) f ∙ ap (λ q. Some (rows.Object q)) same
  where
    link-same : (b : Bool) (l : ℕ) → (b ≡ true → l ≡ 0) → (if b then 0 else l) ≡ l
    link-same true l g = sym (g refl)
    link-same false l g = refl
left-object x y f (Some r) h = refl
left-object x y f None h = refl

-- what is no object's row stays
left-absent : (x y : ℕ) (r : Option Row) → as_object r ≡ None → option_and_then (left (only x) (key.Object y)) r ≡ r
left-absent x y (Some (rows.Object o)) h = cc
left-absent x y (Some r) h = refl
left-absent x y None h = refl

pub behind-absent : (x y : ℕ) (S : State) → object S y ≡ None → S ≡ left_behind x S (key.Object y)
behind-absent x y S none = behind-same x S (key.Object y) (left-absent x y (row S (key.Object y)) none)

-- where x is gone, an object stays that is no endpoint or has another peer
pub behind-other : (x y : ℕ) (S : State) (o : ObjectRow) → object S x ≡ None → object S y ≡ Some o → (is_endpoint o.kind && (o.link == x)) ≡ false → S ≡ left_behind x S (key.Object y)
behind-other x y S o gone there other = behind-same x S (key.Object y) (by (y == x) refl)
  where
    stays : (p : ObjectRow) → object S y ≡ Some p → (is_endpoint p.kind && (p.link == x)) ≡ true → p.link ≡ 0
    stays p here h =
        let same : p ≡ o = some_one p o (sym here ∙ there) in
        absurd (true≢false (is_endpoint o.kind && (o.link == x)) (ap (λ (q : ObjectRow). is_endpoint q.kind && (q.link == x)) (sym same) ∙ h) other)

    by : (b : Bool) → (y == x) ≡ b → IsLeft x S (key.Object y)
    by true t = left-absent x y (row S (key.Object y)) (ap (object S) (eqb-true y x t) ∙ gone)
    by false t = left-object x y t (row S (key.Object y)) stays

left-wait_of : (x n : ℕ) (r : Option Row) → ((w : Wait) → as_wait r ≡ Some w → (w.port == x) ≡ false) → option_and_then (left (only x) (key.Wait n)) r ≡ r
left-wait_of x n (Some (rows.Wait w)) h = then_none (w.port == x) (rows.Wait w) (h w refl)
left-wait_of x n (Some r) h = refl
left-wait_of x n None h = refl

-- a wait for another port is left
pub left-wait : (x : ℕ) (S : State) (n : ℕ) → ((w : Wait) → wait S n ≡ Some w → (w.port == x) ≡ false) → IsLeft x S (key.Wait n)
left-wait x S n h = left-wait_of x n (row S (key.Wait n)) h

-- once its row, its queue, its packets and the waits for it went, the object is gone
pub all-left : (x : ℕ) (T : State) → ((y : ℕ) → IsLeft x T (key.Object y)) → ((n : ℕ) → IsLeft x T (key.Msg x n)) → ((n : ℕ) → IsLeft x T (key.Packet x n)) → ((n : ℕ) → IsLeft x T (key.Wait n)) → (k : RowKey) → IsLeft x T k
all-left x T objects messages packets waits key.Counters = left-counters x (row T key.Counters)
all-left x T objects messages packets waits (key.Object y) = objects y
all-left x T objects messages packets waits (key.Entry p h) = left-entry x p h (row T (key.Entry p h))
all-left x T objects messages packets waits (key.Msg e n) =
    elim (e == x) as (λ b. (e == x) ≡ b → IsLeft x T (key.Msg e n)) [
      | true ↦ λ t. subst (λ z. IsLeft x T (key.Msg z n)) (sym (eqb-true e x t)) (messages n)
      | false ↦ λ t. left-message x e n t (row T (key.Msg e n))
    ] refl
all-left x T objects messages packets waits (key.Packet p n) =
    elim (p == x) as (λ b. (p == x) ≡ b → IsLeft x T (key.Packet p n)) [
      | true ↦ λ t. subst (λ z. IsLeft x T (key.Packet z n)) (sym (eqb-true p x t)) (packets n)
      | false ↦ λ t. left-packet x p n t (row T (key.Packet p n))
    ] refl
all-left x T objects messages packets waits (key.Wait n) = waits n

-- rows suit their keys still
suits-if : (k : RowKey) (b : Bool) (s : Row) → SuitsKey k None → suits k s ≡ true → SuitsKey k (if b then None else Some s)
suits-if k true s none h = none
suits-if k false s none h = h

suited-left : (x : ℕ) (k : RowKey) (r : Row) → suits k r ≡ true → SuitsKey k (left (only x) k r)
suited-left x (key.Object y) (rows.Object o) h = suits-if (key.Object y) (y == x) (rows.Object (unlinked (only x) o)) tt h
suited-left x (key.Msg e n) (rows.Msg m) h = suits-if (key.Msg e n) (e == x) (rows.Msg m) tt h
suited-left x (key.Packet p n) (rows.Packet k) h = suits-if (key.Packet p n) (p == x) (rows.Packet k) tt h
suited-left x (key.Wait n) (rows.Wait w) h = suits-if (key.Wait n) (w.port == x) (rows.Wait w) tt h
suited-left x k r h = h

suited-at : (x : ℕ) (k : RowKey) (r : Option Row) → SuitsKey k r → SuitsKey k (option_and_then (left (only x) k) r)
suited-at x k (Some r) h = suited-left x k r h
suited-at x k None h = h

pub suited-partly : (x : ℕ) (S T : State) → IsPartly x S T → ((k : RowKey) → SuitsKey k (row S k)) → (k : RowKey) → SuitsKey k (row T k)
suited-partly x S T h suited k = elim (h.at k) [
  | inl d ↦ subst (SuitsKey k) (sym d) (suited k)
  | inr d ↦ subst (SuitsKey k) (sym d) (suited-at x k (row S k) (suited k))
]
