-- Firing by number: a wait that fires goes, and changes nothing that another is met by, so that it is enough to fire,
-- by rising number, waits among which are all that are met.
use Rattle.std.proofs.Common.{◌≡◌, ◌<◌, ◌≤◌, ℕ, suc, Bool, true, false, cond, ◌&&◌, List, [], ◌∷◌, length, get_or, is_some, refl, sym, ap, ◌∙◌, subst, arith, inl, inr}
use Rattle.std.specs.Prelude.{if◌then◌else◌, ◌==◌, Option, None, Some}
use Rattle.std.specs.List.{fold}
use Rattle.std.specs.List.Sorted.{IsNonDecreasingBy, IsPermutation}
use Rattle.std.proofs.lemmas.Bool.{cases_lt, eqb-true, eq-eqb}
use Rattle.std.proofs.lemmas.List.Sorted.{list_any-IsPermutation}
use Rattle.zt_rows.specs.declared.keys.RowKey.{RowKey}
use Rattle.zt_rows.specs.declared.keys.RowKey.TheVariants as key
use Rattle.zt_rows.specs.declared.rows.ObjectRow.{ObjectRow}
use Rattle.zt_rows.specs.declared.rows.Wait.{Wait}
use Rattle.zt_rows.specs.declared.rows.Row.{Row}
use Rattle.zt_rows.specs.declared.rows.Row.TheVariants as rows
use Rattle.zt_rows.specs.Keys.{rowkey_eq}
use Rattle.zt_rows.specs.State.{State, row, put}
use Rattle.zt_rows.specs.Reads.{as_entry, as_object, as_wait, entry, object, wait, waits}
use Rattle.zt_rows.specs.Settle.{fire, fire_into, is_met, news, push_packet}
use Rattle.zt_rows.specs.Tests.{among, object_signals, raised}
use Rattle.zt_rows.proofs.StateLaws.{row-put}
use Rattle.zt_rows.proofs.RowLaws.{In, and_left, not_true, or_left, or_right, or_true, true≢false}
use Rattle.zt_rows.proofs.ReadLaws.{some_one}
use Rattle.zt_rows.proofs.SettleLaws.{in-waits, met-same, waits-in}
use Rattle.zt_cascade.specs.ProofsOnly.RaisedWaits.{HasMet, fire_if, fire_number}
use Rattle.zt_cascade.proofs.OrderLaws.{IsOrdered, ordered-waits}

-- ---- one wait that fires

module _ (B : State) where
  -- it is met, and its port is there
  abbrev pub fires : State → Wait → Bool
  fires S w = is_met B S w && is_some (object S w.port)

  abbrev fired : State → ℕ → Wait → ObjectRow → State
  fired S n w o = push_packet w.port o (news S w) (put S (key.Wait n) None)

  row-fired : (S : State) (n : ℕ) (w : Wait) (o : ObjectRow) (q : RowKey) → row (fired S n w o) q ≡ cond (rowkey_eq q (key.Object w.port)) (Some (rows.Object (raised o))) (cond (rowkey_eq q (key.Packet w.port o.next)) (Some (rows.Packet (news S w))) (cond (rowkey_eq q (key.Wait n)) None (row S q)))
  row-fired S n w o q =
      row-put (put (put S (key.Wait n) None) (key.Packet w.port o.next) (Some (rows.Packet (news S w)))) (key.Object w.port) (Some (rows.Object (raised o))) q
      ∙ ap (cond (rowkey_eq q (key.Object w.port)) (Some (rows.Object (raised o))))
      (row-put (put S (key.Wait n) None) (key.Packet w.port o.next) (Some (rows.Packet (news S w))) q
      ∙ ap (cond (rowkey_eq q (key.Packet w.port o.next)) (Some (rows.Packet (news S w)))) (row-put S (key.Wait n) None q))

  -- a fact of the state after it, from the two cases
  fire-either : (P : State → Type 0) (S : State) (n : ℕ) (w : Wait) → (fires S w ≡ false → P S) → ((o : ObjectRow) → object S w.port ≡ Some o → fires S w ≡ true → P (fired S n w o)) → P (fire B S (n, w))
  fire-either P S n w stays goes = pick (is_met B S w) (object S w.port) stays goes
    where
      pick : (m : Bool) (r : Option ObjectRow) → ((m && is_some r) ≡ false → P S) → ((o : ObjectRow) → r ≡ Some o → (m && is_some r) ≡ true → P (fired S n w o)) → P (if m then fire_into r S (n, w) else S)
      pick false r stays goes = stays refl
      pick true None stays goes = stays refl
      pick true (Some o) stays goes = goes o refl refl

  fire-idle : (S : State) (n : ℕ) (w : Wait) → fires S w ≡ false → fire B S (n, w) ≡ S
  fire-idle S n w e = fire-either (λ T. T ≡ S) S n w (λ _. refl) (λ o there t. absurd (true≢false (fires S w) t e))

  entry-fire : (S : State) (n : ℕ) (w : Wait) (p h : ℕ) → entry (fire B S (n, w)) p h ≡ entry S p h
  entry-fire S n w p h = fire-either (λ T. entry T p h ≡ entry S p h) S n w (λ _. refl) (λ o _ _. ap as_entry (row-fired S n w o (key.Entry p h)))

  as_wait-cond : (b : Bool) (r : Option Row) → as_wait (cond b None r) ≡ cond b None (as_wait r)
  as_wait-cond true r = refl
  as_wait-cond false r = refl

  wait-fire : (S : State) (n : ℕ) (w : Wait) (m : ℕ) → wait (fire B S (n, w)) m ≡ cond (fires S w && (m == n)) None (wait S m)
  wait-fire S n w m =
      fire-either (λ T. wait T m ≡ cond (fires S w && (m == n)) None (wait S m)) S n w
      (λ e. sym (ap (λ b. cond (b && (m == n)) None (wait S m)) e))
      (λ o _ t. ap as_wait (row-fired S n w o (key.Wait m)) ∙ as_wait-cond (m == n) (row S (key.Wait m)) ∙ sym (ap (λ b. cond (b && (m == n)) None (wait S m)) t))

  left-wait : (b : Bool) (r : Option Wait) (w : Wait) → cond b None r ≡ Some w → r ≡ Some w
  left-wait true r w e = cc
  left-wait false r w e = e

  pub wait-left : (S : State) (n : ℕ) (w : Wait) (m : ℕ) (v : Wait) → wait (fire B S (n, w)) m ≡ Some v → wait S m ≡ Some v
  wait-left S n w m v e = left-wait (fires S w && (m == n)) (wait S m) v (sym (wait-fire S n w m) ∙ e)

  -- what a raised next number changes nothing of
  kept-fired : {A : Type 0} (f : Option ObjectRow → A) → ((o : ObjectRow) → f (Some (raised o)) ≡ f (Some o)) → (S : State) (n : ℕ) (w : Wait) (o : ObjectRow) (x : ℕ) → object S w.port ≡ Some o → f (object (fired S n w o) x) ≡ f (object S x)
  kept-fired f alike S n w o x there = ap (λ r. f (as_object r)) (row-fired S n w o (key.Object x)) ∙ by (x == w.port) refl
    where
      by : (b : Bool) → (x == w.port) ≡ b → f (as_object (cond b (Some (rows.Object (raised o))) (row S (key.Object x)))) ≡ f (object S x)
      by true e = alike o ∙ ap f (sym there ∙ ap (object S) (sym (eqb-true x w.port e)))
      by false e = refl

  kept-fire : {A : Type 0} (f : Option ObjectRow → A) → ((o : ObjectRow) → f (Some (raised o)) ≡ f (Some o)) → (S : State) (n : ℕ) (w : Wait) (x : ℕ) → f (object (fire B S (n, w)) x) ≡ f (object S x)
  kept-fire f alike S n w x = fire-either (λ T. f (object T x) ≡ f (object S x)) S n w (λ _. refl) (λ o there _. kept-fired f alike S n w o x there)

  pub met-fire : (S : State) (n : ℕ) (w v : Wait) → is_met B (fire B S (n, w)) v ≡ is_met B S v
  met-fire S n w v = met-same B S (fire B S (n, w)) (entry-fire S n w) (λ x. kept-fire object_signals (λ o. refl) S n w x) v

  fires-fire : (S : State) (n : ℕ) (w v : Wait) → fires (fire B S (n, w)) v ≡ fires S v
  fires-fire S n w v =
      let met : is_met B (fire B S (n, w)) v ≡ is_met B S v = met-fire S n w v in
      let there : is_some (object (fire B S (n, w)) v.port) ≡ is_some (object S v.port) = kept-fire is_some (λ o. refl) S n w v.port in
      λ i. met i && there i

  -- ---- several

  idle-fold : (L : List (ℕ × Wait)) (S : State) → ((n : ℕ) (w : Wait) → In (n, w) L → fires S w ≡ false) → fold (fire B) S L ≡ S
  idle-fold [] S h = refl
  idle-fold ((n, w) ∷ L) S h = ap (λ T. fold (fire B) T L) (fire-idle S n w (h n w (inl refl))) ∙ idle-fold L S (λ m v l. h m v (inr l))

  -- a list of waits by rising number, at the one of number m: nothing before it fires, and what is behind it
  record IsSplit (L : List (ℕ × Wait)) (m : ℕ) (w : Wait) : Type 0 where
    behind : List (ℕ × Wait)
    same : (S : State) → ((n : ℕ) (v : Wait) → In (n, v) L → fires S v ≡ true → m ≤ n) → fold (fire B) S L ≡ fold (fire B) (fire B S (m, w)) behind
    part : (n : ℕ) (v : Wait) → In (n, v) behind → In (n, v) L
    above : (n : ℕ) (v : Wait) → In (n, v) behind → m < n
    ordered : IsOrdered behind
    all : (n : ℕ) (v : Wait) → In (n, v) L → m < n → In (n, v) behind

  split : (L : List (ℕ × Wait)) (m : ℕ) (w : Wait) → IsOrdered L → In (m, w) L → IsSplit L m w
  split [] m w order l = absurd l
  split ((n, v) ∷ L) m w order (inl is) =
      let number : m ≡ n = ap (λ (z : ℕ × Wait). z.0) is in
      record {
        behind = L;
        same = λ S least. ap (λ (e : ℕ × Wait). fold (fire B) (fire B S e) L) (sym is);
        part = λ k u l. inr l;
        above = λ k u l. let less : n < k = order.0 k u l in omega arith;
        ordered = order.1;
        all = λ k u l more. elim l [ inl here ↦ let k_is : k ≡ n = ap (λ (z : ℕ × Wait). z.0) here in absurd (omega arith) | inr later ↦ later ];
      }
  split ((n, v) ∷ L) m w order (inr l) =
      let s = split L m w order.1 l in
      let less : n < m = order.0 m w l in
      record {
        behind = s.behind;
        same = λ S least.
            let idle : fires S v ≡ false = not_true (fires S v) (λ t. let le : m ≤ n = least n v (inl refl) t in omega arith) in
            ap (λ T. fold (fire B) T L) (fire-idle S n v idle) ∙ s.same S (λ k u j t. least k u (inr j) t);
        part = λ k u j. inr (s.part k u j);
        above = s.above;
        ordered = s.ordered;
        all = λ k u j more. elim j [ inl here ↦ let k_is : k ≡ n = ap (λ (z : ℕ × Wait). z.0) here in absurd (omega arith) | inr later ↦ s.all k u later more ];
      }

  -- nothing fires where there is no wait
  pub fires-nothing : (S : State) → ((n : ℕ) → wait S n ≡ None) → fold (fire B) S (waits S) ≡ S
  fires-nothing S none = idle-fold (waits S) S (λ n w l. none-left (wait S n) (none n) (in-waits S n w l))
    where
      none-left : {A : Type 0} {v : Wait} (r : Option Wait) → r ≡ None → r ≡ Some v → A
      none-left r p q = cc

  -- ---- by number

  -- each number is at least the one before it
  abbrev IsRising : List ℕ → Type 0
  IsRising [] = Unit {0}
  IsRising (m ∷ ms) = ((n : ℕ) → among ms n ≡ true → m ≤ n) × IsRising ms

  -- the waits of the list are there, and those that fire are those of the numbers
  record IsDue (ns : List ℕ) (L : List (ℕ × Wait)) (S : State) : Type 0 where
    there : (n : ℕ) (w : Wait) → In (n, w) L → wait S n ≡ Some w
    cover : (n : ℕ) (w : Wait) → In (n, w) L → fires S w ≡ true → among ns n ≡ true
    within : (n : ℕ) (w : Wait) → among ns n ≡ true → wait S n ≡ Some w → fires S w ≡ true → In (n, w) L

  none-some : {A : Type 0} {w : Wait} (r : Option Wait) → r ≡ None → r ≡ Some w → A
  none-some r p q = cc

  -- a number whose wait does not fire may go
  due-idle : (m : ℕ) (ns : List ℕ) (L : List (ℕ × Wait)) (S : State) → ((w : Wait) → wait S m ≡ Some w → fires S w ≡ true → ⊥) → IsDue (m ∷ ns) L S → IsDue ns L S
  due-idle m ns L S idle due = record {
    there = due.there;
    cover = λ n w l t. elim (or_true (m == n) (among ns n) (due.cover n w l t)) [
      | inl same ↦ absurd (idle w (ap (wait S) (eqb-true m n same) ∙ due.there n w l) t)
      | inr later ↦ later
    ];
    within = λ n w a e t. due.within n w (or_right (m == n) (among ns n) a) e t;
  }

  due-fired : (m : ℕ) (w : Wait) (ns : List ℕ) (L : List (ℕ × Wait)) (S : State) → IsRising (m ∷ ns) → fires S w ≡ true → (s : IsSplit L m w) → IsDue (m ∷ ns) L S → IsDue ns s.behind (fire B S (m, w))
  due-fired m w ns L S rising here s due = record {
    there = λ n v l.
        let less : m < n = s.above n v l in
        let other : (n == m) ≡ false = not_true (n == m) (λ t. let is : n ≡ m = eqb-true n m t in omega arith) in
        wait-fire S m w n ∙ ap (λ b. cond (fires S w && b) None (wait S n)) other ∙ none-of (fires S w) (wait S n) ∙ due.there n v (s.part n v l);
    cover = λ n v l t. elim (or_true (m == n) (among ns n) (due.cover n v (s.part n v l) (sym (fires-fire S m w v) ∙ t))) [
      | inl same ↦ let less : m < n = s.above n v l in let is : m ≡ n = eqb-true m n same in absurd (omega arith)
      | inr later ↦ later
    ];
    within = λ n v a e t.
        let le : m ≤ n = rising.0 n a in
        let left : cond (fires S w && (n == m)) None (wait S n) ≡ Some v = sym (wait-fire S m w n) ∙ e in
        let other : n ≡ m → ⊥ = λ is. none-some _ (λ i. cond (here i && eq-eqb n m is i) None (wait S n)) left in
        let less : m < n = elim (cases_lt m n) [ inl less ↦ less | inr ge ↦ let is : n ≡ m = omega arith in absurd (other is) ] in
        let apart : (n == m) ≡ false = not_true (n == m) (λ q. other (eqb-true n m q)) in
        let stood : wait S n ≡ Some v = sym (ap (λ b. cond (fires S w && b) None (wait S n)) apart ∙ none-of (fires S w) (wait S n)) ∙ left in
        s.all n v (due.within n v (or_right (m == n) (among ns n) a) stood (sym (fires-fire S m w v) ∙ t)) less;
  }
    where
      none-of : (b : Bool) (r : Option Wait) → cond (b && false) None r ≡ r
      none-of true r = refl
      none-of false r = refl

  -- the first of the numbers, where the others are done
  fired-first : (m : ℕ) (ns : List ℕ) (L : List (ℕ × Wait)) (S : State) → IsRising (m ∷ ns) → IsOrdered L → IsDue (m ∷ ns) L S
      → ((M : List (ℕ × Wait)) (U : State) → IsOrdered M → IsDue ns M U → fold (fire_number B) U ns ≡ fold (fire B) U M) → fold (fire_number B) (fire_number B S m) ns ≡ fold (fire B) S L
  fired-first m ns L S rising order due others = by (wait S m) refl
    where
      number-is : (r : Option Wait) → wait S m ≡ r → fire_number B S m ≡ fire_if B S m r
      number-is r e = ap (fire_if B S m) e

      idle : fire_number B S m ≡ S → ((w : Wait) → wait S m ≡ Some w → fires S w ≡ true → ⊥) → fold (fire_number B) (fire_number B S m) ns ≡ fold (fire B) S L
      idle same none = ap (λ T. fold (fire_number B) T ns) same ∙ others L S order (due-idle m ns L S none due)

      here : (w : Wait) → wait S m ≡ Some w → fires S w ≡ true → fold (fire_number B) (fire_number B S m) ns ≡ fold (fire B) S L
      here w e t =
          let l : In (m, w) L = due.within m w (or_left (m == m) (among ns m) (eq-eqb m m refl)) e t in
          let s : IsSplit L m w = split L m w order l in
          ap (λ T. fold (fire_number B) T ns) (number-is (Some w) e)
          ∙ others s.behind (fire B S (m, w)) s.ordered (due-fired m w ns L S rising t s due)
          ∙ sym (s.same S (λ n v j u. elim (or_true (m == n) (among ns n) (due.cover n v j u)) [ inl same ↦ let is : m ≡ n = eqb-true m n same in omega arith | inr later ↦ rising.0 n later ]))

      one : (w v : Wait) → wait S m ≡ Some w → wait S m ≡ Some v → fires S w ≡ fires S v
      one w v e f = ap (fires S) (some_one w v (sym e ∙ f))

      some : (w : Wait) → wait S m ≡ Some w → (b : Bool) → fires S w ≡ b → fold (fire_number B) (fire_number B S m) ns ≡ fold (fire B) S L
      some w e true t = here w e t
      some w e false t = idle (number-is (Some w) e ∙ fire-idle S m w t) (λ v f u. true≢false (fires S w) (one w v e f ∙ u) t)

      by : (r : Option Wait) → wait S m ≡ r → fold (fire_number B) (fire_number B S m) ns ≡ fold (fire B) S L
      by None e = idle (number-is None e) (λ w f _. none-some (wait S m) e f)
      by (Some w) e = some w e (fires S w) refl

  fired-each : (ns : List ℕ) (L : List (ℕ × Wait)) (S : State) → IsRising ns → IsOrdered L → IsDue ns L S → fold (fire_number B) S ns ≡ fold (fire B) S L
  fired-each [] L S rising order due = sym (idle-fold L S (λ n w l. not_true (fires S w) (λ t. let e : false ≡ true = due.cover n w l t in cc)))
  fired-each (m ∷ ns) L S rising order due = fired-first m ns L S rising order due (λ M U o d. fired-each ns M U rising.1 o d)

  -- ---- numbers that were sorted

  among-at : (ms : List ℕ) (n : ℕ) → among ms n ≡ true → (j : ℕ) × (j < length ms) × (get_or ms j 0 ≡ n)
  among-at [] n h = cc
  among-at (m ∷ ms) n h = elim (or_true (m == n) (among ms n) h) [
    | inl same ↦ (0, omega arith, eqb-true m n same)
    | inr later ↦ let w = among-at ms n later in (suc w.0, omega (arith, w.1), w.2)
  ]

  rising-sorted : (ns : List ℕ) → IsNonDecreasingBy (λ x. x) ns → IsRising ns
  rising-sorted [] h = tt
  rising-sorted (m ∷ ns) h = (
    λ n a. let w = among-at ns n a in subst (λ k. m ≤ k) w.2 (h 0 (suc w.0) 0 (omega arith) (omega (arith, w.1))),
    rising-sorted ns (λ i j d le lt. h (suc i) (suc j) d (omega arith) (omega arith)),
  )

  -- numbers among which are all that are met, sorted, fire what all waits fire
  pub fired_by_number : (S : State) (found ns : List ℕ) → HasMet B S found → IsPermutation found ns → IsNonDecreasingBy (λ x. x) ns → fold (fire_number B) S ns ≡ fold (fire B) S (waits S)
  fired_by_number S found ns met moved sorted =
      fired-each ns (waits S) S (rising-sorted ns sorted) (ordered-waits S) (record {
        there = in-waits S;
        cover = λ n w l t.
            sym (list_any-IsPermutation (λ m. m == n) found ns moved)
            ∙ met.each n w (in-waits S n w l) (and_left (is_met B S w) (is_some (object S w.port)) t);
        within = λ n w a e t. waits-in S n w e;
      })
