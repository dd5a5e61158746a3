-- Rows put one behind another: those before a key, and the row under it, are those before the next key that passes.
use Rattle.std.proofs.Common.{◌≡◌, suc, ◌+◌, ◌-◌, ◌≤◌, ◌<◌, Bool, true, false, cond, ◌&&◌, T, List, [], ◌∷◌, ◌++◌, length, Option, Some, None, inl, inr, refl, sym, ◌∙◌, ap, subst, arith, append-nil, length-append}
use Rattle.std.specs.Prelude.{filter}
use Rattle.std.specs.FinMap.Entries as entries
use Rattle.std.specs.declared.cmp.Ordering.{Ordering}
use Rattle.std.specs.declared.cmp.Ordering.TheVariants.{Less, Equal, Greater}
use Rattle.std.specs.Ordering.{is_lt, ordering_reverse}
use Rattle.std.specs.Cmp.{tied_itself}
use Rattle.zt_rows.specs.declared.keys.RowKey.{RowKey}
use Rattle.zt_rows.specs.declared.rows.Row.{Row}
use Rattle.zt_rows.specs.Keys.{rowkey_cmp}
use Rattle.zt_rows.specs.ProofsOnly.KeyOrder.{rowkey_cmp_total, rowkey_cmp-equal}
use Rattle.zt_rows.specs.State.{State, row}
use Rattle.zt_rows.proofs.RowLaws.{In, row-in, in-row}
use Rattle.zt_look.specs.ObjectLook.{rows_where}
use Rattle.zt_look.specs.ProofsOnly.RowWalk.{under, is_before, rows_before}

-- ---- tests

left_of : (a b : Bool) → T (a && b) → T a
left_of true b h = tt
left_of false b h = h

right_of : (a b : Bool) → T (a && b) → T b
right_of true b h = h
right_of false b h = absurd h

holds : (a : Bool) → T a → a ≡ true
holds true h = refl
holds false h = absurd h

and_false : (a b : Bool) → (a ≡ true → b ≡ false) → (a && b) ≡ false
and_false true b f = f refl
and_false false b f = refl

same_and : (a b t : Bool) → (t ≡ true → a ≡ b) → (a && t) ≡ (b && t)
same_and true true t f = refl
same_and false false t f = refl
same_and true false true f = f refl
same_and true false false f = refl
same_and false true true f = f refl
same_and false true false f = refl

-- ---- the order of keys

less_of : (o : Ordering) → is_lt o ≡ true → o ≡ Less
less_of Less e = refl
less_of Equal e = cc
less_of Greater e = cc

itself : (k : RowKey) → is_lt (rowkey_cmp k k) ≡ false
itself k = ap is_lt (tied_itself rowkey_cmp_total k)

turned : (a b : RowKey) → rowkey_cmp a b ≡ Less → rowkey_cmp b a ≡ Greater
turned a b h = rowkey_cmp_total.antisymm b a ∙ ap ordering_reverse h

-- ---- filters

pub filter-none : {A : Type 0} (t : A → Bool) (es : List A) → ((e : A) → In e es → t e ≡ false) → filter t es ≡ []
filter-none t [] f = refl
filter-none t (e ∷ es) f =
    ap (λ b. cond b (e ∷ filter t es) (filter t es)) (f e (inl refl)) ∙ filter-none t es (λ q m. f q (inr m))

pub filter-same : {A : Type 0} (t u : A → Bool) (es : List A) → ((e : A) → In e es → t e ≡ u e) → filter t es ≡ filter u es
filter-same t u [] f = refl
filter-same t u (e ∷ es) f =
    ap (λ b. cond b (e ∷ filter t es) (filter t es)) (f e (inl refl)) ∙ ap (λ l. cond (u e) (e ∷ l) l) (filter-same t u es (λ q m. f q (inr m)))

fewer : {A : Type 0} (t : A → Bool) (es : List A) → length (filter t es) ≤ length es
fewer t [] = omega arith
fewer t (e ∷ es) =
    let rest : length (filter t es) ≤ length es = fewer t es in
    elim (t e) as (λ b. length (cond b (e ∷ filter t es) (filter t es)) ≤ suc (length es)) [ true ↦ omega (arith, rest) | false ↦ omega (arith, rest) ]

-- ---- rows in order

below_in : (x : RowKey) (es : List (RowKey × Row)) (e : RowKey × Row) → T (entries.below_all rowkey_cmp x es) → In e es → rowkey_cmp x e.0 ≡ Less
below_in x [] e b m = absurd m
below_in x (f ∷ es) e b (inl p) =
    subst (λ (g : RowKey × Row). rowkey_cmp x g.0 ≡ Less) (sym p) (less_of (rowkey_cmp x f.0) (holds (is_lt (rowkey_cmp x f.0)) (left_of _ _ b)))
below_in x (f ∷ es) e b (inr m) = below_in x es e (right_of _ _ b) m

-- nothing that passes stands between the two keys
abbrev NoneBetween : (RowKey × Row → Bool) → RowKey → Option RowKey → List (RowKey × Row) → Type 0
NoneBetween test k next es = (e : RowKey × Row) → In e es → rowkey_cmp k e.0 ≡ Less → is_before next e.0 ≡ true → test e ≡ false

before_next : (k : RowKey) (next : Option RowKey) (q : RowKey) → ((n : RowKey) → next ≡ Some n → rowkey_cmp k n ≡ Less) → rowkey_cmp q k ≡ Less → is_before next q ≡ true
before_next k None q f h = refl
before_next k (Some n) q f h = ap is_lt (rowkey_cmp_total.trans q k n h (f n refl))

itself_before : (k : RowKey) (next : Option RowKey) → ((n : RowKey) → next ≡ Some n → rowkey_cmp k n ≡ Less) → is_before next k ≡ true
itself_before k None f = refl
itself_before k (Some n) f = ap is_lt (f n refl)

module _ (test : RowKey × Row → Bool) (k : RowKey) (next : Option RowKey) (above : (n : RowKey) → next ≡ Some n → rowkey_cmp k n ≡ Less) where
  -- the key has a row, which passes
  more_in : (r : Row) (es : List (RowKey × Row)) → T (entries.is_sorted rowkey_cmp es) → In (k, r) es → test (k, r) ≡ true → NoneBetween test k next es
      → rows_before test next es ≡ rows_before test (Some k) es ++ (k, r) ∷ []
  more_in r [] s m p none = absurd m
  more_in r (e ∷ es) s (inl at) p none =
      let below : T (entries.below_all rowkey_cmp e.0 es) = left_of _ _ s in
      let key : k ≡ e.0 = ap (λ (f : RowKey × Row). f.0) at in
      let higher : (f : RowKey × Row) → In f es → rowkey_cmp k f.0 ≡ Less = λ f m. ap (λ q. rowkey_cmp q f.0) key ∙ below_in e.0 es f below m in
      let first : (is_before next e.0 && test e) ≡ true = ap (λ (f : RowKey × Row). is_before next f.0 && test f) (sym at) ∙ ap (λ b. b && test (k, r)) (itself_before k next above) ∙ p in
      let never : (is_before (Some k) e.0 && test e) ≡ false = ap (λ (f : RowKey × Row). is_before (Some k) f.0 && test f) (sym at) ∙ ap (λ b. b && test (k, r)) (itself k) in
      let rest : rows_before test next es ≡ [] = filter-none (λ f. is_before next f.0 && test f) es (λ f m. and_false (is_before next f.0) (test f) (none f (inr m) (higher f m))) in
      let nothing : rows_before test (Some k) es ≡ [] = filter-none (λ f. is_before (Some k) f.0 && test f) es (λ f m. ap (λ b. b && test f) (ap is_lt (turned k f.0 (higher f m)))) in
      ap (λ b. cond b (e ∷ rows_before test next es) (rows_before test next es)) first
      ∙ ap (λ l. e ∷ l) rest
      ∙ ap (λ f. f ∷ []) (sym at)
      ∙ ap (λ l. l ++ (k, r) ∷ []) (sym nothing)
      ∙ ap (λ b. cond b (e ∷ rows_before test (Some k) es) (rows_before test (Some k) es) ++ (k, r) ∷ []) (sym never)
  more_in r (e ∷ es) s (inr m) p none =
      let low : rowkey_cmp e.0 k ≡ Less = below_in e.0 es (k, r) (left_of _ _ s) m in
      let here : is_before next e.0 ≡ true = before_next k next e.0 above low in
      let there : is_before (Some k) e.0 ≡ true = ap is_lt low in
      let rest : rows_before test next es ≡ rows_before test (Some k) es ++ (k, r) ∷ [] = more_in r es (right_of _ _ s) m p (λ f q. none f (inr q)) in
      ap (λ b. cond (b && test e) (e ∷ rows_before test next es) (rows_before test next es)) here
      ∙ ap (λ l. cond (test e) (e ∷ l) l) rest
      ∙ pushed (test e) e (rows_before test (Some k) es) (k, r)
      ∙ ap (λ b. cond (b && test e) (e ∷ rows_before test (Some k) es) (rows_before test (Some k) es) ++ (k, r) ∷ []) (sym there)
    where
      pushed : (b : Bool) (e : RowKey × Row) (l : List (RowKey × Row)) (f : RowKey × Row) → cond b (e ∷ (l ++ f ∷ [])) (l ++ f ∷ []) ≡ cond b (e ∷ l) l ++ f ∷ []
      pushed true e l f = refl
      pushed false e l f = refl

  -- the key has no row
  same_in : (es : List (RowKey × Row)) → ((r : Row) → In (k, r) es → ⊥) → NoneBetween test k next es → rows_before test next es ≡ rows_before test (Some k) es
  same_in es empty none =
      filter-same (λ e. is_before next e.0 && test e) (λ e. is_before (Some k) e.0 && test e) es (λ e m. same_and (is_before next e.0) (is_before (Some k) e.0) (test e) (λ p. by e m p (rowkey_cmp e.0 k) refl))
    where
      by : (e : RowKey × Row) → In e es → test e ≡ true → (o : Ordering) → rowkey_cmp e.0 k ≡ o → is_before next e.0 ≡ is_before (Some k) e.0
      by e m p Less h = before_next k next e.0 above h ∙ sym (ap is_lt h)
      by e m p Equal h =
          let same : e.0 ≡ k = rowkey_cmp-equal e.0 k h in
          absurd (empty e.1 (subst (λ q. In (q, e.1) es) same m))
      by e m p Greater h =
          let high : rowkey_cmp k e.0 ≡ Less = rowkey_cmp_total.antisymm k e.0 ∙ ap ordering_reverse h in
          short (is_before next e.0) refl high ∙ sym (ap is_lt h)
        where
          short : (b : Bool) → is_before next e.0 ≡ b → rowkey_cmp k e.0 ≡ Less → is_before next e.0 ≡ false
          short false g high = g
          short true g high = let never : test e ≡ false = none e m high g in cc

-- ---- of a state

-- nothing that passes stands behind the key and before the next one
pub record IsGap (S : State) (test : RowKey × Row → Bool) (k : RowKey) (next : Option RowKey) : Type 0 where
  pub above : (n : RowKey) → next ≡ Some n → rowkey_cmp k n ≡ Less
  pub empty : (q : RowKey) (r : Row) → row S q ≡ Some r → rowkey_cmp k q ≡ Less → is_before next q ≡ true → test (q, r) ≡ false

none_between : (S : State) (test : RowKey × Row → Bool) (k : RowKey) (next : Option RowKey) → IsGap S test k next → NoneBetween test k next S.rows
none_between S test k next gap e m = gap.empty e.0 e.1 (in-row S e.0 e.1 m)

pub walk-more : (S : State) (test : RowKey × Row → Bool) (k : RowKey) (next : Option RowKey) (list new : List (RowKey × Row)) → list ≡ rows_before test (Some k) S.rows
    → new ≡ list ++ under k (row S k) → ((r : Row) → row S k ≡ Some r → test (k, r) ≡ true) → IsGap S test k next → new ≡ rows_before test next S.rows
walk-more S test k next list new so_far more passes gap = by (row S k) refl
  where
    by : (o : Option Row) → row S k ≡ o → new ≡ rows_before test next S.rows
    by (Some r) at =
        more ∙ ap (λ o. list ++ under k o) at ∙ ap (λ l. l ++ (k, r) ∷ []) so_far
        ∙ sym (more_in test k next gap.above r S.rows S.sorted (row-in S k r at) (passes r at) (none_between S test k next gap))
    by None at =
        more ∙ ap (λ o. list ++ under k o) at ∙ append-nil list ∙ so_far
        ∙ sym (same_in test k next gap.above S.rows (λ r m. never r (in-row S k r m) at) (none_between S test k next gap))
      where
        never : (r : Row) → row S k ≡ Some r → row S k ≡ None → ⊥
        never r e n = cc

-- nothing that passes stands before the first key
pub walk-first : (S : State) (test : RowKey × Row → Bool) (next : Option RowKey) → ((q : RowKey) (r : Row) → row S q ≡ Some r → is_before next q ≡ true → test (q, r) ≡ false)
    → [] ≡ rows_before test next S.rows
walk-first S test next empty =
    sym (filter-none (λ e. is_before next e.0 && test e) S.rows (λ e m. and_false (is_before next e.0) (test e) (empty e.0 e.1 (in-row S e.0 e.1 m))))

-- all that passes stands before the key
pub walk-all : (S : State) (test : RowKey × Row → Bool) (next : Option RowKey) (list : List (RowKey × Row)) → list ≡ rows_before test next S.rows
    → ((q : RowKey) (r : Row) → row S q ≡ Some r → test (q, r) ≡ true → is_before next q ≡ true) → list ≡ rows_where S test
walk-all S test next list so_far all =
    so_far ∙ filter-same (λ e. is_before next e.0 && test e) test S.rows (λ e m. by (test e) refl (all e.0 e.1 (in-row S e.0 e.1 m)))
  where
    by : (b : Bool) {e : RowKey × Row} → test e ≡ b → (test e ≡ true → is_before next e.0 ≡ true) → (is_before next e.0 && test e) ≡ test e
    by true {e} h f = ap (λ c. c && test e) (f h)
    by false {e} h f = ap (λ c. is_before next e.0 && c) h ∙ never (is_before next e.0) ∙ sym h
      where
        never : (a : Bool) → (a && false) ≡ false
        never true = refl
        never false = refl

-- a row more, so fewer are left
pub walk-fewer : (S : State) (test : RowKey × Row → Bool) (k : RowKey) (r : Row) (next : Option RowKey) (list new : List (RowKey × Row)) → row S k ≡ Some r
    → new ≡ list ++ under k (row S k) → new ≡ rows_before test next S.rows → length S.rows - length new < length S.rows - length list
walk-fewer S test k r next list new at more is =
    let long : length new ≡ length list + 1 = ap length (more ∙ ap (λ o. list ++ under k o) at) ∙ length-append list ((k, r) ∷ []) in
    let within : length new ≤ length S.rows = subst (λ l. length l ≤ length S.rows) (sym is) (fewer (λ e. is_before next e.0 && test e) S.rows) in
    omega (arith, long, within)
