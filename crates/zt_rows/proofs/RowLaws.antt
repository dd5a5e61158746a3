-- From what stands under each key to the list of rows and back: a row that passes a test, and how many pass.
use Rattle.std.proofs.Common.{◌≡◌, ◌≤◌, ◌<◌, ℕ, ◌+◌, Bool, true, false, cond, not, ◌&&◌, ◌||◌, T, List, [], ◌∷◌, ◌⊎◌, inl, inr, refl, sym, ap, ◌∙◌, subst, arith}
use Rattle.std.specs.Prelude.{Option, None, Some}
use Rattle.std.specs.List.{list_any, filter_map, count_by, cons_option}
use Rattle.std.proofs.lemmas.List.Sums.{sum_by-cons}
use Rattle.std.specs.FinMap.Entries as entries
use Rattle.std.specs.Ordering.{eq_by_cmp}
use Rattle.std.specs.declared.cmp.Ordering.TheVariants.{Less, Equal, Greater}
use Rattle.zt_rows.specs.declared.keys.RowKey.{RowKey}
use Rattle.zt_rows.specs.declared.rows.Row.{Row}
use Rattle.zt_rows.specs.Keys.{rowkey_cmp, rowkey_eq}
use Rattle.zt_rows.specs.ProofsOnly.KeyOrder.{rowkey_cmp-equal, rowkey_eq-equal, rowkey_eq-decides, rowkey_eq-cmp}
use Rattle.zt_rows.specs.RowOrder.{changed_rows, kept}
use Rattle.zt_rows.specs.State.{State, row, put, change}
use Rattle.zt_rows.specs.Tests.{any_row, count_row}
use Rattle.zt_rows.proofs.StateLaws.{find_below}

-- the element is in the list
abbrev pub In : {A : Type 0} → A → List A → Type 0
In x [] = ⊥
In x (y ∷ ys) = (x ≡ y) ⊎ In x ys

-- ---- a test and its answer

pub or_true : (a b : Bool) → (a || b) ≡ true → (a ≡ true) ⊎ (b ≡ true)
or_true true b h = inl refl
or_true false b h = inr h

pub or_left : (a b : Bool) → a ≡ true → (a || b) ≡ true
or_left true b h = refl
or_left false b h = cc

pub or_right : (a b : Bool) → b ≡ true → (a || b) ≡ true
or_right true b h = refl
or_right false b h = h

pub and_left : (a b : Bool) → (a && b) ≡ true → a ≡ true
and_left true b h = refl
and_left false b h = cc

pub and_right : (a b : Bool) → (a && b) ≡ true → b ≡ true
and_right true b h = h
and_right false b h = cc

pub and_both : (a b : Bool) → a ≡ true → b ≡ true → (a && b) ≡ true
and_both true b h g = g
and_both false b h g = cc

pub true≢false : (b : Bool) → b ≡ true → b ≡ false → ⊥
true≢false b h g = cc

-- two tests of which each holds where the other does are one
pub same_test : (a b : Bool) → (a ≡ true → b ≡ true) → (b ≡ true → a ≡ true) → a ≡ b
same_test true b h g = sym (h refl)
same_test false true h g = g refl
same_test false false h g = refl

pub not_true : (b : Bool) → (b ≡ true → ⊥) → b ≡ false
not_true true h = absurd (h refl)
not_true false h = refl

-- ---- lists

pub list_any-in : {A : Type 0} (p : A → Bool) (x : A) (xs : List A) → In x xs → p x ≡ true → list_any p xs ≡ true
list_any-in p x [] m h = absurd m
list_any-in p x (y ∷ ys) (inl e) h = or_left (p y) _ (subst (λ z. p z ≡ true) e h)
list_any-in p x (y ∷ ys) (inr m) h = or_right (p y) _ (list_any-in p x ys m h)

in-list_any_of : {A : Type 0} (p : A → Bool) (y : A) (ys : List A) → ((list_any p ys ≡ true) → (x : A) × In x ys × (p x ≡ true)) → (p y ≡ true) ⊎ (list_any p ys ≡ true) → (x : A) × In x (y ∷ ys) × (p x ≡ true)
in-list_any_of p y ys later (inl e) = (y, inl refl, e)
in-list_any_of p y ys later (inr e) = let w = later e in (w.0, inr w.1, w.2)

pub in-list_any : {A : Type 0} (p : A → Bool) (xs : List A) → list_any p xs ≡ true → (x : A) × In x xs × (p x ≡ true)
in-list_any p [] h = cc
in-list_any p (y ∷ ys) h = in-list_any_of p y ys (λ e. in-list_any p ys e) (or_true (p y) _ h)

in-cons_option : {A : Type 0} (x : A) (o : Option A) (xs : List A) → In x (cons_option o xs) → (o ≡ Some x) ⊎ In x xs
in-cons_option x None xs m = inr m
in-cons_option x (Some y) xs (inl e) = inl (ap Some (sym e))
in-cons_option x (Some y) xs (inr m) = inr m

cons_option-in : {A : Type 0} (x : A) (o : Option A) (xs : List A) → (o ≡ Some x) ⊎ In x xs → In x (cons_option o xs)
cons_option-in x None xs (inl e) = cc
cons_option-in x None xs (inr m) = m
cons_option-in x (Some y) xs (inl e) = inl (cc)
cons_option-in x (Some y) xs (inr m) = inr m

in-filter_map_of : {A B : Type 0} (f : A → Option B) (b : B) (x : A) (xs : List A) → (In b (filter_map f xs) → (y : A) × In y xs × (f y ≡ Some b)) → (f x ≡ Some b) ⊎ In b (filter_map f xs) → (y : A) × In y (x ∷ xs) × (f y ≡ Some b)
in-filter_map_of f b x xs later (inl e) = (x, inl refl, e)
in-filter_map_of f b x xs later (inr m) = let w = later m in (w.0, inr w.1, w.2)

pub in-filter_map : {A B : Type 0} (f : A → Option B) (b : B) (xs : List A) → In b (filter_map f xs) → (y : A) × In y xs × (f y ≡ Some b)
in-filter_map f b [] m = absurd m
in-filter_map f b (x ∷ xs) m = in-filter_map_of f b x xs (λ g. in-filter_map f b xs g) (in-cons_option b (f x) _ m)

pub filter_map-in : {A B : Type 0} (f : A → Option B) (b : B) (y : A) (xs : List A) → In y xs → f y ≡ Some b → In b (filter_map f xs)
filter_map-in f b y [] m e = absurd m
filter_map-in f b y (x ∷ xs) (inl p) e = cons_option-in b (f x) _ (inl (ap f (sym p) ∙ e))
filter_map-in f b y (x ∷ xs) (inr m) e = cons_option-in b (f x) _ (inr (filter_map-in f b y xs m e))

-- ---- rows

left_of : (a b : Bool) → T (a && b) → T a
left_of true b h = tt
left_of false b h = h

right_of : (a b : Bool) → T (a && b) → T b
right_of true b h = h
right_of false b h = absurd h

tied : (q k : RowKey) → eq_by_cmp rowkey_cmp q k ≡ true → q ≡ k
tied q k h = rowkey_eq-equal q k (sym (rowkey_eq-cmp q k) ∙ h)

ties : (q k : RowKey) → q ≡ k → eq_by_cmp rowkey_cmp q k ≡ true
ties q k e = rowkey_eq-cmp q k ∙ (rowkey_eq-decides q k).1 e

find-in : (q : RowKey) (r : Row) (es : List (RowKey × Row)) → entries.find rowkey_cmp q es ≡ Some r → In (q, r) es
find-in q r [] h = cc
find-in q r (e ∷ es) h =
    elim (eq_by_cmp rowkey_cmp q e.0) as (λ b. eq_by_cmp rowkey_cmp q e.0 ≡ b → cond b (Some e.1) (entries.find rowkey_cmp q es) ≡ Some r → ((q, r) ≡ e) ⊎ In (q, r) es) [
      | true ↦ λ t s. let same : q ≡ e.0 = tied q e.0 t in let value : r ≡ e.1 = cc in inl (λ i. (same i, value i))
      | false ↦ λ t s. inr (find-in q r es s)
    ] refl h

no_row : {A : Type 0} {r : Row} (o : Option Row) → o ≡ None → o ≡ Some r → A
no_row o p q = cc

in-find : (q : RowKey) (r : Row) (es : List (RowKey × Row)) → T (entries.is_sorted rowkey_cmp es) → In (q, r) es → entries.find rowkey_cmp q es ≡ Some r
in-find q r [] s m = absurd m
in-find q r (e ∷ es) s (inl p) =
    let found : entries.find rowkey_cmp q (e ∷ es) ≡ Some e.1 = ap (λ b. cond b (Some e.1) (entries.find rowkey_cmp q es)) (ties q e.0 (ap (λ (x : RowKey × Row). x.0) p)) in
    found ∙ ap (λ (x : RowKey × Row). Some x.1) (sym p)
in-find q r (e ∷ es) s (inr m) =
    let later : entries.find rowkey_cmp q es ≡ Some r = in-find q r es (right_of _ _ s) m in
    elim (eq_by_cmp rowkey_cmp q e.0) as (λ b. eq_by_cmp rowkey_cmp q e.0 ≡ b → cond b (Some e.1) (entries.find rowkey_cmp q es) ≡ Some r) [
      | true ↦ λ t.
          let none : entries.find rowkey_cmp q es ≡ None = subst (λ x. entries.find rowkey_cmp x es ≡ None) (sym (tied q e.0 t)) (find_below e.0 es (left_of _ _ s)) in
          no_row _ none later
      | false ↦ λ t. later
    ] refl

-- what stands under a key is in the list
pub row-in : (S : State) (k : RowKey) (r : Row) → row S k ≡ Some r → In (k, r) S.rows
unfolding row
row-in S k r h = find-in k r S.rows h

pub in-row : (S : State) (k : RowKey) (r : Row) → In (k, r) S.rows → row S k ≡ Some r
unfolding row
in-row S k r m = in-find k r S.rows S.sorted m

-- a row that passes
pub any_row-at : (test : RowKey → Row → Bool) (S : State) (k : RowKey) (r : Row) → row S k ≡ Some r → test k r ≡ true → any_row test S ≡ true
unfolding any_row
any_row-at test S k r h g = list_any-in (λ e. test e.0 e.1) (k, r) S.rows (row-in S k r h) g

pub at-any_row : (test : RowKey → Row → Bool) (S : State) → any_row test S ≡ true → (k : RowKey) × (r : Row) × (row S k ≡ Some r) × (test k r ≡ true)
unfolding any_row
at-any_row test S h = let w = in-list_any (λ (e : RowKey × Row). test e.0 e.1) S.rows h in (w.0.0, w.0.1, in-row S w.0.0 w.0.1 w.1, w.2)

-- ---- how many rows pass

pub count-cons : (p : RowKey × Row → Bool) (e : RowKey × Row) (es : List (RowKey × Row)) → count_by p (e ∷ es) ≡ cond (p e) 1 0 + count_by p es
count-cons p e es = sum_by-cons (λ x. cond (p x) 1 0) e es

bit-le : (a b : Bool) → (a ≡ true → b ≡ true) → cond a 1 0 ≤ cond b 1 0
bit-le false b h = omega arith
bit-le true true h = omega arith
bit-le true false h = let e : false ≡ true = h refl in cc

module _ (test : RowKey → Row → Bool) where
  abbrev passes : RowKey × Row → Bool
  passes e = test e.0 e.1

  count-kept : (k : RowKey) (r : Row) (s : Option Row) (es fs : List (RowKey × Row)) → ((r' : Row) → s ≡ Some r' → test k r' ≡ true → test k r ≡ true) → count_by passes fs ≤ count_by passes es → count_by passes (kept k s fs) ≤ cond (test k r) 1 0 + count_by passes es
  count-kept k r None es fs h le = omega arith
  count-kept k r (Some r') es fs h le =
      let e : count_by passes ((k, r') ∷ fs) ≡ cond (test k r') 1 0 + count_by passes fs = count-cons passes (k, r') fs in
      let b : cond (test k r') 1 0 ≤ cond (test k r) 1 0 = bit-le _ _ (h r' refl) in
      omega arith

  count-changed : (f : RowKey → Row → Option Row) → ((k : RowKey) (r r' : Row) → f k r ≡ Some r' → test k r' ≡ true → test k r ≡ true) → (es : List (RowKey × Row)) → count_by passes (changed_rows f es) ≤ count_by passes es
  count-changed f h [] = omega arith
  count-changed f h (e ∷ es) =
      let c : count_by passes (e ∷ es) ≡ cond (test e.0 e.1) 1 0 + count_by passes es = count-cons passes e es in
      let k : count_by passes (changed_rows f (e ∷ es)) ≤ cond (test e.0 e.1) 1 0 + count_by passes es = count-kept e.0 e.1 (f e.0 e.1) es _ (λ r'. h e.0 e.1 r') (count-changed f h es) in
      omega arith

  -- a change makes no row pass
  pub count_row-change : (f : RowKey → Row → Option Row) → ((k : RowKey) (r r' : Row) → f k r ≡ Some r' → test k r' ≡ true → test k r ≡ true) → (S : State) → count_row test (change f S) ≤ count_row test S
  unfolding count_row change
  count_row-change f h S = count-changed f h S.rows

  bit_more : (b : Bool) (m n : ℕ) → b ≡ true → m ≤ n → m < cond b 1 0 + n
  bit_more true m n e le = omega arith
  bit_more false m n e le = cc

  count-kept-none : (k : RowKey) (r : Row) (s : Option Row) (es fs : List (RowKey × Row)) → s ≡ None → test k r ≡ true → count_by passes fs ≤ count_by passes es → count_by passes (kept k s fs) < cond (test k r) 1 0 + count_by passes es
  count-kept-none k r None es fs h g le = bit_more (test k r) (count_by passes fs) (count_by passes es) g le
  count-kept-none k r (Some r') es fs h g le = cc

  count-changed-less : (f : RowKey → Row → Option Row) → ((k : RowKey) (r r' : Row) → f k r ≡ Some r' → test k r' ≡ true → test k r ≡ true) → (k : RowKey) (r : Row) (es : List (RowKey × Row)) → In (k, r) es → f k r ≡ None → test k r ≡ true → count_by passes (changed_rows f es) < count_by passes es
  count-changed-less f h k r [] m none g = absurd m
  count-changed-less f h k r (e ∷ es) (inl p) none g =
      let c : count_by passes (e ∷ es) ≡ cond (test e.0 e.1) 1 0 + count_by passes es = count-cons passes e es in
      let none' : f e.0 e.1 ≡ None = subst (λ (x : RowKey × Row). f x.0 x.1 ≡ None) p none in
      let g' : test e.0 e.1 ≡ true = subst (λ (x : RowKey × Row). test x.0 x.1 ≡ true) p g in
      let l : count_by passes (changed_rows f (e ∷ es)) < cond (test e.0 e.1) 1 0 + count_by passes es = count-kept-none e.0 e.1 (f e.0 e.1) es _ none' g' (count-changed f h es) in
      omega arith
  count-changed-less f h k r (e ∷ es) (inr m) none g =
      let c : count_by passes (e ∷ es) ≡ cond (test e.0 e.1) 1 0 + count_by passes es = count-cons passes e es in
      let rest : count_by passes (changed_rows f es) < count_by passes es = count-changed-less f h k r es m none g in
      let l : count_by passes (changed_rows f (e ∷ es)) ≤ cond (test e.0 e.1) 1 0 + count_by passes (changed_rows f es) = count-kept e.0 e.1 (f e.0 e.1) (changed_rows f es) _ (λ r'. h e.0 e.1 r') (omega arith) in
      omega arith

  -- one passes no more where a row that passed goes
  pub count_row-change-less : (f : RowKey → Row → Option Row) → ((k : RowKey) (r r' : Row) → f k r ≡ Some r' → test k r' ≡ true → test k r ≡ true) → (S : State) (k : RowKey) (r : Row) → row S k ≡ Some r → f k r ≡ None → test k r ≡ true → count_row test (change f S) < count_row test S
  unfolding count_row change
  count_row-change-less f h S k r e none g = count-changed-less f h k r S.rows (row-in S k r e) none g

  count-put : (k : RowKey) (r : Row) (es : List (RowKey × Row)) → count_by passes (entries.put rowkey_cmp k r es) ≤ cond (test k r) 1 0 + count_by passes es
  count-put k r [] = let c : count_by passes ((k, r) ∷ []) ≡ cond (test k r) 1 0 + count_by passes [] = count-cons passes (k, r) [] in omega arith
  count-put k r (e ∷ es) =
      let c : count_by passes (e ∷ es) ≡ cond (test e.0 e.1) 1 0 + count_by passes es = count-cons passes e es in
      elim (rowkey_cmp k e.0) as (λ o. rowkey_cmp k e.0 ≡ o → count_by passes (entries.by_order o ((k, r) ∷ e ∷ es) ((e.0, r) ∷ es) (e ∷ entries.put rowkey_cmp k r es)) ≤ cond (test k r) 1 0 + count_by passes (e ∷ es)) [
        | Less ↦ λ o. let d : count_by passes ((k, r) ∷ e ∷ es) ≡ cond (test k r) 1 0 + count_by passes (e ∷ es) = count-cons passes (k, r) (e ∷ es) in omega arith
        | Equal ↦ λ o.
            let d : count_by passes ((e.0, r) ∷ es) ≡ cond (test e.0 r) 1 0 + count_by passes es = count-cons passes (e.0, r) es in
            let same : cond (test e.0 r) 1 0 ≤ cond (test k r) 1 0 = bit-le _ _ (λ g. subst (λ x. test x r ≡ true) (sym (rowkey_cmp-equal k e.0 o)) g) in
            omega arith
        | Greater ↦ λ o.
            let d : count_by passes (e ∷ entries.put rowkey_cmp k r es) ≡ cond (test e.0 e.1) 1 0 + count_by passes (entries.put rowkey_cmp k r es) = count-cons passes e (entries.put rowkey_cmp k r es) in
            let rest : count_by passes (entries.put rowkey_cmp k r es) ≤ cond (test k r) 1 0 + count_by passes es = count-put k r es in
            omega arith
      ] refl

  -- one row more at most passes after a put
  pub count_row-put : (S : State) (k : RowKey) (r : Row) → count_row test (put S k (Some r)) ≤ cond (test k r) 1 0 + count_row test S
  unfolding count_row put
  count_row-put S k r = count-put k r S.rows

  no_bit : (b : Bool) (m n : ℕ) → b ≡ false → m ≤ cond b 1 0 + n → m ≤ n
  no_bit true m n e h = cc
  no_bit false m n e h = omega arith

  -- no row more passes after a put of one that does not
  pub count_row-put-out : (S : State) (k : RowKey) (r : Row) → test k r ≡ false → count_row test (put S k (Some r)) ≤ count_row test S
  count_row-put-out S k r e = no_bit (test k r) (count_row test (put S k (Some r))) (count_row test S) e (count_row-put S k r)

  count-where : (p : RowKey → Bool) (es : List (RowKey × Row)) → count_by passes (entries.where_key rowkey_cmp p es) ≤ count_by passes es
  count-where p [] = omega arith
  count-where p (e ∷ es) =
      let c : count_by passes (e ∷ es) ≡ cond (test e.0 e.1) 1 0 + count_by passes es = count-cons passes e es in
      let rest : count_by passes (entries.where_key rowkey_cmp p es) ≤ count_by passes es = count-where p es in
      elim (p e.0) as (λ b. count_by passes (cond b (e ∷ entries.where_key rowkey_cmp p es) (entries.where_key rowkey_cmp p es)) ≤ count_by passes (e ∷ es)) [
        | true ↦ let d : count_by passes (e ∷ entries.where_key rowkey_cmp p es) ≡ cond (test e.0 e.1) 1 0 + count_by passes (entries.where_key rowkey_cmp p es) = count-cons passes e (entries.where_key rowkey_cmp p es) in omega arith
        | false ↦ omega arith
      ]

  pub count_row-take : (S : State) (k : RowKey) → count_row test (put S k None) ≤ count_row test S
  unfolding count_row put
  count_row-take S k = count-where (λ q. not (rowkey_eq q k)) S.rows
