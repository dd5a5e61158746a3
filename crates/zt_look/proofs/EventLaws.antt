-- Events one behind another: those of a call, object by object, and those of a path, moment by moment from its end on.
use Rattle.std.proofs.Common.{◌≡◌, ◌≤◌, ◌<◌, ◌+◌, ◌-◌, ℕ, zero, suc, Bool, true, false, not, cond, ◌&&◌, ◌||◌, List, [], ◌∷◌, ◌++◌, length, map, take, drop, get_or, Option, Some, None, is_some, inl, inr, refl, sym, ◌∙◌, ap, subst, append_assoc, arith}
use Rattle.std.specs.Prelude.{◌==◌, nat_lt, position, slice_get, reverse, ⊤}
use Rattle.std.specs.BTreeMap.{is_at}
use Rattle.std.specs.BTreeSet.{BTreeSet, contains}
use Rattle.std.specs.List.{AllByRecursion, flat_map, list_any, position_or_len}
use Rattle.std.specs.List.Sorted.{IsStrictlySortedBy}
use Rattle.std.specs.Option.{option_map, unwrap_or}
use Rattle.std.specs.Ordering.{is_eq, nat_cmp}
use Rattle.std.specs.declared.cmp.Ordering.TheVariants.{Less}
use Rattle.std.proofs.lemmas.Bool.{eqb-true, eq-eqb}
use Rattle.std.proofs.lemmas.Bool.Decides.{nat_tests}
use Rattle.std.proofs.lemmas.List.{drop_more, reverse-append, reverse-reverse}
use Rattle.std.proofs.lemmas.List.Sums.{prefix_len-le-length}
use Rattle.std.proofs.lemmas.List.Folds.{list_any-append}
use Rattle.std.proofs.lemmas.Map.Keys.{sorted_head, sorted_tail}
use Rattle.std.proofs.lemmas.Option.{slice_get_read}
use Rattle.zt_bits.specs.declared.kinds.Kind.{Kind}
use Rattle.zt_rows.specs.declared.calls.Happening.{Happening}
use Rattle.zt_rows.specs.declared.calls.Happening.TheVariants as happening
use Rattle.zt_rows.specs.declared.keys.RowKey.{RowKey}
use Rattle.zt_rows.specs.declared.keys.RowKey.TheVariants as key
use Rattle.zt_rows.specs.declared.rows.ObjectRow.{ObjectRow}
use Rattle.zt_rows.specs.declared.rows.Row.{Row}
use Rattle.zt_rows.specs.Change.{before}
use Rattle.zt_rows.specs.Keys.{rowkey_eq}
use Rattle.zt_rows.specs.Reads.{as_object, is_live, object, on_object}
use Rattle.zt_rows.specs.State.{State, row}
use Rattle.zt_rows.specs.Tests.{among, exists, kind_at}
use Rattle.zt_rows.specs.ProofsOnly.KeyOrder.{rowkey_eq-cmp}
use Rattle.zt_rows.proofs.RowLaws.{and_both, and_left, and_right, not_true, or_left, or_right, or_true, true≢false}
use Rattle.zt_store.specs.RecordLook.{held}
use Rattle.zt_history.specs.Timeline.{IsPath}
use Rattle.zt_history.specs.Tree.{Made, end_of, parent_at, path, state_at}
use Rattle.zt_history.specs.TreeInvariant.{Falls, record_of, recorded_at}
use Rattle.zt_history.proofs.ListLaws.{get-within}
use Rattle.zt_history.proofs.PathLaws.{among-early, by_parents, path-opening, path-step}
use Rattle.zt_history.proofs.WayLaws.{way-later, way-within}
use Rattle.zt_queries.specs.HappeningTimes.{at_moment, happens}
use Rattle.zt_history.specs.RowHappenings.{is_cut_off}
use Rattle.zt_queries.specs.Happenings.{lacks_peer, leaked, lives}
use Rattle.zt_queries.specs.Leaks.{is_leaked}
use Rattle.zt_queries.proofs.OnceLaws.{leaked-exists}
use Rattle.zt_queries.proofs.WayLaws.{way-end, way-parent}
use Rattle.zt_look.specs.declared.event_list.HappeningSet.{HappeningSet}
use Rattle.zt_look.specs.declared.event_list.ObjectEvent.{ObjectEvent}
use Rattle.zt_look.specs.EventList.{AreEvents, AreInOrder, ComesBefore, IsEvent, happening_number, is_asked, is_told, kind_by, kind_or, up_to}
use Rattle.zt_look.specs.ProofsOnly.EventsSoFar.{AddsMoment, AreLeaked, event_if, event_shown, events_shown, is_object, object_over, shows, change_over}
use Rattle.zt_look.specs.ProofsOnly.RecordSides.{row_before}
use Rattle.zt_look.proofs.CallLaws.{prefix-path}
use Rattle.zt_look.proofs.ChangeLaws.{record-forth, row-turned}

-- ---- lists

some_place : (n : ℕ) → ◌≡◌ {A = Option ℕ} (Some n) None → ⊥
some_place n e = cc

-- a list without a place that passes ends where one would stand
pub place_none : (p : ℕ → Bool) (xs : List ℕ) → None ≡ position p xs → length xs ≡ position_or_len p xs
place_none p xs none = by (nat_lt (position_or_len p xs) (length xs)) refl
  where
    by : (b : Bool) → nat_lt (position_or_len p xs) (length xs) ≡ b → length xs ≡ position_or_len p xs
    by true e = absurd (some_place (position_or_len p xs) (sym (none ∙ ap (λ b. cond b (Some (position_or_len p xs)) None) e)))
    by false e = let most : position_or_len p xs ≤ length xs = prefix_len-le-length (λ x. not (p x)) xs in grind (arith, nat_tests)

all-both : {A : Type 0} (P : A → Type 0) (xs ys : List A) → AllByRecursion P xs → AllByRecursion P ys → AllByRecursion P (xs ++ ys)
all-both P [] ys a b = b
all-both P (x ∷ xs) ys a b = (a.0, all-both P xs ys a.1 b)

all-map : {A : Type 0} (P Q : A → Type 0) → ((x : A) → P x → Q x) → (xs : List A) → AllByRecursion P xs → AllByRecursion Q xs
all-map P Q f [] all = tt
all-map P Q f (x ∷ xs) all = (f x all.0, all-map P Q f xs all.1)

-- each of the ones with each of the others
all-cross : {A : Type 0} (P Q : A → Type 0) (R : A → A → Type 0) → ((a b : A) → P a → Q b → R a b) → (xs ys : List A) → AllByRecursion P xs → AllByRecursion Q ys
    → AllByRecursion (λ a. AllByRecursion (R a) ys) xs
all-cross P Q R f xs ys p q = all-map P (λ a. AllByRecursion (R a) ys) (λ a pa. all-map Q (R a) (λ b qb. f a b pa qb) ys q) xs p

all-flat : {A B : Type 0} (P : A → Type 0) (Q : B → Type 0) (f : A → List B) → ((a : A) → P a → AllByRecursion Q (f a)) → (xs : List A) → AllByRecursion P xs → AllByRecursion Q (flat_map f xs)
all-flat P Q f each [] all = tt
all-flat P Q f each (x ∷ xs) all = all-both Q (f x) (flat_map f xs) (each x all.0) (all-flat P Q f each xs all.1)

all-any : {A : Type 0} (P : A → Type 0) → ((x : A) → P x) → (xs : List A) → AllByRecursion P xs
all-any P each [] = tt
all-any P each (x ∷ xs) = (each x, all-any P each xs)

first-or-rest : (P : ℕ → Type 0) (x : ℕ) (xs : List ℕ) (q : ℕ) → P x → (among xs q ≡ true → P q) → among (x ∷ xs) q ≡ true → P q
first-or-rest P x xs q first rest h =
    elim (or_true (x == q) (among xs q) h) [ inl e ↦ subst P (eqb-true x q e) first | inr e ↦ rest e ]

all-among : (P : ℕ → Type 0) (xs : List ℕ) (q : ℕ) → AllByRecursion P xs → among xs q ≡ true → P q
all-among P [] q all h = absurd (true≢false false h refl)
all-among P (x ∷ xs) q all h = first-or-rest P x xs q all.0 (all-among P xs q all.1) h

all-from-among : (P : ℕ → Type 0) (xs : List ℕ) → ((q : ℕ) → among xs q ≡ true → P q) → AllByRecursion P xs
all-from-among P [] f = tt
all-from-among P (x ∷ xs) f =
    (f x (or_left (x == x) (among xs x) (eq-eqb x x refl)), all-from-among P xs (λ q h. f q (or_right (x == q) (among xs q) h)))

module _ {A : Type 0} (test : A → Bool) where
  any-left : (xs ys : List A) → list_any test xs ≡ true → list_any test (xs ++ ys) ≡ true
  any-left xs ys h = list_any-append test xs ys ∙ or_left (list_any test xs) (list_any test ys) h

  any-right : (xs ys : List A) → list_any test ys ≡ true → list_any test (xs ++ ys) ≡ true
  any-right xs ys h = list_any-append test xs ys ∙ or_right (list_any test xs) (list_any test ys) h

at-same : (m n : ℕ) → is_eq (nat_cmp m n) ≡ (m == n)
at-same m n = grind (arith, nat_tests)

is-less : (m n : ℕ) → nat_cmp m n ≡ Less → m < n
is-less m n h = grind (arith, nat_tests)

-- what stands for a member of a set
any-flat : {B : Type 0} (test : B → Bool) (f : ℕ → List B) (ks : List ℕ) (x : ℕ) → list_any (is_at (nat_cmp x)) ks ≡ true → list_any test (f x) ≡ true → list_any test (flat_map f ks) ≡ true
any-flat test f [] x h g = absurd (true≢false false h refl)
any-flat test f (k ∷ ks) x h g =
    elim (or_true (is_at (nat_cmp x) k) (list_any (is_at (nat_cmp x)) ks) h) [
      | inl e ↦ any-left test (f k) (flat_map f ks) (subst (λ k. list_any test (f k) ≡ true) (eqb-true x k (sym (at-same x k) ∙ e)) g)
      | inr e ↦ any-right test (f k) (flat_map f ks) (any-flat test f ks x e g)
    ]

-- ---- in order

in-order-both : (xs ys : List ObjectEvent) → AreInOrder xs → AreInOrder ys → AllByRecursion (λ a. AllByRecursion (ComesBefore a) ys) xs → AreInOrder (xs ++ ys)
in-order-both [] ys a b cross = b
in-order-both (x ∷ xs) ys a b cross = (all-both (ComesBefore x) xs ys a.0 cross.0, in-order-both xs ys a.1 b cross.1)

-- ---- one object

abbrev IsOf : ℕ → ℕ → ObjectEvent → Type 0
IsOf m x e = (e.moment ≡ m) × (e.koid ≡ x)

abbrev IsThis : ℕ → ℕ → ℕ → ObjectEvent → Type 0
IsThis m x n e = (e.moment ≡ m) × (e.koid ≡ x) × (happening_number e.what ≡ n)

abbrev IsFrom : ℕ → ℕ → ℕ → ObjectEvent → Type 0
IsFrom m x n e = (e.moment ≡ m) × (e.koid ≡ x) × (n ≤ happening_number e.what)

if-each : (P : ObjectEvent → Type 0) (b : Bool) (m x : ℕ) (what : Happening) (o : Option Kind)
    → ((k : Kind) → b ≡ true → o ≡ Some k → P (record { moment = m; koid = x; what = what; kind = k })) → AllByRecursion P (event_if b m x what o)
if-each P true m x what (Some k) f = (f k refl refl, tt)
if-each P true m x what None f = tt
if-each P false m x what (Some k) f = tt
if-each P false m x what None f = tt

if-ordered : (b : Bool) (m x : ℕ) (what : Happening) (o : Option Kind) → AreInOrder (event_if b m x what o)
if-ordered true m x what (Some k) = (tt, tt)
if-ordered true m x what None = tt
if-ordered false m x what (Some k) = tt
if-ordered false m x what None = tt

if-told : (b : Bool) (m x : ℕ) (what : Happening) (o : Option Kind) (k : Kind) → b ≡ true → o ≡ Some k → list_any (is_told m x what) (event_if b m x what o) ≡ true
if-told b m x what o k h e =
    ap (λ b. list_any (is_told m x what) (event_if b m x what o)) h
    ∙ ap (λ o. list_any (is_told m x what) (event_if true m x what o)) e
    ∙ or_left ((m == m) && (x == x) && (happening_number what == happening_number what)) false (
    and_both ((m == m) && (x == x)) (happening_number what == happening_number what) (
    and_both (m == m) (x == x) (eq-eqb m m refl) (eq-eqb x x refl)
    ) (eq-eqb (happening_number what) (happening_number what) refl)
    )

-- an object to which something happened has a kind
after-kind : (o p : Option ObjectRow) → is_some o ≡ true → (k : Kind) × (kind_or (option_map (λ o. o.kind) o) (option_map (λ o. o.kind) p) ≡ Some k)
after-kind (Some q) p h = (q.kind, refl)
after-kind None p h = absurd (true≢false false h refl)

before-kind : (o p : Option ObjectRow) → is_some p ≡ true → (k : Kind) × (kind_or (option_map (λ o. o.kind) o) (option_map (λ o. o.kind) p) ≡ Some k)
before-kind (Some q) p h = (q.kind, refl)
before-kind None (Some q) h = (q.kind, refl)
before-kind None None h = absurd (true≢false false h refl)

on-there : (test : ObjectRow → Bool) (o : Option ObjectRow) → on_object test o ≡ true → is_some o ≡ true
on-there test (Some q) h = refl
on-there test None h = h

happens-kind : (what : Happening) (S T : State) (x : ℕ) → happens what x S T ≡ true → (k : Kind) × (kind_or (kind_at T x) (kind_at S x) ≡ Some k)
happens-kind happening.Made S T x h = after-kind (object T x) (object S x) (and_right (not (exists S x)) (exists T x) h)
happens-kind happening.Ended S T x h = before-kind (object T x) (object S x) (on-there (λ o. is_live o.life) (object S x) (and_left (lives S x) (not (lives T x)) h))
happens-kind happening.PeerClosed S T x h = after-kind (object T x) (object S x) (on-there is_cut_off (object T x) (and_right (not (lacks_peer S x)) (lacks_peer T x) h))
happens-kind happening.Leaked S T x h = after-kind (object T x) (object S x) (leaked-exists T x (and_right (not (is_leaked S x)) (is_leaked T x) h))

module _ (made : List Made) (asked : HappeningSet) (m : ℕ) where
  abbrev told : ℕ → Happening → List ObjectEvent
  told x what = event_if (is_asked asked what && at_moment (happens what x) made m) m x what (kind_by made m x)

  abbrev events_of : ℕ → List ObjectEvent
  events_of x = told x happening.Made ++ told x happening.Ended ++ told x happening.PeerClosed ++ told x happening.Leaked

  told-each : (x : ℕ) (what : Happening) → AllByRecursion (IsEvent made asked (m ∷ [])) (told x what)
  told-each x what =
      if-each (IsEvent made asked (m ∷ [])) (is_asked asked what && at_moment (happens what x) made m) m x what (kind_by made m x) (λ k h e. record {
        moment = or_left (m == m) false (eq-eqb m m refl);
        wanted = and_left (is_asked asked what) (at_moment (happens what x) made m) h;
        happened = and_right (is_asked asked what) (at_moment (happens what x) made m) h;
        kind = e;
      })

  told-this : (x : ℕ) (what : Happening) → AllByRecursion (IsThis m x (happening_number what)) (told x what)
  told-this x what =
      if-each (IsThis m x (happening_number what)) (is_asked asked what && at_moment (happens what x) made m) m x what (kind_by made m x) (λ k h e. (refl, refl, refl))

  told-ordered : (x : ℕ) (what : Happening) → AreInOrder (told x what)
  told-ordered x what = if-ordered (is_asked asked what && at_moment (happens what x) made m) m x what (kind_by made m x)

  told-has : (x : ℕ) (what : Happening) → is_asked asked what ≡ true → at_moment (happens what x) made m ≡ true → list_any (is_told m x what) (told x what) ≡ true
  told-has x what a h =
      let k = happens-kind what (state_at made (parent_at made m)) (state_at made m) x h in
      if-told (is_asked asked what && at_moment (happens what x) made m) m x what (kind_by made m x) k.0 (and_both (is_asked asked what) (at_moment (happens what x) made m) a h) k.1

  of-each : (x : ℕ) → AllByRecursion (IsEvent made asked (m ∷ [])) (events_of x)
  of-each x =
      all-both (IsEvent made asked (m ∷ [])) (told x happening.Made ++ told x happening.Ended ++ told x happening.PeerClosed) (told x happening.Leaked)
      (all-both (IsEvent made asked (m ∷ [])) (told x happening.Made ++ told x happening.Ended) (told x happening.PeerClosed)
      (all-both (IsEvent made asked (m ∷ [])) (told x happening.Made) (told x happening.Ended) (told-each x happening.Made) (told-each x happening.Ended))
      (told-each x happening.PeerClosed))
      (told-each x happening.Leaked)

  -- those so far, with the next of the four
  of-next : (x n : ℕ) (what : Happening) (xs : List ObjectEvent) → happening_number what ≡ n → AllByRecursion (λ e. (e.moment ≡ m) × (e.koid ≡ x) × (happening_number e.what < n)) xs
      → AllByRecursion (λ e. (e.moment ≡ m) × (e.koid ≡ x) × (happening_number e.what < n + 1)) (xs ++ told x what)
  of-next x n what xs at all =
      all-both (λ e. (e.moment ≡ m) × (e.koid ≡ x) × (happening_number e.what < n + 1)) xs (told x what)
      (all-map (λ e. (e.moment ≡ m) × (e.koid ≡ x) × (happening_number e.what < n)) (λ e. (e.moment ≡ m) × (e.koid ≡ x) × (happening_number e.what < n + 1)) (λ e p. (p.0, p.1, omega (arith, p.2))) xs all)
      (all-map (IsThis m x (happening_number what)) (λ e. (e.moment ≡ m) × (e.koid ≡ x) × (happening_number e.what < n + 1)) (λ e p. (p.0, p.1, omega (arith, p.2, at))) (told x what) (told-this x what))

  next-ordered : (x n : ℕ) (what : Happening) (xs : List ObjectEvent) → happening_number what ≡ n → AllByRecursion (λ e. (e.moment ≡ m) × (e.koid ≡ x) × (happening_number e.what < n)) xs
      → AreInOrder xs → AreInOrder (xs ++ told x what)
  next-ordered x n what xs at all ordered =
      in-order-both xs (told x what) ordered (told-ordered x what)
      (all-cross (λ e. (e.moment ≡ m) × (e.koid ≡ x) × (happening_number e.what < n)) (IsThis m x (happening_number what)) ComesBefore
      (λ a b p q. inr (inr (p.0 ∙ sym q.0, p.1 ∙ sym q.1, omega (arith, p.2, q.2, at)))) xs (told x what) all (told-this x what))

  first-low : (x : ℕ) → AllByRecursion (λ e. (e.moment ≡ m) × (e.koid ≡ x) × (happening_number e.what < 1)) (told x happening.Made)
  first-low x = of-next x 0 happening.Made [] refl tt

  second-low : (x : ℕ) → AllByRecursion (λ e. (e.moment ≡ m) × (e.koid ≡ x) × (happening_number e.what < 2)) (told x happening.Made ++ told x happening.Ended)
  second-low x = of-next x 1 happening.Ended (told x happening.Made) refl (first-low x)

  third-low : (x : ℕ) → AllByRecursion (λ e. (e.moment ≡ m) × (e.koid ≡ x) × (happening_number e.what < 3)) (told x happening.Made ++ told x happening.Ended ++ told x happening.PeerClosed)
  third-low x = of-next x 2 happening.PeerClosed (told x happening.Made ++ told x happening.Ended) refl (second-low x)

  of-low : (x : ℕ) → AllByRecursion (λ e. (e.moment ≡ m) × (e.koid ≡ x) × (happening_number e.what < 4)) (events_of x)
  of-low x = of-next x 3 happening.Leaked (told x happening.Made ++ told x happening.Ended ++ told x happening.PeerClosed) refl (third-low x)

  of-ordered : (x : ℕ) → AreInOrder (events_of x)
  of-ordered x =
      next-ordered x 3 happening.Leaked (told x happening.Made ++ told x happening.Ended ++ told x happening.PeerClosed) refl (third-low x)
      (next-ordered x 2 happening.PeerClosed (told x happening.Made ++ told x happening.Ended) refl (second-low x)
      (next-ordered x 1 happening.Ended (told x happening.Made) refl (first-low x) (told-ordered x happening.Made)))

  of-this : (x : ℕ) → AllByRecursion (IsOf m x) (events_of x)
  of-this x = all-map (λ e. (e.moment ≡ m) × (e.koid ≡ x) × (happening_number e.what < 4)) (IsOf m x) (λ e p. (p.0, p.1)) (events_of x) (of-low x)

  of-has : (x : ℕ) (what : Happening) → list_any (is_told m x what) (told x what) ≡ true → list_any (is_told m x what) (events_of x) ≡ true
  of-has x happening.Made h =
      any-left (is_told m x happening.Made) (told x happening.Made ++ told x happening.Ended ++ told x happening.PeerClosed) (told x happening.Leaked)
      (any-left (is_told m x happening.Made) (told x happening.Made ++ told x happening.Ended) (told x happening.PeerClosed)
      (any-left (is_told m x happening.Made) (told x happening.Made) (told x happening.Ended) h))
  of-has x happening.Ended h =
      any-left (is_told m x happening.Ended) (told x happening.Made ++ told x happening.Ended ++ told x happening.PeerClosed) (told x happening.Leaked)
      (any-left (is_told m x happening.Ended) (told x happening.Made ++ told x happening.Ended) (told x happening.PeerClosed)
      (any-right (is_told m x happening.Ended) (told x happening.Made) (told x happening.Ended) h))
  of-has x happening.PeerClosed h =
      any-left (is_told m x happening.PeerClosed) (told x happening.Made ++ told x happening.Ended ++ told x happening.PeerClosed) (told x happening.Leaked)
      (any-right (is_told m x happening.PeerClosed) (told x happening.Made ++ told x happening.Ended) (told x happening.PeerClosed) h)
  of-has x happening.Leaked h =
      any-right (is_told m x happening.Leaked) (told x happening.Made ++ told x happening.Ended ++ told x happening.PeerClosed) (told x happening.Leaked) h

  -- ---- one call

  abbrev all_of : List ℕ → List ObjectEvent
  all_of ks = flat_map events_of ks

  all-ordered : (ks : List ℕ) → IsStrictlySortedBy nat_cmp ks → AreInOrder (all_of ks)
  all-ordered [] up = tt
  all-ordered (k ∷ ks) up =
      in-order-both (events_of k) (all_of ks) (of-ordered k) (all-ordered ks (sorted_tail nat_cmp k ks up))
      (all-cross (IsOf m k) (λ e. (e.moment ≡ m) × (k < e.koid)) ComesBefore (λ a b p q. inr (inl (p.0 ∙ sym q.0, omega (arith, p.1, q.1)))) (events_of k) (all_of ks) (of-this k)
      (all-flat (λ y. nat_cmp k y ≡ Less) (λ e. (e.moment ≡ m) × (k < e.koid)) events_of
      (λ y l. let lt : k < y = is-less k y l in all-map (IsOf m y) (λ e. (e.moment ≡ m) × (k < e.koid)) (λ e p. (p.0, omega (arith, p.1, lt))) (events_of y) (of-this y))
      ks (sorted_head nat_cmp k ks up)))

  all-each : (ks : List ℕ) → AllByRecursion (IsEvent made asked (m ∷ [])) (all_of ks)
  all-each ks = all-flat (λ _. ⊤) (IsEvent made asked (m ∷ [])) events_of (λ x _. of-each x) ks (all-any (λ _. ⊤) (λ _. tt) ks)

  this-moment : (n : ℕ) → among (m ∷ []) n ≡ true → m ≡ n
  this-moment n h = first-or-rest (λ n. m ≡ n) m [] n refl (λ e. absurd (true≢false false e refl)) h

  -- the events of the objects, if it happened to these alone
  pub call-events : (ks : List ℕ) → IsStrictlySortedBy nat_cmp ks
      → ((x : ℕ) (what : Happening) → is_asked asked what ≡ true → at_moment (happens what x) made m ≡ true → list_any (is_at (nat_cmp x)) ks ≡ true)
      → AreEvents made asked (m ∷ []) (all_of ks)
  call-events ks up covers = record {
    each = all-each ks;
    ordered = all-ordered ks up;
    all = λ n x what at a h.
        let same : m ≡ n = this-moment n at in
        let here : at_moment (happens what x) made m ≡ true = subst (λ n. at_moment (happens what x) made n ≡ true) (sym same) h in
        subst (λ n. list_any (is_told n x what) (all_of ks) ≡ true) same
        (any-flat (is_told m x what) events_of ks x (covers x what a here) (of-has x what (told-has x what a here)));
  }

-- ---- one call by its record

not-self : (b : Bool) → (not b && b) ≡ false
not-self true = refl
not-self false = refl

self-not : (b : Bool) → (b && not b) ≡ false
self-not true = refl
self-not false = refl

and-twice : (a b : Bool) → (a && (a && b)) ≡ (a && b)
and-twice true b = refl
and-twice false b = refl

or-parts : (a b : Bool) → (a || b) ≡ false → (a ≡ false) × (b ≡ false)
or-parts true b h = absurd (true≢false true refl h)
or-parts false b h = (refl, h)

other-key : (x : ℕ) (k : RowKey) → is_object x k ≡ false → rowkey_eq (key.Object x) k ≡ false
other-key x (key.Object y) h = not_true (x == y) (λ e. true≢false (y == x) (eq-eqb y x (sym (eqb-true x y e))) h)
other-key x key.Counters h = refl
other-key x (key.Entry p n) h = refl
other-key x (key.Msg e n) h = refl
other-key x (key.Packet p n) h = refl
other-key x (key.Wait n) h = refl

-- where the record has no row of the object, it has nothing under its key
unheld : (x : ℕ) (R : List (RowKey × Option Row)) → list_any (is_object x) (map (λ e. e.0) R) ≡ false → held R (key.Object x) ≡ None
unheld x [] h = refl
unheld x (e ∷ R) h =
    let parts = or-parts (is_object x e.0) (list_any (is_object x) (map (λ e. e.0) R)) h in
    ap (λ b. cond b (Some e.1) (held R (key.Object x))) (rowkey_eq-cmp (key.Object x) e.0 ∙ other-key x e.0 parts.0) ∙ unheld x R parts.1

module _ (made : List Made) (asked : HappeningSet) (m : ℕ) where
  abbrev was : State
  was = state_at made (parent_at made m)

  abbrev is_now : State
  is_now = state_at made m

  module _ (R : List (RowKey × Option Row)) (is : R ≡ before is_now was) where
    object-turned : (x : ℕ) → object_over R was x ≡ object is_now x
    object-turned x = ap (λ R. as_object (row_before R (key.Object x) (row was (key.Object x)))) is ∙ ap as_object (row-turned is_now was (key.Object x))

    -- what has no row in the record is as it was
    unchanged : (x : ℕ) → list_any (is_object x) (map (λ e. e.0) R) ≡ false → object was x ≡ object is_now x
    unchanged x h = ap (λ o. as_object (unwrap_or o (row was (key.Object x)))) (sym (unheld x R h)) ∙ object-turned x

    module _ (set : BTreeSet ℕ) (leaks : AreLeaked made asked m set) where
      shown-told : (x : ℕ) (what : Happening) → event_shown asked (change_over R was m set x) what ≡ told made asked m x what
      shown-told x what =
          ap (λ o. event_shown asked (record { moment = m; koid = x; before = object was x; after = o; leaked = contains nat_cmp set x }) what) (object-turned x)
          ∙ ap (λ b. event_if b m x what (kind_by made m x)) (same what)
        where
          same : (what : Happening)
              → (is_asked asked what && shows what (record { moment = m; koid = x; before = object was x; after = object is_now x; leaked = contains nat_cmp set x }))
              ≡ (is_asked asked what && at_moment (happens what x) made m)
          same happening.Made = refl
          same happening.Ended = refl
          same happening.PeerClosed = refl
          same happening.Leaked = ap (λ b. asked.leaked && b) (leaks x) ∙ and-twice asked.leaked (leaked x was is_now)

      shown-of : (x : ℕ) → events_shown asked (change_over R was m set x) ≡ events_of made asked m x
      shown-of x =
          ap (λ l. l ++ event_shown asked (change_over R was m set x) happening.Ended ++ event_shown asked (change_over R was m set x) happening.PeerClosed
          ++ event_shown asked (change_over R was m set x) happening.Leaked) (shown-told x happening.Made)
          ∙ ap (λ l. told made asked m x happening.Made ++ l ++ event_shown asked (change_over R was m set x) happening.PeerClosed
          ++ event_shown asked (change_over R was m set x) happening.Leaked) (shown-told x happening.Ended)
          ∙ ap (λ l. told made asked m x happening.Made ++ told made asked m x happening.Ended ++ l
          ++ event_shown asked (change_over R was m set x) happening.Leaked) (shown-told x happening.PeerClosed)
          ∙ ap (λ l. told made asked m x happening.Made ++ told made asked m x happening.Ended ++ told made asked m x happening.PeerClosed ++ l) (shown-told x happening.Leaked)

      shown-all : (ks : List ℕ) → flat_map (λ x. events_shown asked (change_over R was m set x)) ks ≡ all_of made asked m ks
      shown-all [] = refl
      shown-all (k ∷ ks) =
          ap (λ l. l ++ flat_map (λ x. events_shown asked (change_over R was m set x)) ks) (shown-of k) ∙ ap (λ l. events_of made asked m k ++ l) (shown-all ks)

      -- nothing happened to what is neither in the record nor leaked
      unshown : (x : ℕ) (what : Happening) → is_asked asked what ≡ true → contains nat_cmp set x ≡ false → object was x ≡ object is_now x
          → at_moment (happens what x) made m ≡ false
      unshown x happening.Made a none same = ap (λ o. not (is_some o) && exists is_now x) same ∙ not-self (exists is_now x)
      unshown x happening.Ended a none same = ap (λ o. on_object (λ o. is_live o.life) o && not (lives is_now x)) same ∙ self-not (lives is_now x)
      unshown x happening.PeerClosed a none same = ap (λ o. not (on_object is_cut_off o) && lacks_peer is_now x) same ∙ not-self (lacks_peer is_now x)
      unshown x happening.Leaked a none same = sym (ap (λ b. b && leaked x was is_now) a) ∙ sym (leaks x) ∙ none

      shown-covers : (koids : BTreeSet ℕ)
          → ((x : ℕ) → contains nat_cmp koids x ≡ (contains nat_cmp set x || list_any (is_object x) (map (λ e. e.0) R)))
          → (x : ℕ) (what : Happening) → is_asked asked what ≡ true → at_moment (happens what x) made m ≡ true → contains nat_cmp koids x ≡ true
      shown-covers koids has x what a h = by (contains nat_cmp koids x) refl
        where
          by : (b : Bool) → contains nat_cmp koids x ≡ b → contains nat_cmp koids x ≡ true
          by true e = e
          by false e =
              let parts = or-parts (contains nat_cmp set x) (list_any (is_object x) (map (λ e. e.0) R)) (sym (has x) ∙ e) in
              absurd (true≢false (at_moment (happens what x) made m) h (unshown x what a parts.0 (unchanged x parts.1)))

  -- what the record and the set show of these objects are the moment's events
  pub call-shown : Falls made → (S : State) (position : ℕ) (R : List (RowKey × Option Row)) (set koids : BTreeSet ℕ) (list : List ObjectEvent)
      → position ≡ parent_at made m → S ≡ state_at made position → recorded_at made position m ≡ Some R → AreLeaked made asked m set
      → ((x : ℕ) → contains nat_cmp koids x ≡ (contains nat_cmp set x || list_any (is_object x) (map (λ e. e.0) R)))
      → IsStrictlySortedBy nat_cmp koids.keys
      → list ≡ flat_map (λ x. events_shown asked (change_over R S m set x)) koids.keys → AreEvents made asked (m ∷ []) list
  call-shown falls S position R set koids list at state kept leaks has up is =
      let forth : R ≡ before is_now was = record-forth made falls m R (ap (λ p. recorded_at made p m) (sym at) ∙ kept) in
      let stands : S ≡ was = state ∙ ap (state_at made) at in
      subst (AreEvents made asked (m ∷ []))
      (sym (is ∙ ap (λ S. flat_map (λ x. events_shown asked (change_over R S m set x)) koids.keys) stands ∙ shown-all R forth set leaks koids.keys))
      (call-events made asked m koids.keys up (shown-covers R forth set leaks koids has))

  -- a moment of the tree has a record
  pub call-recorded : (position : ℕ) → 0 < m → m ≤ length made → recorded_at made position m ≡ None → ⊥
  call-recorded position low high none = by m low high none
    where
      missing : {A B : Type 0} (f : A → B) (o : Option A) (x : A) → o ≡ Some x → option_map f o ≡ None → ⊥
      missing f o x e n = cc

      by : (m : ℕ) → 0 < m → m ≤ length made → recorded_at made position m ≡ None → ⊥
      by zero low high none = absurd (omega (arith, low))
      by (suc i) low high none =
          let e = get-within made i (omega (arith, high)) in
          missing (λ _. record_of made position (suc i)) (slice_get made i) e.0 e.1 none

-- ---- one moment behind the others

module _ (made : List Made) (asked : HappeningSet) where
  wider : (way more : List ℕ) → ((q : ℕ) → among way q ≡ true → among more q ≡ true) → (e : ObjectEvent) → IsEvent made asked way e → IsEvent made asked more e
  wider way more grows e is = record { moment = grows e.moment is.moment; wanted = is.wanted; happened = is.happened; kind = is.kind }

  events-both : (m : ℕ) (later : List ℕ) (here rest : List ObjectEvent) → AreEvents made asked (m ∷ []) here → AreEvents made asked later rest → AllByRecursion (λ b. m < b) later
      → AreEvents made asked (m ∷ later) (here ++ rest)
  events-both m later here rest one others low = record {
    each =
        all-both (IsEvent made asked (m ∷ later)) here rest
        (all-map (IsEvent made asked (m ∷ [])) (IsEvent made asked (m ∷ later))
        (wider (m ∷ []) (m ∷ later) (λ q h. first-or-rest (λ q. among (m ∷ later) q ≡ true) m [] q (or_left (m == m) (among later m) (eq-eqb m m refl)) (λ e. absurd (true≢false false e refl)) h))
        here one.each)
        (all-map (IsEvent made asked later) (IsEvent made asked (m ∷ later)) (wider later (m ∷ later) (λ q h. or_right (m == q) (among later q) h)) rest others.each);
    ordered =
        in-order-both here rest one.ordered others.ordered
        (all-cross (IsEvent made asked (m ∷ [])) (IsEvent made asked later) ComesBefore
        (λ a b p q.
        let at : m ≡ a.moment = this-moment made asked m a.moment p.moment in
        let next : m < b.moment = all-among (λ b. m < b) later b.moment low q.moment in
        inl (omega (arith, at, next)))
        here rest one.each others.each);
    all = λ n x what at a h.
        elim (or_true (m == n) (among later n) at) [
          | inl e ↦ any-left (is_told n x what) here rest (one.all n x what (or_left (m == n) false e) a h)
          | inr e ↦ any-right (is_told n x what) here rest (others.all n x what e a h)
        ];
  }

  events-more : (m : ℕ) (later : List ℕ) (old new : List ObjectEvent) → AreEvents made asked later (reverse old) → AllByRecursion (λ b. m < b) later → AddsMoment made asked m old new
      → AreEvents made asked (m ∷ later) (reverse new)
  events-more m later old new told low adds =
      subst (AreEvents made asked (m ∷ later))
      (sym (ap reverse adds.added ∙ reverse-append old (reverse adds.here) ∙ ap (λ l. l ++ reverse old) (reverse-reverse adds.here)))
      (events-both m later adds.here (reverse old) adds.events told low)

-- ---- back along a path

abbrev Rises : List ℕ → Type 0
Rises [] = ⊤
Rises (x ∷ xs) = AllByRecursion (λ y. x < y) xs × Rises xs

rises-push : (xs : List ℕ) (y : ℕ) → Rises xs → AllByRecursion (λ x. x < y) xs → Rises (xs ++ y ∷ [])
rises-push [] y up below = (tt, tt)
rises-push (x ∷ xs) y up below = (all-both (λ y. x < y) xs (y ∷ []) up.0 (below.0, tt), rises-push xs y up.1 below.1)

rises-drop : (xs : List ℕ) (i : ℕ) → Rises xs → Rises (drop i xs)
rises-drop xs zero up = up
rises-drop [] (suc i) up = tt
rises-drop (x ∷ xs) (suc i) up = rises-drop xs i up.1

module _ (made : List Made) (falls : Falls made) where
  rises-path : (m : ℕ) → Rises (path made m)
  rises-path =
      by_parents made falls (λ m. Rises (path made m)) (subst Rises (sym (path-opening made)) tt)
      (λ i up. subst Rises (sym (path-step made falls i))
      (rises-push (path made (parent_at made (suc i))) (suc i) up
      (all-from-among (λ x. x < suc i) (path made (parent_at made (suc i)))
      (λ q h. omega (arith, among-early made falls (parent_at made (suc i)) q h, falls i)))))

  module _ (way : List ℕ) (is : IsPath made way) (i q : ℕ) (some : 0 < i) (within : i ≤ length way) (at : q ≡ get_or way (i - 1) q) where
    here : slice_get way (i - 1) ≡ Some q
    here = slice_get_read way (length way) (i - 1) q refl (omega (arith, some, within)) at

    one_more : suc (i - 1) ≡ i
    one_more = omega (arith, some)

    pub moment-some : 0 < q
    moment-some = way-later made falls way is (i - 1) q here

    pub moment-within : q ≤ length made
    moment-within = way-within made falls way is (i - 1) q here

    pub moment-parent : parent_at made q ≡ end_of (take (i - 1) way)
    moment-parent = way-parent made falls way is (i - 1) q here

    pub moment-end : end_of (take i way) ≡ q
    moment-end = ap (λ n. end_of (take n way)) (sym one_more) ∙ way-end made falls way is (i - 1) q here

    pub dropped : drop (i - 1) way ≡ q ∷ drop i way
    dropped =
        let back : i - 1 + 1 ≡ i = omega (arith, some) in
        drop_more way (i - 1) q (omega (arith, some, within))
        ∙ ap (λ x. x ∷ drop (i - 1 + 1) way) (sym at)
        ∙ ap (λ n. q ∷ drop n way) back

    -- the moment before the others
    pub events-back : (asked : HappeningSet) (old new : List ObjectEvent) → AreEvents made asked (drop i way) (reverse old) → AddsMoment made asked q old new
        → AreEvents made asked (drop (i - 1) way) (reverse new)
    events-back asked old new told adds =
        let up : Rises (q ∷ drop i way) = subst Rises dropped (rises-drop way (i - 1) (subst Rises (sym is.is) (rises-path is.moment))) in
        subst (λ w. AreEvents made asked w (reverse new)) (sym dropped) (events-more made asked q (drop i way) old new told up.0 adds)

  pub front-path : (way : List ℕ) → IsPath made way → (i : ℕ) → i ≤ length way → IsPath made (take i way)
  front-path way is zero h = record { moment = 0; there = omega arith; is = sym (path-opening made) }
  front-path way is (suc i) h =
      let next : i + 1 ≡ suc i = omega arith in
      subst (λ n. IsPath made (take n way)) next (prefix-path made falls way is i (omega (arith, h)))

  -- a part of a path from its beginning on
  pub up_to-path : (way : List ℕ) → IsPath made way → (last : ℕ) → IsPath made (up_to last way)
  up_to-path way is last = front-path way is (position_or_len (λ m. nat_lt last m) way) (prefix_len-le-length (λ m. not (nat_lt last m)) way)

-- ---- objects one behind another

-- the events of the next object
pub popped-more : {B : Type 0} (f : ℕ → List B) (k : ℕ) (left next : List ℕ) (here more all : List B) → left ≡ k ∷ next → here ++ flat_map f left ≡ all → more ≡ here ++ f k → more ++ flat_map f next ≡ all
popped-more f k left next here more all popped so_far put =
    ap (λ l. l ++ flat_map f next) put ∙ append_assoc here (f k) (flat_map f next) ∙ ap (λ l. here ++ flat_map f l) (sym popped) ∙ so_far
