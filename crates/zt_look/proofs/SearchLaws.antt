-- How a search goes on: one step after another adds what both add, and what was looked into need not wait any more.
use Rattle.std.proofs.Common.{◌≡◌, ◌≤◌, ◌<◌, ℕ, ◌+◌, ◌-◌, Bool, true, false, not, ◌&&◌, ◌||◌, eqb, cond, List, [], ◌∷◌, ◌++◌, length, ◌⊎◌, inl, inr, refl, sym, ap, ◌∙◌, subst, arith, length-append}
use Rattle.std.specs.Prelude.{nat_lt, Option, None, Some, ◌==◌, if◌then◌else◌}
use Rattle.std.specs.List.{list_any, AllByRecursion, IsDistinct}
use Rattle.std.specs.List.Sorted.{IsStrictlySortedBy}
use Rattle.std.specs.declared.cmp.Ordering.TheVariants.{Less, Equal, Greater}
use Rattle.std.specs.Ordering.{nat_cmp, is_eq, eq_by_cmp}
use Rattle.std.specs.BTreeMap.{is_at}
use Rattle.std.specs.BTreeSet.{BTreeSet, btree_set_len, contains, IsOrdered}
use Rattle.std.proofs.lemmas.Bool.{eqb-true, eq-eqb, ne_eqb, ltb-true, cases_lt}
use Rattle.std.proofs.lemmas.List.Folds.{list_any-append}
use Rattle.std.proofs.lemmas.Map.Keys.{IsDistinct-from_sorted}
use Rattle.std.proofs.lemmas.Map.Steps.{length-le_from_distinct_below}
use Rattle.zt_bits.specs.declared.kinds.Kind.{Kind}
use Rattle.zt_bits.specs.declared.kinds.Kind.TheVariants as kind
use Rattle.zt_rows.specs.declared.keys.RowKey.{RowKey}
use Rattle.zt_rows.specs.declared.keys.RowKey.TheVariants as key
use Rattle.zt_rows.specs.declared.rows.Held.{Held}
use Rattle.zt_rows.specs.declared.rows.ObjectRow.{ObjectRow}
use Rattle.zt_rows.specs.declared.rows.Row.{Row}
use Rattle.zt_rows.specs.declared.rows.Row.TheVariants as rows
use Rattle.zt_rows.specs.Consistent.{IsConsistent, has_parent}
use Rattle.zt_rows.specs.Contents.{MessageContent}
use Rattle.zt_rows.specs.Keys.{first_number, rowkey_eq}
use Rattle.zt_rows.specs.ProofsOnly.KeyOrder.{rowkey_eq-equal}
use Rattle.zt_rows.specs.Reads.{counters, entry, message, object, is_live_process, has_live_process}
use Rattle.zt_rows.specs.State.{State, row}
use Rattle.zt_rows.specs.Support.{root_job}
use Rattle.zt_rows.specs.Tests.{among, exists, is_endpoint, is_task, next_at}
use Rattle.zt_rows.proofs.ReadLaws.{exists-some, kind_at-some, message-row}
use Rattle.zt_rows.proofs.RowLaws.{or_true, or_left, or_right, and_left, and_right, true≢false}
use Rattle.zt_rows.proofs.SoundLaws.{has_live_process-some, some-has_live_process}
use Rattle.zt_queries.proofs.FollowLaws.{low-koid}
use Rattle.zt_look.specs.declared.unleaked_search.Search.{Search}
use Rattle.zt_look.specs.ProofsOnly.UnleakedSearch.{Adds, AreBetween, AreThere, Grows, HasAllNamed, IsLeast, IsNamedAt, IsNamedBetween, IsNamedBy, IsNamedHere, IsOpen, IsOwned, IsSearched, IsSeeded, WaitInside, begun_by, has_key, in_set, in_found, is_there_after, itself, koid_of, koids, koids_in, named_by, parents, waits}

-- ---- numbers

is_at-eqb : (q k : ℕ) → is_at (nat_cmp q) k ≡ eqb q k
is_at-eqb q k = by (nat_lt q k) refl
  where
    apart : (b : Bool) → is_eq (cond b Equal Greater) ≡ b
    apart true = refl
    apart false = refl

    by : (b : Bool) → nat_lt q k ≡ b → is_eq (cond b Less (cond (eqb q k) Equal Greater)) ≡ eqb q k
    by true h = let l : q < k = ltb-true q k h in sym (ne_eqb q k (λ e. omega (arith, e, l)))
    by false h = apart (eqb q k)

all-same : (e f : ℕ → Bool) → ((y : ℕ) → e y ≡ f y) → (ks : List ℕ) → AllByRecursion (λ y. e y ≡ false) ks → AllByRecursion (λ y. f y ≡ false) ks
all-same e f same [] all = tt
all-same e f same (k ∷ ks) all = (sym (same k) ∙ all.0, all-same e f same ks all.1)

distinct-same : (e f : ℕ → ℕ → Bool) → ((x y : ℕ) → e x y ≡ f x y) → (ks : List ℕ) → IsDistinct e ks → IsDistinct f ks
unfolding IsDistinct
distinct-same e f same [] d = tt
distinct-same e f same (k ∷ ks) d = (all-same (e k) (f k) (same k) ks d.0, distinct-same e f same ks d.1)

IsDistinct-numbers : (ks : List ℕ) → IsStrictlySortedBy nat_cmp ks → IsDistinct eqb ks
IsDistinct-numbers ks order = distinct-same (eq_by_cmp nat_cmp) eqb is_at-eqb ks (IsDistinct-from_sorted nat_cmp ks order)

list_any-same : (p q : ℕ → Bool) → ((k : ℕ) → p k ≡ q k) → (ks : List ℕ) → list_any p ks ≡ list_any q ks
list_any-same p q same [] = refl
list_any-same p q same (k ∷ ks) = ap (λ b. b || list_any p ks) (same k) ∙ ap (λ b. q k || b) (list_any-same p q same ks)

-- ---- tests

found_same : (f s t : Bool) → f ≡ (f || (s && not s && t))
found_same true s t = refl
found_same false true t = refl
found_same false false t = refl

no : {A : Type 0} → true ≡ false → A
no e = absurd (let f : true ≡ false = e in cc)

-- what is found at two steps is found at both in one
pub found_on : (f f1 f2 a b c t : Bool) → f1 ≡ (f || (b && not a && t)) → f2 ≡ (f1 || (c && not b && t)) → (a ≡ true → b ≡ true) → (b ≡ true → c ≡ true) → f2 ≡ (f || (c && not a && t))
found_on f f1 f2 true true true t e g h k = g ∙ ap (λ z. z || false) e ∙ by f
  where
    by : (f : Bool) → ((f || false) || false) ≡ (f || false)
    by true = refl
    by false = refl
found_on f f1 f2 true true false t e g h k = no (sym (k refl))
found_on f f1 f2 true false c t e g h k = no (sym (h refl))
found_on f f1 f2 false true true t e g h k = g ∙ ap (λ z. z || false) e ∙ by f t
  where
    by : (f t : Bool) → ((f || t) || false) ≡ (f || t)
    by true t = refl
    by false true = refl
    by false false = refl
found_on f f1 f2 false true false t e g h k = no (sym (k refl))
found_on f f1 f2 false false true t e g h k = g ∙ ap (λ z. z || t) e ∙ by f t
  where
    by : (f t : Bool) → ((f || false) || t) ≡ (f || t)
    by true t = refl
    by false t = refl
found_on f f1 f2 false false false t e g h k = g ∙ ap (λ z. z || false) e ∙ by f
  where
    by : (f : Bool) → ((f || false) || false) ≡ (f || false)
    by true = refl
    by false = refl

-- ---- one step after another

pub grows-same : (R : List (RowKey × Option Row)) (s : Search) → Grows R s s
grows-same R s = record {
  kept = λ x e. e;
  came = λ x e. inl e;
  still = λ x e. e;
  known = λ x e. inl e;
  found = λ x. found_same (in_found s x) (in_set s x) (is_there_after R x);
  sizes = omega arith;
}

pub grows-on : (R : List (RowKey × Option Row)) (a b c : Search) → Grows R a b → Grows R b c → Grows R a c
grows-on R a b c g h = record {
  kept = λ x e. h.kept x (g.kept x e);
  came = λ x e. elim (h.came x e) [
    | inl m ↦ elim (g.came x m) [ inl l ↦ inl l | inr w ↦ inr (h.still x w) ]
    | inr w ↦ inr w
  ];
  still = λ x e. h.still x (g.still x e);
  known = λ x e. elim (h.known x e) [
    | inl w ↦ elim (g.known x w) [ inl v ↦ inl v | inr m ↦ inr (h.kept x m) ]
    | inr m ↦ inr m
  ];
  found = λ x. found_on (in_found a x) (in_found b x) (in_found c x) (in_set a x) (in_set b x) (in_set c x) (is_there_after R x) (g.found x) (h.found x) (g.kept x) (h.kept x);
  sizes = let l = g.sizes in let m = h.sizes in omega arith;
}

pub adds-none : (P : ℕ → Type 0) (R : List (RowKey × Option Row)) (s : Search) → ((x : ℕ) → P x → ⊥) → Adds P R s s
adds-none P R s none = record { grows = grows-same R s; all = λ x p. absurd (none x p); only = λ x e. inl e }

-- what was added at each of two steps was added at both in one
pub adds-on : (P Q U : ℕ → Type 0) (R : List (RowKey × Option Row)) (a b c : Search) → Adds P R a b → Adds Q R b c
    → ((x : ℕ) → P x → U x) → ((x : ℕ) → Q x → U x) → ((x : ℕ) → U x → P x ⊎ Q x) → Adds U R a c
adds-on P Q U R a b c p q first second either = record {
  grows = grows-on R a b c p.grows q.grows;
  all = λ x u. elim (either x u) [ inl l ↦ q.grows.kept x (p.all x l) | inr r ↦ q.all x r ];
  only = λ x e. elim (q.only x e) [
    | inl m ↦ elim (p.only x m) [ inl l ↦ inl l | inr l ↦ inr (first x l) ]
    | inr r ↦ inr (second x r)
  ];
}

pub adds-as : (P Q : ℕ → Type 0) (R : List (RowKey × Option Row)) (a b : Search) → Adds P R a b → ((x : ℕ) → P x → Q x) → ((x : ℕ) → Q x → P x) → Adds Q R a b
adds-as P Q R a b p there back = record {
  grows = p.grows;
  all = λ x q. p.all x (back x q);
  only = λ x e. elim (p.only x e) [ inl l ↦ inl l | inr r ↦ inr (there x r) ];
}

-- ---- what a key's row names

owned_of : (S : State) (R : List (RowKey × Option Row)) (a b : Search) (k : RowKey) → Adds (λ x. among (begun_by S k) x ≡ true) R a b → in_set b (first_number k) ≡ true → IsOwned S (in_set a) k
owned_of S R a b k first there = first.only (first_number k) there

set_owned : (S : State) (R : List (RowKey × Option Row)) (a b : Search) (k : RowKey) → Adds (λ x. among (begun_by S k) x ≡ true) R a b → IsOwned S (in_set a) k → in_set b (first_number k) ≡ true
set_owned S R a b k first (inl e) = first.grows.kept (first_number k) e
set_owned S R a b k first (inr e) = first.all (first_number k) e

-- the set has its object
pub named-owned : (S : State) (R : List (RowKey × Option Row)) (a b c : Search) (k : RowKey) → Adds (λ x. among (begun_by S k) x ≡ true) R a b → in_set b (first_number k) ≡ true
    → Adds (λ x. among (named_by S k) x ≡ true) R b c → Adds (IsNamedHere S (in_set a) k) R a c
named-owned S R a b c k first there second =
    adds-on (λ x. among (begun_by S k) x ≡ true) (λ x. among (named_by S k) x ≡ true) (IsNamedHere S (in_set a) k) R a b c first second
    (λ x e. inl e)
    (λ x e. inr (owned_of S R a b k first there, e))
    (λ x u. elim u [ inl e ↦ inl e | inr e ↦ inr e.1 ])

-- it does not have it
pub named-unowned : (S : State) (R : List (RowKey × Option Row)) (a b : Search) (k : RowKey) → Adds (λ x. among (begun_by S k) x ≡ true) R a b → in_set b (first_number k) ≡ false
    → Adds (IsNamedHere S (in_set a) k) R a b
named-unowned S R a b k first out =
    adds-as (λ x. among (begun_by S k) x ≡ true) (IsNamedHere S (in_set a) k) R a b first
    (λ x e. inl e)
    (λ x u. elim u [ inl e ↦ e | inr e ↦ absurd (true≢false (in_set b (first_number k)) (set_owned S R a b k first e.0) out) ])

-- ---- the rows of an object

named_either : (S : State) (y x : ℕ) (k : RowKey) → first_number k ≡ y → among (named_by S k) x ≡ true → (among (parents (object S y)) x ≡ true) ⊎ IsNamedAt S y x
named_either S y x (key.Object z) e h = inl (subst (λ w. among (parents (object S w)) x ≡ true) e h)
named_either S y x (key.Msg f n) e h = inr (n, subst (λ w. among (koids_in (message S w n)) x ≡ true) e h)
named_either S y x key.Counters e h = no (sym h)
named_either S y x (key.Entry p n) e h = no (sym h)
named_either S y x (key.Packet p n) e h = no (sym h)
named_either S y x (key.Wait n) e h = no (sym h)

pub looked-into : (S : State) (R : List (RowKey × Option Row)) (a b c : Search) (y : ℕ) (o : Option ObjectRow) → o ≡ object S y → Adds (λ x. among (parents o) x ≡ true) R a b
    → Adds (IsNamedAt S y) R b c → Adds (IsNamedBy S y) R a c
looked-into S R a b c y o same first second =
    adds-on (λ x. among (parents o) x ≡ true) (IsNamedAt S y) (IsNamedBy S y) R a b c first second
    (λ x e. (key.Object y, refl, subst (λ (z : Option ObjectRow). among (parents z) x ≡ true) same e))
    (λ x w. (key.Msg y w.0, refl, w.1))
    (λ x u. elim (named_either S y x u.0 u.1 u.2) [ inl e ↦ inl (subst (λ (z : Option ObjectRow). among (parents z) x ≡ true) (sym same) e) | inr w ↦ inr w ])

-- ---- a queue

none_some : {A : Type 0} (r : Option A) (a : A) → r ≡ None → r ≡ Some a → ⊥
none_some r a e f = cc

message-high : (S : State) (e low n : ℕ) (m : MessageContent) → ((k : ℕ) → k < low → row S (key.Msg e k) ≡ None) → message S e n ≡ Some m → low ≤ n
message-high S e low n m none there = elim (cases_lt n low) [
  | inl l ↦ absurd (none_some (row S (key.Msg e n)) (rows.Msg m) (none n l) (message-row S e n m there))
  | inr g ↦ g
]

pub queue-between : (S : State) (e low high : ℕ) → IsConsistent S → ((k : ℕ) → k < low → row S (key.Msg e k) ≡ None) → high ≡ next_at S e → AreBetween S e low high
queue-between S e low high sound none next n m there = (
  message-high S e low n m none there,
  subst (λ h. n < h) (sym next) (sound.sound.of_messages e n m there).number,
)

named-some : (o : Option MessageContent) (x : ℕ) → among (koids_in o) x ≡ true → (m : MessageContent) × (o ≡ Some m)
named-some (Some m) x e = (m, refl)
named-some None x e = no (sym e)

-- all numbers were gone over
pub all-between : (S : State) (R : List (RowKey × Option Row)) (a b : Search) (e low high i : ℕ) → AreBetween S e low high → high ≤ i → Adds (IsNamedBetween S e low i) R a b → Adds (IsNamedAt S e) R a b
all-between S R a b e low high i are past adds =
    adds-as (IsNamedBetween S e low i) (IsNamedAt S e) R a b adds
    (λ x w. (w.0, w.3))
    (λ x w.
    let m = named-some (message S e w.0) x w.1 in
    let within = are w.0 m.0 m.1 in
    let low_in : low ≤ w.0 = within.0 in
    let high_in : w.0 < high = within.1 in
    (w.0, low_in, omega arith, w.1))

-- ---- key by key

has_key-more : (ks : List RowKey) (q k : RowKey) → has_key (ks ++ q ∷ []) k ≡ true → (has_key ks k ≡ true) ⊎ (k ≡ q)
has_key-more ks q k e = elim (or_true (has_key ks k) (rowkey_eq k q || false) (sym (list_any-append (rowkey_eq k) ks (q ∷ [])) ∙ e)) [
  | inl l ↦ inl l
  | inr r ↦ inr (rowkey_eq-equal k q (elim (or_true (rowkey_eq k q) false r) [ inl s ↦ s | inr s ↦ no (sym s) ]))
]

owned-kept : (S : State) (a : Search) (f : ℕ → Bool) (k : RowKey) → HasAllNamed S f → ((x : ℕ) → in_set a x ≡ true → f x ≡ true) → IsOwned S (in_set a) k → f (first_number k) ≡ true
owned-kept S a f k closed inside (inl e) = inside (first_number k) e
owned-kept S a f k closed inside (inr e) = closed.begun k (first_number k) e

here-kept : (S : State) (a : Search) (f : ℕ → Bool) (k : RowKey) (x : ℕ) → HasAllNamed S f → ((x : ℕ) → in_set a x ≡ true → f x ≡ true) → IsNamedHere S (in_set a) k x → f x ≡ true
here-kept S a f k x closed inside (inl e) = closed.begun k x e
here-kept S a f k x closed inside (inr w) = closed.named k x (owned-kept S a f k closed inside w.0) w.1

pub seeded-none : (S : State) (R : List (RowKey × Option Row)) (s : Search) → IsSeeded S R [] s s
seeded-none S R s = record {
  grows = grows-same R s;
  least = λ f closed inside x e. inside x e;
  begun = λ k x h e. no (sym h);
  named = λ k x h o e. no (sym h);
}

pub seeded-on : (S : State) (R : List (RowKey × Option Row)) (ks more : List RowKey) (q : RowKey) (a b c : Search) → more ≡ ks ++ q ∷ [] → IsSeeded S R ks a b → Adds (IsNamedHere S (in_set b) q) R b c
    → IsSeeded S R more a c
seeded-on S R ks more q a b c long so_far adds = record {
  grows = grows-on R a b c so_far.grows adds.grows;
  least = λ f closed inside x e. elim (adds.only x e) [
    | inl l ↦ so_far.least f closed inside x l
    | inr w ↦ here-kept S b f q x closed (λ y h. so_far.least f closed inside y h) w
  ];
  begun = λ k x h e. begun k x e (has_key-more ks q k (subst (λ l. has_key l k ≡ true) long h));
  named = λ k x h o e. named k x o e (has_key-more ks q k (subst (λ l. has_key l k ≡ true) long h));
}
  where
    begun : (k : RowKey) (x : ℕ) → among (begun_by S k) x ≡ true → (has_key ks k ≡ true) ⊎ (k ≡ q) → in_set c x ≡ true
    begun k x e (inl h) = adds.grows.kept x (so_far.begun k x h e)
    begun k x e (inr s) = adds.all x (inl (subst (λ z. among (begun_by S z) x ≡ true) s e))

    old_named : (k : RowKey) (x : ℕ) → among (named_by S k) x ≡ true → has_key ks k ≡ true → in_set b (first_number k) ≡ true → (in_set c x ≡ true) ⊎ (waits c (first_number k) ≡ true)
    old_named k x e h o = elim (so_far.named k x h o e) [ inl l ↦ inl (adds.grows.kept x l) | inr w ↦ inr (adds.grows.still (first_number k) w) ]

    new_named : (k : RowKey) (x : ℕ) → among (named_by S k) x ≡ true → k ≡ q → in_set b (first_number k) ≡ true → in_set c x ≡ true
    new_named k x e s o = adds.all x (inr (inl (subst (λ z. in_set b (first_number z) ≡ true) s o), subst (λ z. among (named_by S z) x ≡ true) s e))

    named : (k : RowKey) (x : ℕ) → in_set c (first_number k) ≡ true → among (named_by S k) x ≡ true → (has_key ks k ≡ true) ⊎ (k ≡ q) → (in_set c x ≡ true) ⊎ (waits c (first_number k) ≡ true)
    named k x o e which = elim (adds.grows.came (first_number k) o) [
      | inr w ↦ inr w
      | inl old ↦ elim which [ inl h ↦ old_named k x e h old | inr s ↦ inl (new_named k x e s old) ]
    ]

-- ---- one that waited after another

waits-split : (xs : List ℕ) (y x : ℕ) → among (xs ++ y ∷ []) x ≡ true → (among xs x ≡ true) ⊎ (x ≡ y)
waits-split xs y x e = elim (or_true (among xs x) ((y == x) || false) (sym (list_any-append (λ m. m == x) xs (y ∷ [])) ∙ e)) [
  | inl l ↦ inl l
  | inr r ↦ inr (elim (or_true (y == x) false r) [ inl s ↦ sym (eqb-true y x s) | inr s ↦ no (sym s) ])
]

waits-front : (xs : List ℕ) (y x : ℕ) → among xs x ≡ true → among (xs ++ y ∷ []) x ≡ true
waits-front xs y x e = list_any-append (λ m. m == x) xs (y ∷ []) ∙ or_left (among xs x) ((y == x) || false) e

waits-last : (xs : List ℕ) (y : ℕ) → among (xs ++ y ∷ []) y ≡ true
waits-last xs y = list_any-append (λ m. m == y) xs (y ∷ []) ∙ or_right (among xs y) ((y == y) || false) (or_left (y == y) false (eq-eqb y y refl))

module _ (S : State) (R : List (RowKey × Option Row)) (start now taken new : Search) (y : ℕ) (same_set : taken.set ≡ now.set) (same_found : taken.found ≡ now.found)
    (split : now.waiting.items ≡ taken.waiting.items ++ y ∷ []) (so_far : IsSearched S R start now) (adds : Adds (IsNamedBy S y) R taken new) where
  has_set : (x : ℕ) → in_set taken x ≡ in_set now x
  has_set x = ap (λ s. contains nat_cmp s x) same_set

  here : in_set now y ≡ true
  here = so_far.inside y (ap (λ l. among l y) split ∙ waits-last taken.waiting.items y)

  grown : (x : ℕ) → in_set now x ≡ true → in_set new x ≡ true
  grown x e = adds.grows.kept x (has_set x ∙ e)

  named_inside : (f : ℕ → Bool) → HasAllNamed S f → f y ≡ true → (x : ℕ) → IsNamedBy S y x → f x ≡ true
  named_inside f closed owner x w = closed.named w.0 x (subst (λ z. f z ≡ true) (sym w.1) owner) w.2

  searched-least : IsLeast S start new
  searched-least f closed inside x e = elim (adds.only x e) [
    | inl l ↦ so_far.least f closed inside x (sym (has_set x) ∙ l)
    | inr w ↦ named_inside f closed (so_far.least f closed inside y here) x w
  ]

  still_open : (k : RowKey) (x : ℕ) → among (named_by S k) x ≡ true → waits now (first_number k) ≡ true → (in_set new x ≡ true) ⊎ (waits new (first_number k) ≡ true)
  still_open k x e w = elim (waits-split taken.waiting.items y (first_number k) (sym (ap (λ l. among l (first_number k)) split) ∙ w)) [
    | inl l ↦ inr (adds.grows.still (first_number k) l)
    | inr s ↦ inl (adds.all x (k, s, e))
  ]

  searched-open : IsOpen S new
  searched-open k x o e = elim (adds.grows.came (first_number k) o) [
    | inr w ↦ inr w
    | inl l ↦ elim (so_far.opened k x (sym (has_set (first_number k)) ∙ l) e) [ inl m ↦ inl (grown x m) | inr w ↦ still_open k x e w ]
  ]

  searched-inside : WaitInside new
  searched-inside x w = elim (adds.grows.known x w) [
    | inr m ↦ m
    | inl l ↦ grown x (so_far.inside x (ap (λ l. among l x) split ∙ waits-front taken.waiting.items y x l))
  ]

  pub searched-on : IsSearched S R start new
  searched-on = record {
    kept = λ x e. grown x (so_far.kept x e);
    least = searched-least;
    found = λ x.
        found_on (in_found start x) (in_found now x) (in_found new x) (in_set start x) (in_set now x) (in_set new x) (is_there_after R x) (so_far.found x)
        (adds.grows.found x ∙ ap (λ s. contains nat_cmp s x || (in_set new x && not (in_set taken x) && is_there_after R x)) same_found
        ∙ ap (λ b. in_found now x || (in_set new x && not b && is_there_after R x)) (has_set x))
        (so_far.kept x) (grown x);
    opened = searched-open;
    inside = searched-inside;
  }

-- ---- what is there

all-among : (f : ℕ → Bool) (hs : List Held) (x : ℕ) → AllByRecursion (λ (h : Held). f h.koid ≡ true) hs → among (koids hs) x ≡ true → f x ≡ true
all-among f [] x all e = no (sym e)
all-among f (h ∷ hs) x all e = elim (or_true (h.koid == x) (among (koids hs) x) e) [
  | inl l ↦ subst (λ z. f z ≡ true) (eqb-true h.koid x l) all.0
  | inr r ↦ all-among f hs x all.1 r
]

one-among : (y x : ℕ) → among (y ∷ []) x ≡ true → y ≡ x
one-among y x e = elim (or_true (y == x) false e) [ inl l ↦ eqb-true y x l | inr r ↦ no (sym r) ]

if-among : (b : Bool) (y x : ℕ) → among (if b then y ∷ [] else []) x ≡ true → (b ≡ true) × (y ≡ x)
if-among true y x e = (refl, one-among y x e)
if-among false y x e = no (sym e)

not_zero : (l : ℕ) → not (l == 0) ≡ true → l ≡ 0 → ⊥
not_zero l e z = no (sym e ∙ ap not (eq-eqb l 0 z))

-- what a set is closed under, one by one
pub record Holds (S : State) (f : ℕ → Bool) : Type 0 where
  pub root : f root_job ≡ true
  pub running : (x : ℕ) → has_live_process S x ≡ true → f x ≡ true
  pub entries : (p h : ℕ) (held : Held) → entry S p h ≡ Some held → f held.koid ≡ true
  pub messages : (e n : ℕ) (m : MessageContent) → message S e n ≡ Some m → f e ≡ true → AllByRecursion (λ (h : Held). f h.koid ≡ true) m.handles
  pub above : (x : ℕ) (o : ObjectRow) → object S x ≡ Some o → is_task o.kind ≡ true → (o.link ≡ 0 → ⊥) → f x ≡ true → f o.link ≡ true

module _ (S : State) (f : ℕ → Bool) (holds : Holds S f) where
  itself_held : (y x : ℕ) (o : Option ObjectRow) → object S y ≡ o → among (itself y o) x ≡ true → f x ≡ true
  itself_held y x None at e = no (sym e)
  itself_held y x (Some o) at e =
      let w = if-among ((y == root_job) || is_live_process o) y x e in
      subst (λ z. f z ≡ true) w.1 (elim (or_true (y == root_job) (is_live_process o) w.0) [
        | inl l ↦ subst (λ z. f z ≡ true) (sym (eqb-true y root_job l)) holds.root
        | inr r ↦ holds.running y (some-has_live_process S y o at r)
      ])

  entry_held : (p h x : ℕ) (o : Option Held) → entry S p h ≡ o → among (koid_of o) x ≡ true → f x ≡ true
  entry_held p h x None at e = no (sym e)
  entry_held p h x (Some held) at e = subst (λ z. f z ≡ true) (one-among held.koid x e) (holds.entries p h held at)

  parents_held : (y x : ℕ) (o : Option ObjectRow) → object S y ≡ o → f y ≡ true → among (parents o) x ≡ true → f x ≡ true
  parents_held y x None at owner e = no (sym e)
  parents_held y x (Some o) at owner e =
      let w = if-among (is_task o.kind && not (o.link == 0)) o.link x e in
      subst (λ z. f z ≡ true) w.1 (holds.above y o at (and_left (is_task o.kind) (not (o.link == 0)) w.0) (not_zero o.link (and_right (is_task o.kind) (not (o.link == 0)) w.0)) owner)

  message_held : (e n x : ℕ) (o : Option MessageContent) → message S e n ≡ o → f e ≡ true → among (koids_in o) x ≡ true → f x ≡ true
  message_held e n x None at owner h = no (sym h)
  message_held e n x (Some m) at owner h = all-among f m.handles x (holds.messages e n m at owner) h

  begun_held : (k : RowKey) (x : ℕ) → among (begun_by S k) x ≡ true → f x ≡ true
  begun_held (key.Object y) x e = itself_held y x (object S y) refl e
  begun_held (key.Entry p h) x e = entry_held p h x (entry S p h) refl e
  begun_held key.Counters x e = no (sym e)
  begun_held (key.Msg e n) x h = no (sym h)
  begun_held (key.Packet p n) x e = no (sym e)
  begun_held (key.Wait n) x e = no (sym e)

  named_held : (k : RowKey) (x : ℕ) → f (first_number k) ≡ true → among (named_by S k) x ≡ true → f x ≡ true
  named_held (key.Object y) x owner e = parents_held y x (object S y) refl owner e
  named_held (key.Msg e n) x owner h = message_held e n x (message S e n) refl owner h
  named_held key.Counters x owner e = no (sym e)
  named_held (key.Entry p h) x owner e = no (sym e)
  named_held (key.Packet p n) x owner e = no (sym e)
  named_held (key.Wait n) x owner e = no (sym e)

  pub holds-closed : HasAllNamed S f
  holds-closed = record { begun = begun_held; named = named_held }

pub task-no-endpoint : (k : Kind) → is_task k ≡ true → is_endpoint k ≡ false
task-no-endpoint kind.Job e = refl
task-no-endpoint kind.Process e = refl
task-no-endpoint kind.Channel e = no (sym e)
task-no-endpoint kind.Event e = no (sym e)
task-no-endpoint kind.EventPair e = no (sym e)
task-no-endpoint kind.Port e = no (sym e)

-- a job or a process with a link has a parent
pub linked-child : (S : State) → IsConsistent S → (x : ℕ) (o : ObjectRow) → object S x ≡ Some o → is_task o.kind ≡ true → (o.link ≡ 0 → ⊥) → has_parent x o ≡ true
linked-child S sound x o at task linked = by (has_parent x o) refl
  where
    by : (b : Bool) → has_parent x o ≡ b → has_parent x o ≡ true
    by true e = e
    by false e = absurd (linked ((sound.sound.of_objects x o at).alone (task-no-endpoint o.kind task) e))

pub there-closed : (S : State) → IsConsistent S → HasAllNamed S (exists S)
there-closed S sound = holds-closed S (exists S) (record {
  root = let w = kind_at-some S root_job kind.Job sound.sound.root in exists-some S root_job w.0 w.1;
  running = λ x e. let w = has_live_process-some S x e in exists-some S x w.0 w.1;
  entries = λ p h held at. (sound.sound.of_entries p h held at).names;
  messages = λ e n m at owner. (sound.sound.of_messages e n m at).names;
  above = λ x o at task linked owner. let c = (sound.sound.of_objects x o at).parents (linked-child S sound x o at task linked) in exists-some S o.link c.parent c.there;
})

-- ---- a search ends

-- a set of koids of objects has no more of them than were given out
few-there : (S : State) (s : BTreeSet ℕ) → IsConsistent S → IsOrdered nat_cmp s → ((x : ℕ) → contains nat_cmp s x ≡ true → exists S x ≡ true) → btree_set_len s ≤ (counters S).next_koid
few-there S s sound order there =
    length-le_from_distinct_below s.keys (counters S).next_koid (IsDistinct-numbers s.keys order)
    (λ q e. low-koid S sound.sound q (there q (list_any-same (λ k. is_at (nat_cmp q) k) (λ k. eqb q k) (λ k. is_at-eqb q k) s.keys ∙ e)))

pub search-less : (S : State) (R : List (RowKey × Option Row)) (start now taken new : Search) (y : ℕ) → taken.set ≡ now.set → now.waiting.items ≡ taken.waiting.items ++ y ∷ []
    → Adds (IsNamedBy S y) R taken new → IsConsistent S → AreThere S start → IsSearched S R start new → IsOrdered nat_cmp new.set
    → ((counters S).next_koid - btree_set_len new.set) + length new.waiting.items < ((counters S).next_koid - btree_set_len now.set) + length now.waiting.items
search-less S R start now taken new y same split adds sound there searched order =
    let sizes : length new.waiting.items + btree_set_len taken.set ≤ length taken.waiting.items + btree_set_len new.set = adds.grows.sizes in
    let size : btree_set_len taken.set ≡ btree_set_len now.set = ap (λ (s : BTreeSet ℕ). btree_set_len s) same in
    let longer : length now.waiting.items ≡ length taken.waiting.items + 1 = ap length split ∙ length-append taken.waiting.items (y ∷ []) in
    let few : btree_set_len new.set ≤ (counters S).next_koid = few-there S new.set sound order (λ x e. searched.least (exists S) (there-closed S sound) there x e) in
    omega (arith, sizes, size, longer, few)
