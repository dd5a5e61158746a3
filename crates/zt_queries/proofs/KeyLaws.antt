-- The keys of a state one after another: each is followed by the least above it.
use Rattle.std.proofs.Common.{◌≡◌, ℕ, zero, suc, ◌<◌, Bool, true, false, cond, ◌&&◌, T, List, [], ◌∷◌, ◌++◌, map, length, take, drop, find, Option, Some, None, IsSome, IfSome, ◌-◌, refl, sym, ◌∙◌, ap, subst, arith, length-append}
use Rattle.std.specs.List.{slice_get}
use Rattle.std.specs.declared.cmp.Ordering.{Ordering}
use Rattle.std.specs.declared.cmp.Ordering.TheVariants.{Less, Equal, Greater}
use Rattle.std.specs.Ordering.{is_lt, is_eq, ordering_reverse}
use Rattle.std.specs.Cmp.{tied_itself}
use Rattle.std.specs.FinMap.Entries as entries
use Rattle.zt_rows.specs.declared.keys.RowKey.{RowKey}
use Rattle.zt_rows.specs.declared.rows.Row.{Row}
use Rattle.zt_rows.specs.Keys.{rowkey_cmp}
use Rattle.zt_rows.specs.ProofsOnly.KeyOrder.{rowkey_cmp_total}
use Rattle.zt_rows.specs.Room.{is_above, next_key}
use Rattle.zt_rows.specs.Change.{keys}
use Rattle.zt_rows.specs.State.{State, row}
use Rattle.zt_rows.proofs.StateLaws.{row-rows}
use Rattle.zt_queries.specs.ProofsOnly.Holders.{keys_from, keys_left}

abbrev keys_of : List (RowKey × Row) → List RowKey
keys_of es = map (λ e. e.0) es

some_one : {A : Type 0} (x y : A) → Some x ≡ Some y → x ≡ y
some_one x y e = cc

-- ---- what is below

left_of : (a b : Bool) → T (a && b) → a ≡ true
left_of true b p = refl
left_of false b p = absurd p

right_of : (a b : Bool) → T (a && b) → T b
right_of true b p = p
right_of false b p = absurd p

turned_less : (o : Ordering) → is_lt o ≡ true → o ≡ Less
turned_less Less e = refl
turned_less Equal e = cc
turned_less Greater e = cc

-- a key above another is not below it, nor equal to it
not_below : (x k : RowKey) → is_lt (rowkey_cmp x k) ≡ true → rowkey_cmp k x ≡ Greater
not_below x k h = rowkey_cmp_total.antisymm k x ∙ ap ordering_reverse (turned_less (rowkey_cmp x k) h)

itself : (k : RowKey) → rowkey_cmp k k ≡ Equal
itself k = tied_itself rowkey_cmp_total k

below_at : (x : RowKey) (es : List (RowKey × Row)) (n : ℕ) (k : RowKey) → T (entries.below_all rowkey_cmp x es) → slice_get (keys_of es) n ≡ Some k → is_lt (rowkey_cmp x k) ≡ true
below_at x [] n k b h = cc
below_at x (e ∷ es) zero k b h =
    subst (λ q. is_lt (rowkey_cmp x q) ≡ true) (some_one e.0 k h) (left_of (is_lt (rowkey_cmp x e.0)) (entries.below_all rowkey_cmp x es) b)
below_at x (e ∷ es) (suc n) k b h = below_at x es n k (right_of (is_lt (rowkey_cmp x e.0)) (entries.below_all rowkey_cmp x es) b) h

-- ---- the key that follows

first_key : (es : List (RowKey × Row)) → find (is_above None) (keys_of es) ≡ slice_get (keys_of es) 0
first_key [] = refl
first_key (e ∷ es) = refl

key_after : (k : RowKey) (es : List (RowKey × Row)) → T (entries.below_all rowkey_cmp k es) → find (is_above (Some k)) (keys_of es) ≡ slice_get (keys_of es) 0
key_after k [] h = refl
key_after k (e ∷ es) h =
    ap (λ b. cond b (Some e.0) (find (is_above (Some k)) (keys_of es))) (left_of (is_lt (rowkey_cmp k e.0)) (entries.below_all rowkey_cmp k es) h)

next_in : (es : List (RowKey × Row)) (n : ℕ) (k : RowKey) → T (entries.is_sorted rowkey_cmp es) → slice_get (keys_of es) n ≡ Some k → find (is_above (Some k)) (keys_of es) ≡ slice_get (keys_of es) (suc n)
next_in [] n k s h = cc
next_in (e ∷ es) zero k s h =
    let same : e.0 ≡ k = some_one e.0 k h in
    let low : is_lt (rowkey_cmp k e.0) ≡ false = ap is_lt (ap (rowkey_cmp k) same ∙ itself k) in
    ap (λ b. cond b (Some e.0) (find (is_above (Some k)) (keys_of es))) low
    ∙ key_after k es (subst (λ q. T (entries.below_all rowkey_cmp q es)) same (subst T (sym (left_of (entries.below_all rowkey_cmp e.0 es) (entries.is_sorted rowkey_cmp es) s)) tt))
next_in (e ∷ es) (suc n) k s h =
    let below : T (entries.below_all rowkey_cmp e.0 es) = subst T (sym (left_of (entries.below_all rowkey_cmp e.0 es) (entries.is_sorted rowkey_cmp es) s)) tt in
    let low : is_lt (rowkey_cmp k e.0) ≡ false = ap is_lt (not_below e.0 k (below_at e.0 es n k below h)) in
    ap (λ b. cond b (Some e.0) (find (is_above (Some k)) (keys_of es))) low
    ∙ next_in es n k (right_of (entries.below_all rowkey_cmp e.0 es) (entries.is_sorted rowkey_cmp es) s) h

-- ---- the row at a key's place

row_in : (es : List (RowKey × Row)) (n : ℕ) (k : RowKey) → T (entries.is_sorted rowkey_cmp es) → slice_get (keys_of es) n ≡ Some k
    → (r : Row) × (slice_get es n ≡ Some (k, r)) × (entries.find rowkey_cmp k es ≡ Some r)
row_in [] n k s h = cc
row_in (e ∷ es) zero k s h =
    let same : e.0 ≡ k = some_one e.0 k h in
    let tied : is_eq (rowkey_cmp k e.0) ≡ true = ap is_eq (ap (rowkey_cmp k) same ∙ itself k) in
    (e.1, ap (λ q. Some (q, e.1)) same, ap (λ b. cond b (Some e.1) (entries.find rowkey_cmp k es)) tied)
row_in (e ∷ es) (suc n) k s h =
    let below : T (entries.below_all rowkey_cmp e.0 es) = subst T (sym (left_of (entries.below_all rowkey_cmp e.0 es) (entries.is_sorted rowkey_cmp es) s)) tt in
    let rest = row_in es n k (right_of (entries.below_all rowkey_cmp e.0 es) (entries.is_sorted rowkey_cmp es) s) h in
    let apart : is_eq (rowkey_cmp k e.0) ≡ false = ap is_eq (not_below e.0 k (below_at e.0 es n k below h)) in
    (rest.0, rest.1, ap (λ b. cond b (Some e.1) (entries.find rowkey_cmp k es)) apart ∙ rest.2)

-- ---- of a state

pub next_key-first : (S : State) → next_key S None ≡ slice_get (keys S) 0
next_key-first S = first_key S.rows

pub next_key-after : (S : State) (n : ℕ) (k : RowKey) → slice_get (keys S) n ≡ Some k → next_key S (Some k) ≡ slice_get (keys S) (suc n)
next_key-after S n k h = next_in S.rows n k S.sorted h

pub row-at : (S : State) (n : ℕ) (k : RowKey) → slice_get (keys S) n ≡ Some k → (r : Row) × (slice_get S.rows n ≡ Some (k, r)) × (row S k ≡ Some r)
row-at S n k h =
    let found = row_in S.rows n k S.sorted h in (found.0, found.1, row-rows S k ∙ found.2)

-- ---- copied so far

pub take_none : {A : Type 0} (xs ys : List A) → ys ≡ [] → ys ≡ take (length ys) xs
take_none xs ys e = rw e refl

take_one : {A : Type 0} (xs : List A) (n : ℕ) (x : A) → slice_get xs n ≡ Some x → take n xs ++ x ∷ [] ≡ take (suc n) xs
take_one [] n x h = cc
take_one (y ∷ ys) zero x h = ap (λ z. z ∷ []) (sym (some_one y x h))
take_one (y ∷ ys) (suc n) x h = ap (λ zs. y ∷ zs) (take_one ys n x h)

pub take_more : {A : Type 0} (xs ys zs : List A) (x : A) → ys ≡ take (length ys) xs → slice_get xs (length ys) ≡ Some x → zs ≡ ys ++ x ∷ [] → zs ≡ take (length zs) xs
take_more xs ys zs x t h z =
    let n : length zs ≡ suc (length ys) = omega (arith, ap length z, length-append ys (x ∷ [])) in
    z ∙ ap (λ ws. ws ++ x ∷ []) t ∙ take_one xs (length ys) x h ∙ ap (λ m. take m xs) (sym n)

take_past : {A B : Type 0} (f : A → B) (xs : List A) (n : ℕ) → slice_get (map f xs) n ≡ None → take n xs ≡ xs
take_past f [] zero h = refl
take_past f [] (suc n) h = refl
take_past f (x ∷ xs) zero h = cc
take_past f (x ∷ xs) (suc n) h = ap (λ zs. x ∷ zs) (take_past f xs n h)

pub take_all_of : {A B : Type 0} (f : A → B) (xs ys : List A) → ys ≡ take (length ys) xs → slice_get (map f xs) (length ys) ≡ None → ys ≡ xs
take_all_of f xs ys t h = t ∙ take_past f xs (length ys) h

pub place_within : {A B : Type 0} (f : A → B) (xs : List A) (n : ℕ) (y : B) → slice_get (map f xs) n ≡ Some y → n < length xs
place_within f [] n y h = cc
place_within f (x ∷ xs) zero y h = omega arith
place_within f (x ∷ xs) (suc n) y h = omega (arith, place_within f xs n y h)

-- ---- one more row of a state copied

one_row : (S : State) (xs ys : List (RowKey × Row)) (k : RowKey) → slice_get (keys S) (length xs) ≡ Some k → IfSome (row S k) (λ r. ys ≡ xs ++ (k, r) ∷ [])
    → (r : Row) × (slice_get S.rows (length xs) ≡ Some (k, r)) × (ys ≡ xs ++ (k, r) ∷ [])
one_row S xs ys k h g =
    let found = row-at S (length xs) k h in
    (found.0, found.1, subst (λ o. IfSome o (λ r. ys ≡ xs ++ (k, r) ∷ [])) found.2 g)

pub has_row : (S : State) (n : ℕ) (k : RowKey) → slice_get (keys S) n ≡ Some k → IsSome (row S k)
has_row S n k h = let found = row-at S n k h in subst IsSome (sym found.2) refl

pub copied_more : (S : State) (xs ys : List (RowKey × Row)) (k : RowKey) → xs ≡ take (length xs) S.rows → slice_get (keys S) (length xs) ≡ Some k
    → IfSome (row S k) (λ r. ys ≡ xs ++ (k, r) ∷ []) → ys ≡ take (length ys) S.rows
copied_more S xs ys k t h g =
    let one = one_row S xs ys k h g in take_more S.rows xs ys (k, one.0) t one.1 one.2

length_more : (S : State) (xs ys : List (RowKey × Row)) (k : RowKey) → slice_get (keys S) (length xs) ≡ Some k → IfSome (row S k) (λ r. ys ≡ xs ++ (k, r) ∷ []) → length ys ≡ suc (length xs)
length_more S xs ys k h g =
    let one = one_row S xs ys k h g in omega (arith, ap length one.2, length-append xs ((k, one.0) ∷ []))

pub following_more : (S : State) (xs ys : List (RowKey × Row)) (k : RowKey) (next : Option RowKey) → slice_get (keys S) (length xs) ≡ Some k
    → IfSome (row S k) (λ r. ys ≡ xs ++ (k, r) ∷ []) → next ≡ next_key S (Some k) → next ≡ slice_get (keys S) (length ys)
following_more S xs ys k next h g n =
    n ∙ next_key-after S (length xs) k h ∙ ap (slice_get (keys S)) (sym (length_more S xs ys k h g))

pub fewer_left : (S : State) (xs ys : List (RowKey × Row)) (k : RowKey) → slice_get (keys S) (length xs) ≡ Some k
    → IfSome (row S k) (λ r. ys ≡ xs ++ (k, r) ∷ []) → length S.rows - length ys < length S.rows - length xs
fewer_left S xs ys k h g =
    omega (arith, length_more S xs ys k h g, place_within (λ (e : RowKey × Row). e.0) S.rows (length xs) k h)

not_some : (o : Option RowKey) → ((k : RowKey) → o ≡ Some k → ⊥) → o ≡ None
not_some None f = refl
not_some (Some k) f = absurd (f k refl)

-- no key is left, so every row is copied
pub none_left : (S : State) (xs : List (RowKey × Row)) (next : Option RowKey) → xs ≡ take (length xs) S.rows → next ≡ slice_get (keys S) (length xs)
    → ((k : RowKey) → next ≡ Some k → ⊥) → xs ≡ S.rows
none_left S xs next t n f =
    take_all_of (λ (e : RowKey × Row). e.0) S.rows xs t (sym n ∙ not_some next f)

-- ---- the keys from one on

abbrev from_next : Option RowKey → List RowKey → List RowKey
from_next (Some k) ks = keys_from k ks
from_next None ks = []

none_behind : {A : Type 0} (xs : List A) (n : ℕ) → slice_get xs n ≡ None → [] ≡ drop n xs
none_behind [] zero h = refl
none_behind [] (suc n) h = refl
none_behind (x ∷ xs) zero h = cc
none_behind (x ∷ xs) (suc n) h = none_behind xs n h

from_in : (es : List (RowKey × Row)) (n : ℕ) (k : RowKey) → T (entries.is_sorted rowkey_cmp es) → slice_get (keys_of es) n ≡ Some k → keys_from k (keys_of es) ≡ drop n (keys_of es)
from_in [] n k s h = cc
from_in (e ∷ es) zero k s h =
    let same : e.0 ≡ k = some_one e.0 k h in
    let tied : is_eq (rowkey_cmp k e.0) ≡ true = ap is_eq (ap (rowkey_cmp k) same ∙ itself k) in
    ap (λ b. cond b (e.0 ∷ keys_of es) (keys_from k (keys_of es))) tied
from_in (e ∷ es) (suc n) k s h =
    let below : T (entries.below_all rowkey_cmp e.0 es) = subst T (sym (left_of (entries.below_all rowkey_cmp e.0 es) (entries.is_sorted rowkey_cmp es) s)) tt in
    let apart : is_eq (rowkey_cmp k e.0) ≡ false = ap is_eq (not_below e.0 k (below_at e.0 es n k below h)) in
    ap (λ b. cond b (e.0 ∷ keys_of es) (keys_from k (keys_of es))) apart
    ∙ from_in es n k (right_of (entries.below_all rowkey_cmp e.0 es) (entries.is_sorted rowkey_cmp es) s) h

-- from the key at a place on there are the keys behind that place
pub left-drop : (S : State) (n : ℕ) (next : Option RowKey) → next ≡ slice_get (keys S) n → keys_left S next ≡ drop n (keys S)
left-drop S n (Some k) h = from_in S.rows n k S.sorted (sym h)
left-drop S n None h = none_behind (keys S) n (sym h)

one_left : {A : Type 0} (xs : List A) (n : ℕ) (x : A) → slice_get xs n ≡ Some x → drop n xs ≡ x ∷ drop (suc n) xs
one_left [] n x h = cc
one_left (y ∷ ys) zero x h = ap (λ z. z ∷ ys) (some_one y x h)
one_left (y ∷ ys) (suc n) x h = one_left ys n x h

-- the next key stands at some place of the keys, or none is left
abbrev pub IsWalkedTo : State → Option RowKey → Type 0
IsWalkedTo S next = (n : ℕ) × (next ≡ slice_get (keys S) n)

pub walked-on : (S : State) (k : RowKey) (next : Option RowKey) → IsWalkedTo S (Some k) → next ≡ next_key S (Some k) → IsWalkedTo S next
walked-on S k next w h = (suc w.0, h ∙ next_key-after S w.0 k (sym w.1))

pub left-on : (S : State) (k : RowKey) (next : Option RowKey) → IsWalkedTo S (Some k) → next ≡ next_key S (Some k) → keys_left S (Some k) ≡ k ∷ keys_left S next
left-on S k next w h =
    left-drop S w.0 (Some k) w.1
    ∙ one_left (keys S) w.0 k (sym w.1)
    ∙ ap (λ l. k ∷ l) (sym (left-drop S (suc w.0) next (h ∙ next_key-after S w.0 k (sym w.1))))
