-- Supports row by row, over the keys in their order.
use Rattle.std.proofs.Common.{◌≡◌, ℕ, zero, suc, ◌<◌, ◌≤◌, ◌+◌, ◌-◌, ◌==◌, ◌&&◌, ◌||◌, Bool, true, false, cond, List, [], ◌∷◌, ◌++◌, map, length, take, drop, find, Option, Some, None, count_by, refl, sym, ◌∙◌, ap, subst, subst₂, inl, inr, arith, length-append, append_assoc, append-nil}
use Rattle.std.specs.List.{slice_get, filter_map, flat_map, cons_option}
use Rattle.std.proofs.lemmas.Bool.{cases_lt}
use mir.Val.{bool_byte}
use Rattle.std.proofs.lemmas.List.Sums.{sum_by-cons}
use Rattle.std.specs.Option.{option_map}
use Rattle.std.proofs.lemmas.Option.{slice_get-map, slice_get_within}
use Rattle.zt_rows.specs.declared.keys.RowKey.{RowKey}
use Rattle.zt_rows.specs.declared.rows.ObjectRow.{ObjectRow}
use Rattle.zt_rows.specs.declared.rows.Row.{Row}
use Rattle.zt_rows.specs.declared.supports.Support.{Support}
use Rattle.zt_bits.specs.declared.kinds.Kind.{Kind}
use Rattle.zt_bits.specs.declared.kinds.Kind.TheVariants as kind
use Rattle.zt_rows.specs.declared.keys.RowKey.TheVariants as key
use Rattle.zt_rows.specs.declared.rows.Row.TheVariants as rows
use Rattle.zt_rows.specs.declared.supports.Support.TheVariants as support
use Rattle.zt_rows.specs.Change.{keys}
use Rattle.zt_rows.specs.Room.{is_above, next_key}
use Rattle.zt_rows.specs.Settle.{is_child_job_of, is_child_process_of}
use Rattle.zt_rows.specs.Tests.{count_row}
use Rattle.zt_rows.specs.Reads.{object, is_job, is_process, is_live, is_live_job, is_live_process}
use Rattle.zt_rows.specs.State.{State, row}
use Rattle.zt_rows.specs.Support.{entry_support, child_support, message_supports, children, itself, root_job, supports, support_count}
use Rattle.zt_queries.specs.declared.support_list.Source.{Source}
use Rattle.zt_queries.specs.declared.support_list.Source.TheVariants as part
use Rattle.zt_queries.specs.ProofsOnly.Holders.{AddsUpTo, keys_left, rows_before, supports_at, supports_by, supports_in}
use Rattle.zt_queries.proofs.KeyLaws.{IsWalkedTo, left-drop, left-on, row-at}

-- ---- the rows under the keys are the rows

some_same : {A : Type 0} (x y : A) → Some x ≡ Some y → x ≡ y
some_same x y e = cc

pub row_of : (S : State) (i : ℕ) (e : RowKey × Row) → slice_get S.rows i ≡ Some e → row S e.0 ≡ Some e.1
row_of S i e at =
    let key : slice_get (keys S) i ≡ Some e.0 = slice_get-map (λ (q : RowKey × Row). q.0) S.rows i ∙ ap (option_map (λ (q : RowKey × Row). q.0)) at in
    let found = row-at S i e.0 key in
    found.2 ∙ ap (λ (q : RowKey × Row). Some q.1) (some_same (e.0, found.0) e (sym found.1 ∙ at))

under_keys : {A : Type 0} (f : RowKey → Option Row → List A) (S : State) (es : List (RowKey × Row))
    → ((i : ℕ) (e : RowKey × Row) → slice_get es i ≡ Some e → row S e.0 ≡ Some e.1)
    → flat_map (λ k. f k (row S k)) (map (λ e. e.0) es) ≡ flat_map (λ e. f e.0 (Some e.1)) es
under_keys f S [] h = refl
under_keys f S (e ∷ es) h =
    ap (λ o. f e.0 o ++ flat_map (λ k. f k (row S k)) (map (λ q. q.0) es)) (h 0 e refl)
    ∙ ap (λ l. f e.0 (Some e.1) ++ l) (under_keys f S es (λ i q at. h (suc i) q at))

by_keys : (which : Source) (x : ℕ) (S : State) → flat_map (λ k. supports_at which x k (row S k)) (keys S) ≡ supports_in which x S
by_keys which x S = under_keys (supports_at which x) S S.rows (row_of S)

-- ---- at most one for each row

one_more : {A : Type 0} (o : Option A) (ys : List A) → cons_option o [] ++ ys ≡ cons_option o ys
one_more None ys = refl
one_more (Some y) ys = refl

one_each : {A B : Type 0} (f : A → Option B) (xs : List A) → flat_map (λ x. filter_map f (x ∷ [])) xs ≡ filter_map f xs
one_each f [] = refl
one_each f (x ∷ xs) = ap (λ l. cons_option (f x) [] ++ l) (one_each f xs) ∙ one_more (f x) (filter_map f xs)

entries_in : (x : ℕ) (S : State) → supports_in part.Entries x S ≡ filter_map (entry_support x) S.rows
entries_in x S = one_each (entry_support x) S.rows

pub children_in : (x : ℕ) (S : State) → supports_in part.Children x S ≡ filter_map (child_support x) S.rows
children_in x S = one_each (child_support x) S.rows

-- the live children of a job, of any list of rows
pub children_among : (x : ℕ) (es : List (RowKey × Row)) → flat_map (supports_by part.Children x) es ≡ filter_map (child_support x) es
children_among x es = one_each (child_support x) es

-- ---- keys, one after another

whole_past : {A : Type 0} (xs : List A) (n : ℕ) → slice_get xs n ≡ None → take n xs ≡ xs
whole_past [] zero h = refl
whole_past [] (suc n) h = refl
whole_past (x ∷ xs) zero h = cc
whole_past (x ∷ xs) (suc n) h = ap (λ zs. x ∷ zs) (whole_past xs n h)

pub all_taken : {A : Type 0} (xs ys : List A) (next : Option A) → ys ≡ take (length ys) xs → next ≡ slice_get xs (length ys)
    → ((x : A) → next ≡ Some x → ⊥) → ys ≡ xs
all_taken xs ys None t n f = t ∙ whole_past xs (length ys) (sym n)
all_taken xs ys (Some x) t n f = absurd (f x refl)

pub longer : {A : Type 0} (ys zs : List A) (x : A) → zs ≡ ys ++ x ∷ [] → length zs ≡ suc (length ys)
longer ys zs x z = omega (arith, ap length z, length-append ys (x ∷ []))

pub less_left : {A : Type 0} (xs ys zs : List A) (x : A) → slice_get xs (length ys) ≡ Some x → zs ≡ ys ++ x ∷ [] → length xs - length zs < length xs - length ys
less_left xs ys zs x h z = omega (arith, longer ys zs x z, slice_get_within xs (length ys) x h)

-- ---- so many that all are there

is_empty : {A : Type 0} (xs : List A) → length xs ≤ 0 → xs ≡ []
is_empty [] h = refl
is_empty (x ∷ xs) h = absurd (omega (arith, h))

-- where there are no more than `most`, the old ones, the part and the rest are the new ones and the rest
settled : (old part rest new : List Support) (most : ℕ) → AddsUpTo old part most new → most ≡ length (old ++ (part ++ rest)) → new ++ rest ≡ old ++ (part ++ rest)
settled old part rest new most adds size =
    let all : new ++ (adds.left ++ rest) ≡ old ++ (part ++ rest) = sym (append_assoc new adds.left rest) ∙ ap (λ l. l ++ rest) adds.whole ∙ append_assoc old part rest in
    let lengths : length new + (length adds.left + length rest) ≡ most = omega (arith, size, ap length all, length-append new (adds.left ++ rest), length-append adds.left rest) in
    let none : adds.left ≡ [] = elim (cases_lt (length new) most) [ inl less ↦ adds.ended less | inr full ↦ is_empty adds.left (omega (arith, full, lengths)) ] in
    ap (λ l. new ++ (l ++ rest)) (sym none) ∙ all

-- ---- how many there are of each part

abbrev many : {A : Type 0} → Option A → ℕ
many (Some x) = 1
many None = 0

many_if : {A : Type 0} (b : Bool) (x : A) → many (cond b (Some x) None) ≡ cond b 1 0
many_if true x = refl
many_if false x = refl

length-cons_option : {A : Type 0} (o : Option A) (xs : List A) → length (cons_option o xs) ≡ many o + length xs
length-cons_option (Some x) xs = omega arith
length-cons_option None xs = omega arith

one_kind : (j p l : Bool) (k : Kind) → is_job k ≡ j → is_process k ≡ p → (b : Bool) → cond {A = ℕ} (((j && l) || (p && l)) && b) 1 0 ≡ cond {A = ℕ} ((j && l) && b) 1 0 + cond {A = ℕ} ((p && l) && b) 1 0
one_kind true true l kind.Job e f b = cc
one_kind true true l kind.Process e f b = cc
one_kind true true l kind.Channel e f b = cc
one_kind true true l kind.Event e f b = cc
one_kind true true l kind.EventPair e f b = cc
one_kind true true l kind.Port e f b = cc
one_kind true false true k e f true = refl
one_kind true false true k e f false = refl
one_kind true false false k e f b = refl
one_kind false true true k e f true = refl
one_kind false true true k e f false = refl
one_kind false true false k e f b = refl
one_kind false false l k e f b = refl

child-row : (x : ℕ) (k : RowKey) (r : Row) → many (child_support x (k, r)) ≡ cond {A = ℕ} (is_child_job_of x k r) 1 0 + cond {A = ℕ} (is_child_process_of x k r) 1 0
child-row x (key.Object y) (rows.Object o) =
    many_if ((is_live_job o || is_live_process o) && (o.link == x)) (support.Child y)
    ∙ one_kind (is_job o.kind) (is_process o.kind) (is_live o.life) o.kind refl refl (o.link == x)
child-row x key.Counters r = refl
child-row x (key.Packet _ _) r = refl
child-row x (key.Wait _) r = refl
child-row x (key.Entry _ _) _ = refl
child-row x (key.Msg _ _) _ = refl
child-row x (key.Object _) _ = refl

child-rows : (x : ℕ) (es : List (RowKey × Row))
    → length (filter_map (child_support x) es) ≡ count_by (λ (e : RowKey × Row). is_child_job_of x e.0 e.1) es + count_by (λ (e : RowKey × Row). is_child_process_of x e.0 e.1) es
child-rows x [] = refl
child-rows x (e ∷ es) =
    omega (
      arith,
      child-rows x es,
      child-row x e.0 e.1,
      length-cons_option (child_support x e) (filter_map (child_support x) es),
      sum_by-cons (λ (q : RowKey × Row). cond {A = ℕ} (is_child_job_of x q.0 q.1) 1 0) e es,
      sum_by-cons (λ (q : RowKey × Row). cond {A = ℕ} (is_child_process_of x q.0 q.1) 1 0) e es,
    )

-- the live children of a live job are its child jobs and its child processes
pub tasks_counted : (x : ℕ) (S : State) (o : ObjectRow) → is_live_job o ≡ true → count_row (is_child_job_of x) S + count_row (is_child_process_of x) S ≡ length (children (Some o) x S.rows)
unfolding count_row
tasks_counted x S o live = sym (child-rows x S.rows) ∙ ap (λ b. length (cond b (filter_map (child_support x) S.rows) [])) (sym live)

pub no_tasks : (x : ℕ) (S : State) (o : ObjectRow) → is_live_job o ≡ false → 0 ≡ length (children (Some o) x S.rows)
no_tasks x S o ended = ap (λ b. length (cond b (filter_map (child_support x) S.rows) [])) (sym ended)

own_one : (b : Bool) → length (cond b (support.Itself ∷ []) []) ≡ bool_byte b
own_one true = refl
own_one false = refl

-- ---- the walk over the keys

-- what the keys from the next one on give stands behind what is there
abbrev pub given_by : Source → ℕ → State → List RowKey → List Support
given_by which x S ks = flat_map (λ k. supports_at which x k (row S k)) ks

-- before the rows that may give supports of a kind no row gives one
none_before : (which : Source) (x : ℕ) (k : RowKey) (r : Row) → is_above (rows_before which) k ≡ false → supports_by which x (k, r) ≡ []
none_before part.Entries x (key.Entry p h) r low = cc
none_before part.Entries x key.Counters r low = refl
none_before part.Entries x (key.Object _) r low = refl
none_before part.Entries x (key.Msg _ _) r low = refl
none_before part.Entries x (key.Packet _ _) r low = refl
none_before part.Entries x (key.Wait _) r low = refl
none_before part.Messages x (key.Msg e n) r low = cc
none_before part.Messages x key.Counters r low = refl
none_before part.Messages x (key.Object _) r low = refl
none_before part.Messages x (key.Entry _ _) r low = refl
none_before part.Messages x (key.Packet _ _) r low = refl
none_before part.Messages x (key.Wait _) r low = refl
none_before part.Children x k r low = cc

none_there : (which : Source) (x : ℕ) (k : RowKey) (o : Option Row) → is_above (rows_before which) k ≡ false → supports_at which x k o ≡ []
none_there which x k (Some r) low = none_before which x k r low
none_there which x k None low = refl

-- the first that is as asked stands at a place, and where what is not gives nothing, all comes from that place on
abbrev FirstAt : {A B : Type 0} → (A → Bool) → (A → List B) → List A → Type 0
FirstAt p f xs = (n : ℕ) × (find p xs ≡ slice_get xs n) × (flat_map f (drop n xs) ≡ flat_map f xs)

first_beside : {A B : Type 0} (p : A → Bool) (f : A → List B) (x : A) (xs : List A) (b : Bool) → p x ≡ b → (p x ≡ false → f x ≡ []) → FirstAt p f xs → FirstAt p f (x ∷ xs)
first_beside p f x xs true is none at = (0, ap (λ b. cond b (Some x) (find p xs)) is, refl)
first_beside p f x xs false is none at =
    (suc at.0, ap (λ b. cond b (Some x) (find p xs)) is ∙ at.1, at.2 ∙ sym (ap (λ l. l ++ flat_map f xs) (none is)))

first_at : {A B : Type 0} (p : A → Bool) (f : A → List B) (xs : List A) → ((x : A) → p x ≡ false → f x ≡ []) → FirstAt p f xs
first_at p f [] none = (0, refl, refl)
first_at p f (x ∷ xs) none = first_beside p f x xs (p x) refl (none x) (first_at p f xs none)

first_given : (which : Source) (x : ℕ) (S : State) → FirstAt (is_above (rows_before which)) (λ k. supports_at which x k (row S k)) (keys S)
first_given which x S = first_at (is_above (rows_before which)) (λ k. supports_at which x k (row S k)) (keys S) (λ k low. none_there which x k (row S k) low)

pub walk-first : (which : Source) (x : ℕ) (S : State) (next : Option RowKey) → next ≡ next_key S (rows_before which) → IsWalkedTo S next
walk-first which x S next h = let at = first_given which x S in (at.0, h ∙ at.1)

pub walk-begins : (which : Source) (x : ℕ) (S : State) (ys : List Support) (next : Option RowKey) → next ≡ next_key S (rows_before which) → ys ++ given_by which x S (keys_left S next) ≡ ys ++ supports_in which x S
walk-begins which x S ys next h =
    let at = first_given which x S in
    ap (λ ks. ys ++ given_by which x S ks) (left-drop S at.0 next (h ∙ at.1)) ∙ ap (λ l. ys ++ l) (at.2 ∙ by_keys which x S)

pub walk-goes : (which : Source) (x : ℕ) (S : State) (ys zs whole : List Support) (now next : Option RowKey) (k : RowKey) → now ≡ Some k → IsWalkedTo S now → next ≡ next_key S (Some k)
    → zs ≡ ys ++ supports_at which x k (row S k) → ys ++ given_by which x S (keys_left S now) ≡ whole → zs ++ given_by which x S (keys_left S next) ≡ whole
walk-goes which x S ys zs whole now next k is w h z so_far =
    ap (λ l. l ++ given_by which x S (keys_left S next)) z
    ∙ append_assoc ys (supports_at which x k (row S k)) (given_by which x S (keys_left S next))
    ∙ ap (λ ks. ys ++ given_by which x S ks) (sym (left-on S k next (subst (IsWalkedTo S) is w) h))
    ∙ ap (λ o. ys ++ given_by which x S (keys_left S o)) (sym is)
    ∙ so_far

pub walk-stops : (which : Source) (x : ℕ) (S : State) (ys zs : List Support) (next : Option RowKey) (most : ℕ) → zs ++ given_by which x S (keys_left S next) ≡ ys ++ supports_in which x S
    → most ≤ length zs → AddsUpTo ys (supports_in which x S) most zs
walk-stops which x S ys zs next most so_far full = record {
  left = given_by which x S (keys_left S next);
  whole = so_far;
  ended = λ less. absurd (omega (arith, full, less));
}

pub walk-ends : (which : Source) (x : ℕ) (S : State) (ys zs : List Support) (next : Option RowKey) (most : ℕ) → zs ++ given_by which x S (keys_left S next) ≡ ys ++ supports_in which x S
    → ((k : RowKey) → next ≡ Some k → ⊥) → AddsUpTo ys (supports_in which x S) most zs
walk-ends which x S ys zs None most so_far none = record { left = []; whole = so_far; ended = λ less. refl }
walk-ends which x S ys zs (Some k) most so_far none = absurd (none k refl)

pub fewer_keys : (S : State) (now next : Option RowKey) (k : RowKey) → now ≡ Some k → IsWalkedTo S now → next ≡ next_key S (Some k) → length (keys_left S next) < length (keys_left S now)
fewer_keys S now next k is w h =
    omega (arith, ap length (left-on S k next (subst (IsWalkedTo S) is w) h), ap (λ o. length (keys_left S o)) is)

-- ---- all parts together

pub nothing_below : (x : ℕ) (S : State) (o : ObjectRow) (ys : List Support) (most : ℕ) → is_live_job o ≡ false → AddsUpTo ys (children (Some o) x S.rows) most ys
nothing_below x S o ys most ended = record {
  left = [];
  whole = ap (λ b. ys ++ cond b (filter_map (child_support x) S.rows) []) (sym ended);
  ended = λ less. refl;
}

pub children_below : (x : ℕ) (S : State) (o : ObjectRow) (ys zs : List Support) (most : ℕ) → is_live_job o ≡ true → AddsUpTo ys (supports_in part.Children x S) most zs
    → AddsUpTo ys (children (Some o) x S.rows) most zs
children_below x S o ys zs most live adds = record {
  left = adds.left;
  whole = adds.whole ∙ ap (λ l. ys ++ l) (children_in x S ∙ ap (λ b. cond b (filter_map (child_support x) S.rows) []) (sym live));
  ended = adds.ended;
}

pub all_parts : (x : ℕ) (S : State) (o : ObjectRow) (a b c d e : List Support) (count own others named : ℕ) → object S x ≡ Some o → a ≡ []
    → count ≡ support_count S x → own ≡ bool_byte (is_live_process o || (x == root_job)) → others ≡ count - own → named ≡ others - length (children (Some o) x S.rows)
    → AddsUpTo a (supports_in part.Entries x S) named b → AddsUpTo b (supports_in part.Messages x S) named c
    → AddsUpTo c (children (Some o) x S.rows) others d → e ≡ d ++ itself (Some o) x → e ≡ supports S x
unfolding supports support_count
all_parts x S o a b c d e count own others named there at_first is_count is_own is_others is_named entries messages below self =
    let E = filter_map (entry_support x) S.rows in
    let M = flat_map (message_supports x) S.rows in
    let C = children (Some o) x S.rows in
    let I = itself (Some o) x in
    let whole : ((E ++ M) ++ C) ++ I ≡ supports S x = ap (λ (q : Option ObjectRow). ((E ++ M) ++ children q x S.rows) ++ itself q x) (sym there) in
    let sizes : count ≡ length E + length M + length C + length I = omega (arith, is_count, ap length whole, length-append ((E ++ M) ++ C) I, length-append (E ++ M) C, length-append E M) in
    let one : length I ≡ own = own_one (is_live_process o || (x == root_job)) ∙ sym is_own in
    let first : b ++ M ≡ E ++ M = settled [] E M b named (subst₂ (λ l m. AddsUpTo l m named b) at_first (entries_in x S) entries) (omega (arith, sizes, one, is_others, is_named, length-append E M)) in
    let second : c ++ [] ≡ b ++ (M ++ []) = settled b M [] c named messages (omega (arith, sizes, one, is_others, is_named, ap length first, length-append E M, length-append b M, length-append b (M ++ []), length-append M [])) in
    let named_all : c ≡ E ++ M = sym (append-nil c) ∙ second ∙ ap (λ l. b ++ l) (append-nil M) ∙ first in
    let third : d ++ [] ≡ c ++ (C ++ []) = settled c C [] d others below (omega (arith, sizes, one, is_others, ap length named_all, length-append E M, length-append c (C ++ []), length-append C [])) in
    self
    ∙ ap (λ l. l ++ I) (sym (append-nil d) ∙ third ∙ ap (λ l. c ++ l) (append-nil C) ∙ ap (λ l. l ++ C) named_all)
    ∙ whole

-- supports gathered from all rows part by part (entries, messages, children, the object itself) are the supports of x in S
pub parts_listed : (x : ℕ) (S : State) (o : ObjectRow) (es : List (RowKey × Row)) (a b c d e : List Support) → object S x ≡ Some o → es ≡ S.rows → a ≡ []
    → b ≡ a ++ flat_map (supports_by part.Entries x) es → c ≡ b ++ flat_map (supports_by part.Messages x) es
    → d ≡ c ++ children (Some o) x es → e ≡ d ++ itself (Some o) x → e ≡ supports S x
unfolding supports
parts_listed x S o es a b c d e there are at_first entries messages below self =
    let E = filter_map (entry_support x) S.rows in
    let M = flat_map (message_supports x) S.rows in
    let C = children (Some o) x S.rows in
    let first : b ≡ E = entries ∙ ap (λ l. l ++ flat_map (supports_by part.Entries x) es) at_first ∙ ap (flat_map (supports_by part.Entries x)) are ∙ entries_in x S in
    let second : c ≡ E ++ M = messages ∙ ap (λ l. l ++ flat_map (supports_by part.Messages x) es) first ∙ ap (λ l. E ++ flat_map (supports_by part.Messages x) l) are in
    let third : d ≡ (E ++ M) ++ C = below ∙ ap (λ l. l ++ children (Some o) x es) second ∙ ap (λ l. (E ++ M) ++ children (Some o) x l) are in
    self
    ∙ ap (λ l. l ++ itself (Some o) x) third
    ∙ ap (λ (q : Option ObjectRow). ((E ++ M) ++ children q x S.rows) ++ itself q x) (sym there)
