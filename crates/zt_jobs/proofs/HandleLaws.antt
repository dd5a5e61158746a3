-- What the entries of processes hold, in order: taken one after another from the front, and process after process.
use Rattle.std.proofs.Common.{◌≡◌, ◌<◌, ◌≤◌, ℕ, Bool, true, false, not, cond, ◌&&◌, ◌||◌, T, List, [], ◌∷◌, ◌++◌, inl, inr, refl, sym, ap, ◌∙◌, subst, arith, option_and_then, append_assoc}
use Rattle.std.specs.Prelude.{Option, None, Some, ◌==◌, nat_lt, if◌then◌else◌, option_to_list}
use Rattle.std.specs.List.{filter_map, cons_option}
use Rattle.std.specs.FinMap.Entries as entries
use Rattle.std.specs.Ordering.{eq_by_cmp, is_lt, nat_cmp, ordering_then}
use Rattle.std.specs.Cmp.{tied_itself}
use Rattle.std.proofs.lemmas.Bool.{eqb-true, eq-eqb}
use Rattle.std.proofs.lemmas.Bool.Decides.{nat_tests}
use Rattle.zt_rows.specs.declared.keys.RowKey.{RowKey}
use Rattle.zt_rows.specs.declared.keys.RowKey.TheVariants as key
use Rattle.zt_rows.specs.declared.rows.Held.{Held}
use Rattle.zt_rows.specs.declared.rows.Life.{Life}
use Rattle.zt_rows.specs.declared.rows.Row.{Row}
use Rattle.zt_rows.specs.declared.rows.Row.TheVariants as rows
use Rattle.zt_rows.specs.Keys.{rowkey_cmp, rowkey_eq}
use Rattle.zt_rows.specs.ProofsOnly.KeyOrder.{rowkey_cmp_total, rowkey_eq-cmp, rowkey_eq-self, rowkey_eq-equal}
use Rattle.zt_rows.specs.RowOrder.{changed_rows, kept}
use Rattle.zt_rows.specs.State.{State, row, put, change}
use Rattle.zt_rows.specs.Reads.{as_entry, entry}
use Rattle.zt_rows.proofs.ReadLaws.{entry-row}
use Rattle.zt_rows.proofs.RowLaws.{In, in-row, true≢false, not_true}
use Rattle.zt_rows.proofs.StateLaws.{row-change}
use Rattle.zt_store.specs.KoidSets.{only}
use Rattle.zt_jobs.specs.EndedTasks.{held_at, handles_of}
use Rattle.zt_jobs.specs.ProofsOnly.EndedTasks.{left_behind, with_end, without_tables}
use Rattle.zt_jobs.proofs.PartLaws.{EntriesSeen, entry-none, entry-some}

-- ---- lists of rows

left_of : (a b : Bool) → T (a && b) → T a
left_of true b h = tt
left_of false b h = h

right_of : (a b : Bool) → T (a && b) → T b
right_of true b h = h
right_of false b h = absurd h

it_holds : (b : Bool) → T b → b ≡ true
it_holds true h = refl
it_holds false h = absurd h

abbrev find_row : RowKey → List (RowKey × Row) → Option Row
find_row k es = entries.find rowkey_cmp k es

-- a row found behind a key stands under a greater one
found-above : (x k : RowKey) (r : Row) (es : List (RowKey × Row)) → T (entries.below_all rowkey_cmp x es) → find_row k es ≡ Some r → is_lt (rowkey_cmp x k) ≡ true
found-above x k r [] below h = cc
found-above x k r (e ∷ es) below h =
    elim (eq_by_cmp rowkey_cmp k e.0) as (λ b. eq_by_cmp rowkey_cmp k e.0 ≡ b → cond b (Some e.1) (find_row k es) ≡ Some r → is_lt (rowkey_cmp x k) ≡ true) [
      | true ↦ λ t _. subst (λ z. is_lt (rowkey_cmp x z) ≡ true) (sym (rowkey_eq-equal k e.0 (sym (rowkey_eq-cmp k e.0) ∙ t))) (it_holds _ (left_of _ _ below))
      | false ↦ λ _ s. found-above x k r es (right_of _ _ below) s
    ] refl h

-- a row in a list behind a key stands under a greater one
in-above : (x : RowKey) (e : RowKey × Row) (es : List (RowKey × Row)) → T (entries.below_all rowkey_cmp x es) → In e es → is_lt (rowkey_cmp x e.0) ≡ true
in-above x e [] below m = absurd m
in-above x e (d ∷ ds) below (inl same) = subst (λ (z : RowKey × Row). is_lt (rowkey_cmp x z.0) ≡ true) (sym same) (it_holds _ (left_of _ _ below))
in-above x e (d ∷ ds) below (inr m) = in-above x e ds (right_of _ _ below) m

not_tied : (q k : RowKey) → is_lt (rowkey_cmp k q) ≡ true → rowkey_eq q k ≡ false
not_tied q k below = not_true (rowkey_eq q k) (λ t.
    true≢false (is_lt (rowkey_cmp k k)) (ap (λ z. is_lt (rowkey_cmp k z)) (sym (rowkey_eq-equal q k t)) ∙ below) (ap is_lt (tied_itself rowkey_cmp_total k)))

found-none : {B : Type 0} (f : RowKey × Row → Option B) (es : List (RowKey × Row)) → ((e : RowKey × Row) → In e es → f e ≡ None) → filter_map f es ≡ []
found-none f [] none = refl
found-none f (e ∷ es) none = ap (λ o. cons_option o (filter_map f es)) (none e (inl refl)) ∙ found-none f es (λ d m. none d (inr m))

module _ {B : Type 0} (f : RowKey × Row → Option B) (k : RowKey) (r : Row) (found : B) (is : f (k, r) ≡ Some found) where
  abbrev rest : List (RowKey × Row) → List (RowKey × Row)
  rest es = entries.where_key rowkey_cmp (λ q. not (rowkey_eq q k)) es

  all-stay : (es : List (RowKey × Row)) → T (entries.below_all rowkey_cmp k es) → rest es ≡ es
  all-stay [] below = refl
  all-stay (e ∷ es) below =
      ap (λ b. cond (not b) (e ∷ rest es) (rest es)) (not_tied e.0 k (it_holds _ (left_of _ _ below)))
      ∙ ap (λ l. e ∷ l) (all-stay es (right_of _ _ below))

  at-front : (es : List (RowKey × Row)) → T (entries.below_all rowkey_cmp k es) → filter_map f ((k, r) ∷ es) ≡ found ∷ filter_map f (rest ((k, r) ∷ es))
  at-front es below =
      ap (λ o. cons_option o (filter_map f es)) is
      ∙ ap (λ l. found ∷ filter_map f l) (sym (ap (λ b. cond (not b) ((k, r) ∷ rest es) (rest es)) (rowkey_eq-self k) ∙ all-stay es below))

  -- a row that is found with none before it is the first
  first-found : (es : List (RowKey × Row)) → T (entries.is_sorted rowkey_cmp es) → find_row k es ≡ Some r → ((e : RowKey × Row) → In e es → is_lt (rowkey_cmp e.0 k) ≡ true → f e ≡ None) → filter_map f es ≡ found ∷ filter_map f (rest es)
  first-found [] sorted h none = cc
  first-found (e ∷ es) sorted h none =
      elim (eq_by_cmp rowkey_cmp k e.0) as (λ b. eq_by_cmp rowkey_cmp k e.0 ≡ b → cond b (Some e.1) (find_row k es) ≡ Some r → filter_map f (e ∷ es) ≡ found ∷ filter_map f (rest (e ∷ es))) [
        | true ↦ λ t s.
            let at : k ≡ e.0 = rowkey_eq-equal k e.0 (sym (rowkey_eq-cmp k e.0) ∙ t) in
            let value : r ≡ e.1 = cc in
            let pair : ◌≡◌ {A = RowKey × Row} (k, r) e = λ i. (at i, value i) in
            subst (λ (z : RowKey × Row). filter_map f (z ∷ es) ≡ found ∷ filter_map f (rest (z ∷ es))) pair
            (at-front es (subst (λ z. T (entries.below_all rowkey_cmp z es)) (sym at) (left_of _ _ sorted)))
        | false ↦ λ t s.
            let below : is_lt (rowkey_cmp e.0 k) ≡ true = found-above e.0 k r es (left_of _ _ sorted) s in
            let no : f e ≡ None = none e (inl refl) below in
            let apart : rowkey_eq e.0 k ≡ false = not_true (rowkey_eq e.0 k) (λ u.
            true≢false (is_lt (rowkey_cmp k k)) (ap (λ z. is_lt (rowkey_cmp z k)) (sym (rowkey_eq-equal e.0 k u)) ∙ below) (ap is_lt (tied_itself rowkey_cmp_total k))) in
            let later : filter_map f es ≡ found ∷ filter_map f (rest es) = first-found es (right_of _ _ sorted) s (λ d m. none d (inr m)) in
            ap (λ o. cons_option o (filter_map f es)) no
            ∙ later
            ∙ ap (λ l. found ∷ l) (sym
            (ap (λ b. filter_map f (cond (not b) (e ∷ rest es) (rest es))) apart ∙ ap (λ o. cons_option o (filter_map f (rest es))) no))
      ] refl h

-- the rows that f finds are all that counts
changed-found : {B : Type 0} (g : RowKey → Row → Option Row) (f : RowKey × Row → Option B) → ((k : RowKey) (r : Row) → option_and_then (λ s. f (k, s)) (g k r) ≡ f (k, r)) → (es : List (RowKey × Row)) → filter_map f (changed_rows g es) ≡ filter_map f es
changed-found g f same [] = refl
changed-found g f same (e ∷ es) =
    one e.0 (g e.0 e.1) (changed_rows g es)
    ∙ ap (λ o. cons_option o (filter_map f (changed_rows g es))) (same e.0 e.1)
    ∙ ap (cons_option (f e)) (changed-found g f same es)
  where
    one : (k : RowKey) (s : Option Row) (l : List (RowKey × Row)) → filter_map f (kept k s l) ≡ cons_option (option_and_then (λ r. f (k, r)) s) (filter_map f l)
    one k (Some r) l = refl
    one k None l = refl

cons-append : {B : Type 0} (o : Option B) (xs ys : List B) → cons_option o xs ++ ys ≡ cons_option o (xs ++ ys)
cons-append (Some x) xs ys = refl
cons-append None xs ys = refl

-- what a finds stands before what b finds
split-found : {B : Type 0} (f a b : RowKey × Row → Option B) → ((e : RowKey × Row) → b e ≡ None → f e ≡ a e) → ((e : RowKey × Row) (v : B) → b e ≡ Some v → (f e ≡ Some v) × (a e ≡ None)) → ((e d : RowKey × Row) (v : B) → b e ≡ Some v → is_lt (rowkey_cmp e.0 d.0) ≡ true → (a d ≡ None) × (f d ≡ b d)) → (es : List (RowKey × Row)) → T (entries.is_sorted rowkey_cmp es) → filter_map f es ≡ filter_map a es ++ filter_map b es
split-found f a b none some later [] sorted = refl
split-found f a b none some later (e ∷ es) sorted =
    elim (b e) as (λ o. b e ≡ o → filter_map f (e ∷ es) ≡ filter_map a (e ∷ es) ++ cons_option o (filter_map b es)) [
      | None ↦ λ t.
          ap (λ o. cons_option o (filter_map f es)) (none e t)
          ∙ ap (cons_option (a e)) (split-found f a b none some later es (right_of _ _ sorted))
          ∙ sym (cons-append (a e) (filter_map a es) (filter_map b es))
      | Some v ↦ λ t.
          let w = some e v t in
          let rest : (d : RowKey × Row) → In d es → (a d ≡ None) × (f d ≡ b d) = λ d m. later e d v t (in-above e.0 d es (left_of _ _ sorted) m) in
          ap (λ o. cons_option o (filter_map f es)) w.0
          ∙ ap (λ l. v ∷ l) (alike f b es (λ d m. (rest d m).1))
          ∙ sym (ap (λ l. l ++ v ∷ filter_map b es) (ap (λ o. cons_option o (filter_map a es)) w.1 ∙ found-none a es (λ d m. (rest d m).0)))
    ] refl
  where
    alike : {B : Type 0} (f g : RowKey × Row → Option B) (es : List (RowKey × Row)) → ((e : RowKey × Row) → In e es → f e ≡ g e) → filter_map f es ≡ filter_map g es
    alike f g [] same = refl
    alike f g (e ∷ es) same =
        ap (λ o. cons_option o (filter_map f es)) (same e (inl refl)) ∙ ap (cons_option (g e)) (alike f g es (λ d m. same d (inr m)))

-- ---- one process

if_some : {A : Type 0} (b : Bool) (v w : A) → (if b then Some v else None) ≡ Some w → (b ≡ true) × (v ≡ w)
if_some true v w e = (refl, cc)
if_some false v w e = cc

lower_value : (p h v : ℕ) → is_lt (ordering_then (nat_cmp p p) (nat_cmp h v)) ≡ true → h < v
lower_value p h v below = grind (arith, nat_tests)

-- an entry with none before it is the first
pub handles-first : (S : State) (p v : ℕ) (held : Held) → entry S p v ≡ Some held → ((g : ℕ) → g < v → entry S p g ≡ None) → handles_of S (only p) ≡ held ∷ handles_of (put S (key.Entry p v) None) (only p)
unfolding handles_of put row
handles-first S p v held there none =
    first-found (held_at (only p)) (key.Entry p v) (rows.Entry held) held (ap (λ b. if b then Some held else None) (eq-eqb p p refl))
    S.rows S.sorted (entry-row S p v held there) before
  where
    gone : (q h : ℕ) (other : Held) (b : Bool) → (q == p) ≡ b → row S (key.Entry q h) ≡ Some (rows.Entry other) → is_lt (rowkey_cmp (key.Entry q h) (key.Entry p v)) ≡ true → (if b then Some other else None) ≡ None
    gone q h other false e at below = refl
    gone q h other true e at below =
        let same : p ≡ q = sym (eqb-true q p e) in
        let lower : h < v = lower_value p h v (subst (λ z. is_lt (rowkey_cmp (key.Entry z h) (key.Entry p v)) ≡ true) (sym same) below) in
        let here : entry S p h ≡ Some other = ap (λ z. entry S z h) same ∙ ap as_entry at in
        let nothing : entry S p h ≡ None = none h lower in
        cc

    before : (e : RowKey × Row) → In e S.rows → is_lt (rowkey_cmp e.0 (key.Entry p v)) ≡ true → held_at (only p) e ≡ None
    before (key.Entry q h, rows.Entry other) m below = gone q h other (q == p) refl (in-row S (key.Entry q h) (rows.Entry other) m) below
    before _ m below = refl

-- a seen entry is gone
pub seen-gone : (S C : State) (p v : ℕ) → EntriesSeen S p C v → (g : ℕ) → g < v → entry C p g ≡ None
seen-gone S C p v seen g lower =
    ap as_entry (seen (key.Entry p g) ∙ ap (λ b. cond b (option_and_then (without_tables (only p) (key.Entry p g)) (row S (key.Entry p g))) (row S (key.Entry p g))) (both (p == p) (nat_lt g v) (eq-eqb p p refl) (lt_true g v lower)))
    ∙ left (row S (key.Entry p g))
  where
    lt_true : (a b : ℕ) → a < b → nat_lt a b ≡ true
    lt_true a b h = grind (arith, nat_tests)

    both : (a b : Bool) → a ≡ true → b ≡ true → (a && b) ≡ true
    both true b e f = f
    both false b e f = cc

    left : (r : Option Row) → as_entry (option_and_then (without_tables (only p) (key.Entry p g)) r) ≡ None
    left (Some (rows.Entry held)) = ap (λ b. as_entry (if b then None else Some (rows.Entry held))) (eq-eqb p p refl)
    left (Some r) = refl
    left None = refl

-- what one entry holds, and what those behind it hold
pub handles-step : (S C : State) (p v : ℕ) → EntriesSeen S p C v → (taken more : List Held) → more ≡ taken ++ option_to_list (entry C p v) → more ++ handles_of (left_behind (without_tables (only p)) C (key.Entry p v)) (only p) ≡ taken ++ handles_of C (only p)
handles-step S C p v seen taken more is =
    elim (entry C p v) as (λ o. entry C p v ≡ o → more ≡ taken ++ option_to_list o → more ++ handles_of (left_behind (without_tables (only p)) C (key.Entry p v)) (only p) ≡ taken ++ handles_of C (only p)) [
      | None ↦ λ e m.
          ap (λ s. more ++ handles_of s (only p)) (sym (entry-none C p v e))
          ∙ ap (λ l. l ++ handles_of C (only p)) m
          ∙ append_assoc taken [] (handles_of C (only p))
      | Some held ↦ λ e m.
          ap (λ s. more ++ handles_of s (only p)) (sym (entry-some C p v held e))
          ∙ ap (λ l. l ++ handles_of (put C (key.Entry p v) None) (only p)) m
          ∙ append_assoc taken (held ∷ []) (handles_of (put C (key.Entry p v) None) (only p))
          ∙ ap (λ l. taken ++ l) (sym (handles-first C p v held e (seen-gone S C p v seen)))
    ] refl is

-- a process without entries has no handles
pub handles-none : (S : State) (p : ℕ) → handles_of (change (without_tables (only p)) S) (only p) ≡ []
unfolding handles_of
handles-none S p = found-none (held_at (only p)) (change (without_tables (only p)) S).rows none
  where
    gone : (q h : ℕ) (held : Held) (r : Option Row) (b : Bool) → (q == p) ≡ b → option_and_then (without_tables (only p) (key.Entry q h)) r ≡ Some (rows.Entry held) → (if b then Some held else None) ≡ None
    gone q h held r false e at = refl
    gone q h held (Some (rows.Entry other)) true e at = let none : (if q == p then None else Some (rows.Entry other)) ≡ None = ap (λ b. if b then None else Some (rows.Entry other)) e in cc
    gone q h held (Some r) true e at = cc
    gone q h held None true e at = cc

    none : (e : RowKey × Row) → In e (change (without_tables (only p)) S).rows → held_at (only p) e ≡ None
    none (key.Entry q h, rows.Entry held) m =
        gone q h held (row S (key.Entry q h)) (q == p) refl
        (sym (row-change (without_tables (only p)) S (key.Entry q h)) ∙ in-row (change (without_tables (only p)) S) (key.Entry q h) (rows.Entry held) m)
    none _ m = refl

append-nil : {A : Type 0} (xs : List A) → xs ++ [] ≡ xs
append-nil [] = refl
append-nil (x ∷ xs) = ap (λ l. x ∷ l) (append-nil xs)

-- once a process has no entries, all that they held was taken
pub handles-end : (S C : State) (p : ℕ) → C ≡ change (without_tables (only p)) S → (taken whole : List Held) → taken ++ handles_of C (only p) ≡ whole → taken ≡ whole
handles-end S C p left taken whole is =
    sym (append-nil taken) ∙ ap (λ l. taken ++ l) (sym (ap (λ s. handles_of s (only p)) left ∙ handles-none S p)) ∙ is

-- ---- one process after another

-- other tables do not matter
pub handles-left : (S : State) (before : ℕ → Bool) (p : ℕ) → before p ≡ false → handles_of (change (without_tables before) S) (only p) ≡ handles_of S (only p)
unfolding handles_of change
handles-left S before p stays = changed-found (without_tables before) (held_at (only p)) same S.rows
  where
    of : (q h : ℕ) (held : Held) (b c : Bool) → before q ≡ b → (q == p) ≡ c → option_and_then (λ s. held_at (only p) (key.Entry q h, s)) (if b then None else Some (rows.Entry held)) ≡ (if c then Some held else None)
    of q h held false c e d = ap (λ b. if b then Some held else None) d
    of q h held true false e d = refl
    of q h held true true e d = let no : before q ≡ false = ap before (eqb-true q p d) ∙ stays in cc

    same : (k : RowKey) (r : Row) → option_and_then (λ s. held_at (only p) (k, s)) (without_tables before k r) ≡ held_at (only p) (k, r)
    same (key.Entry q h) (rows.Entry held) = of q h held (before q) (q == p) refl refl
    same _ r = refl

-- what one more process held stands behind what those with smaller koids held
pub handles-more : (S : State) (before after : ℕ → Bool) (p : ℕ) → ((y : ℕ) → after y ≡ (before y || only p y)) → ((y : ℕ) → before y ≡ true → y < p) → handles_of S after ≡ handles_of S before ++ handles_of S (only p)
unfolding handles_of
handles-more S before after p is lower = split-found (held_at after) (held_at before) (held_at (only p)) none some later S.rows S.sorted
  where
    or-false : (b : Bool) → (b || false) ≡ b
    or-false true = refl
    or-false false = refl

    -- a process that is not the one more
    other : (q : ℕ) → (q == p) ≡ false → after q ≡ before q
    other q e = is q ∙ ap (λ c. before q || c) e ∙ or-false (before q)

    -- a process that is not among those before
    only-one : (q : ℕ) → before q ≡ false → after q ≡ only p q
    only-one q e = is q ∙ ap (λ c. c || only p q) e

    not-before : (q : ℕ) → p ≤ q → before q ≡ false
    not-before q le = not_true (before q) (λ t. let l : q < p = lower q t in absurd (omega arith))

    none-of : (q : ℕ) (held : Held) (b : Bool) → (q == p) ≡ b → (if b then Some held else None) ≡ None → (if after q then Some held else None) ≡ (if before q then Some held else None)
    none-of q held true e t = cc
    none-of q held false e t = ap (λ b. if b then Some held else None) (other q e)

    none : (e : RowKey × Row) → held_at (only p) e ≡ None → held_at after e ≡ held_at before e
    none (key.Entry q h, rows.Entry held) t = none-of q held (q == p) refl t
    none _ t = refl

    some-of : (q : ℕ) (held v : Held) (b : Bool) → (q == p) ≡ b → (if b then Some held else None) ≡ Some v → ((if after q then Some held else None) ≡ Some v) × ((if before q then Some held else None) ≡ None)
    some-of q held v true e t =
        let same : p ≡ q = sym (eqb-true q p e) in
        let no : before q ≡ false = not-before q (omega arith) in
        (ap (λ b. if b then Some held else None) (only-one q no ∙ e) ∙ t, ap (λ b. if b then Some held else None) no)
    some-of q held v false e t = cc

    some : (e : RowKey × Row) (v : Held) → held_at (only p) e ≡ Some v → (held_at after e ≡ Some v) × (held_at before e ≡ None)
    some (key.Entry q h, rows.Entry held) v t = some-of q held v (q == p) refl t
    some _ v t = cc

    owners : (q x h g : ℕ) → is_lt (ordering_then (nat_cmp q x) (nat_cmp h g)) ≡ true → q ≤ x
    owners q x h g above = grind (arith, nat_tests)

    behind : (q h : ℕ) → p ≡ q → (d : RowKey × Row) → is_lt (rowkey_cmp (key.Entry q h) d.0) ≡ true → (held_at before d ≡ None) × (held_at after d ≡ held_at (only p) d)
    behind q h same (key.Entry x g, rows.Entry other) above =
        let le : q ≤ x = owners q x h g above in
        let no : before x ≡ false = not-before x (omega arith) in
        (ap (λ b. if b then Some other else None) no, ap (λ b. if b then Some other else None) (only-one x no))
    behind q h same _ above = (refl, refl)

    later-of : (q h : ℕ) (held v : Held) (b : Bool) → (q == p) ≡ b → (if b then Some held else None) ≡ Some v → (d : RowKey × Row) → is_lt (rowkey_cmp (key.Entry q h) d.0) ≡ true → (held_at before d ≡ None) × (held_at after d ≡ held_at (only p) d)
    later-of q h held v true e t d above = behind q h (sym (eqb-true q p e)) d above
    later-of q h held v false e t d above = cc

    later : (e d : RowKey × Row) (v : Held) → held_at (only p) e ≡ Some v → is_lt (rowkey_cmp e.0 d.0) ≡ true → (held_at before d ≡ None) × (held_at after d ≡ held_at (only p) d)
    later (key.Entry q h, rows.Entry held) d v t above = later-of q h held v (q == p) refl t d above
    later _ d v t above = cc

pub handles-nothing : (S : State) (before : ℕ → Bool) → ((y : ℕ) → before y ≡ false) → handles_of S before ≡ []
unfolding handles_of
handles-nothing S before empty = found-none (held_at before) S.rows (λ e m. none e)
  where
    none : (e : RowKey × Row) → held_at before e ≡ None
    none (key.Entry q h, rows.Entry held) = ap (λ b. if b then Some held else None) (empty q)
    none _ = refl

-- what has ended held what it held
pub handles-ended : (S : State) (ending before : ℕ → Bool) (how : Life) → handles_of (change (with_end ending how) S) before ≡ handles_of S before
unfolding handles_of change
handles-ended S ending before how = changed-found (with_end ending how) (held_at before) same S.rows
  where
    same : (k : RowKey) (r : Row) → option_and_then (λ s. held_at before (k, s)) (with_end ending how k r) ≡ held_at before (k, r)
    same (key.Object x) (rows.Object o) = refl
    same _ r = refl

-- two tests that agree on every koid pick the same handles
pub handles-alike : (S : State) (a b : ℕ → Bool) → ((x : ℕ) → a x ≡ b x) → handles_of S a ≡ handles_of S b
handles-alike S a b same = ap (handles_of S) (λ i x. same x i)
