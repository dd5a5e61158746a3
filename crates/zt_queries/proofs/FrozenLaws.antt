-- What a list of rows says: of the state that it is the rows of, of the object of a koid, and of what its rows give.
use Rattle.std.proofs.Common.{◌≡◌, ℕ, zero, suc, ◌+◌, ◌<◌, ◌≤◌, true, false, cond, List, [], ◌∷◌, ◌++◌, map, length, take, drop, get_or, Option, Some, None, refl, sym, ap, ◌∙◌, subst, arith, append_assoc, append-nil}
use Rattle.std.specs.List.{slice_get, flat_map}
use Rattle.std.specs.Prelude.{if◌then◌else◌}
use Rattle.std.proofs.lemmas.List.{length-map, map-append, take_more, drop_more}
use Rattle.std.specs.FinMap.Entries as entries
use Rattle.zt_rows.specs.declared.keys.RowKey.{RowKey}
use Rattle.zt_rows.specs.declared.rows.Row.{Row}
use Rattle.zt_rows.specs.Keys.{rowkey_cmp, rowkey_eq}
use Rattle.zt_rows.specs.ProofsOnly.KeyOrder.{rowkey_eq-cmp, rowkey_eq-laws}
use Rattle.zt_rows.specs.State.{State, row, state_of}
use Rattle.zt_rows.proofs.StateLaws.{state_of-rows}
use Rattle.zt_queries.specs.declared.leak_graph.graph.GraphRow.{GraphRow}
use Rattle.zt_queries.specs.ProofsOnly.LeakGraph.{graph_row, graph_row_if}
use Rattle.zt_queries.proofs.GraphLaws.{drawn, drawn_more, all_drawn}
use Rattle.zt_queries.proofs.HoldLaws.{row_of}

-- ---- the state of its rows

pub rows_kept : (S : State) (es : List (RowKey × Row)) → es ≡ S.rows → (state_of es).rows ≡ es
rows_kept S es is = ap (λ l. (state_of l).rows) is ∙ ap (λ (T : State). T.rows) (state_of-rows S) ∙ sym is

pub state_kept : (S : State) (es : List (RowKey × Row)) → es ≡ S.rows → state_of es ≡ S
state_kept S es is = ap state_of is ∙ state_of-rows S

-- ---- the row under a key, looked for from a place on

one_further : (es : List (RowKey × Row)) (i : ℕ) (e : RowKey × Row) → i < length es → e ≡ get_or es i e → drop i es ≡ e ∷ drop (i + 1) es
one_further es i e below at = drop_more es i e below ∙ ap (λ x. x ∷ drop (i + 1) es) (sym at)

found_at : (k : RowKey) (es : List (RowKey × Row)) (i : ℕ) (e : RowKey × Row) → i < length es → e ≡ get_or es i e
    → entries.find rowkey_cmp k (drop i es) ≡ cond (rowkey_eq e.0 k) (Some e.1) (entries.find rowkey_cmp k (drop (i + 1) es))
found_at k es i e below at =
    ap (entries.find rowkey_cmp k) (one_further es i e below at)
    ∙ ap (λ b. cond b (Some e.1) (entries.find rowkey_cmp k (drop (i + 1) es))) (rowkey_eq-cmp k e.0 ∙ rowkey_eq-laws.symm k e.0)

pub passed : (k : RowKey) (es : List (RowKey × Row)) (i : ℕ) (e : RowKey × Row) (all : Option Row) → i < length es → e ≡ get_or es i e → rowkey_eq e.0 k ≡ false
    → entries.find rowkey_cmp k (drop i es) ≡ all → entries.find rowkey_cmp k (drop (i + 1) es) ≡ all
passed k es i e all below at other so_far =
    sym (found_at k es i e below at ∙ ap (λ b. cond b (Some e.1) (entries.find rowkey_cmp k (drop (i + 1) es))) other) ∙ so_far

pub stands : (k : RowKey) (es : List (RowKey × Row)) (i : ℕ) (e : RowKey × Row) (all : Option Row) → i < length es → e ≡ get_or es i e → rowkey_eq e.0 k ≡ true
    → entries.find rowkey_cmp k (drop i es) ≡ all → Some e.1 ≡ all
stands k es i e all below at same so_far =
    sym (found_at k es i e below at ∙ ap (λ b. cond b (Some e.1) (entries.find rowkey_cmp k (drop (i + 1) es))) same) ∙ so_far

nothing_left : {A : Type 0} (xs : List A) (i : ℕ) → length xs ≤ i → drop i xs ≡ []
nothing_left [] zero h = refl
nothing_left [] (suc i) h = refl
nothing_left (x ∷ xs) zero h = absurd (omega (arith, h))
nothing_left (x ∷ xs) (suc i) h = nothing_left xs i (omega (arith, h))

pub nowhere : (k : RowKey) (es : List (RowKey × Row)) (i : ℕ) (all : Option Row) → length es ≤ i → entries.find rowkey_cmp k (drop i es) ≡ all → None ≡ all
nowhere k es i all past so_far = ap (entries.find rowkey_cmp k) (sym (nothing_left es i past)) ∙ so_far

-- ---- the rows drawn, one after another

slice_get_there : {A : Type 0} (xs : List A) (i : ℕ) (x : A) → i < length xs → x ≡ get_or xs i x → slice_get xs i ≡ Some x
slice_get_there [] i x below at = absurd (omega (arith, below))
slice_get_there (y ∷ ys) zero x below at = ap (λ z. Some z) (sym at)
slice_get_there (y ∷ ys) (suc i) x below at = slice_get_there ys i x (omega (arith, below)) at

key_there : (es : List (RowKey × Row)) (i : ℕ) (e : RowKey × Row) → i < length es → e ≡ get_or es i e → e.0 ≡ get_or (map (λ q. q.0) es) i e.0
key_there [] i e below at = absurd (omega (arith, below))
key_there (q ∷ es) zero e below at = ap (λ (z : RowKey × Row). z.0) at
key_there (q ∷ es) (suc i) e below at = key_there es i e (omega (arith, below)) at

pub drawn_on : (S : State) (es : List (RowKey × Row)) (i : ℕ) (e : RowKey × Row) (q : RowKey) (old new : Option GraphRow) → es ≡ S.rows → i < length es → e ≡ get_or es i e
    → old ≡ drawn S (take i (map (λ x. x.0) es)) q → new ≡ (if rowkey_eq e.0 q then graph_row e.1 else old) → new ≡ drawn S (take (i + 1) (map (λ x. x.0) es)) q
drawn_on S es i e q old new are below at so_far more =
    let there : row S e.0 ≡ Some e.1 = row_of S i e (subst (λ l. slice_get l i ≡ Some e) are (slice_get_there es i e below at)) in
    drawn_more S (map (λ x. x.0) es) i e.0 q old new (omega (arith, below, length-map es (λ (x : RowKey × Row). x.0))) (key_there es i e below at) so_far
    (more ∙ ap (λ o. if rowkey_eq e.0 q then graph_row_if o else old) (sym there))

pub drawn_all : (S : State) (es : List (RowKey × Row)) (i : ℕ) (q : RowKey) (found : Option GraphRow) → es ≡ S.rows → length es ≤ i
    → found ≡ drawn S (take i (map (λ x. x.0) es)) q → found ≡ graph_row_if (row S q)
drawn_all S es i q found are past so_far =
    all_drawn S (map (λ x. x.0) es) i q found (ap (map (λ (x : RowKey × Row). x.0)) are) (omega (arith, past, length-map es (λ (x : RowKey × Row). x.0))) so_far

-- ---- what the rows give, one after another

flat_more : {A B : Type 0} (f : A → List B) (xs : List A) (x : A) → flat_map f (xs ++ x ∷ []) ≡ flat_map f xs ++ f x
flat_more f [] x = append-nil (f x)
flat_more f (y ∷ ys) x = ap (λ l. f y ++ l) (flat_more f ys x) ∙ sym (append_assoc (f y) (flat_map f ys) (f x))

pub given_more : {A B : Type 0} (f : A → List B) (xs : List A) (i : ℕ) (x : A) (begin ys zs : List B) → i < length xs → x ≡ get_or xs i x
    → ys ≡ begin ++ flat_map f (take i xs) → zs ≡ ys ++ f x → zs ≡ begin ++ flat_map f (take (i + 1) xs)
given_more f xs i x begin ys zs below at so_far more =
    more
    ∙ ap (λ l. l ++ f x) so_far
    ∙ append_assoc begin (flat_map f (take i xs)) (f x)
    ∙ ap (λ l. begin ++ l) (sym (flat_more f (take i xs) x) ∙ ap (λ y. flat_map f (take i xs ++ y ∷ [])) at ∙ ap (flat_map f) (sym (take_more xs i x below)))

pub mapped_more : {A B : Type 0} (f : A → B) (xs : List A) (i : ℕ) (x : A) (ys zs : List B) → i < length xs → x ≡ get_or xs i x
    → ys ≡ map f (take i xs) → zs ≡ ys ++ f x ∷ [] → zs ≡ map f (take (i + 1) xs)
mapped_more f xs i x ys zs below at so_far more =
    more
    ∙ ap (λ l. l ++ f x ∷ []) so_far
    ∙ sym (map-append f (take i xs) (x ∷ []))
    ∙ ap (λ y. map f (take i xs ++ y ∷ [])) at
    ∙ ap (map f) (sym (take_more xs i x below))
