-- The graph of a state, drawn key by key, and what its rows say of the state's.
use Rattle.std.proofs.Common.{◌≡◌, ℕ, zero, suc, ◌+◌, ◌<◌, ◌≤◌, Bool, true, false, ◌||◌, inl, inr, List, [], ◌∷◌, ◌++◌, map, length, take, get_or, refl, sym, ap, ◌∙◌, arith}
use Rattle.std.specs.Prelude.{Option, None, Some, is_some, if◌then◌else◌}
use Rattle.std.specs.List.{list_any}
use Rattle.std.specs.Map.{lookup}
use Rattle.std.specs.BTreeMap.{is_at}
use Rattle.std.proofs.lemmas.List.{take_more}
use Rattle.std.proofs.lemmas.List.Folds.{list_any-append}
use Rattle.zt_rows.specs.declared.keys.RowKey.{RowKey}
use Rattle.zt_rows.specs.declared.rows.Row.{Row}
use Rattle.zt_rows.specs.Keys.{rowkey_cmp, rowkey_eq}
use Rattle.zt_rows.specs.ProofsOnly.KeyOrder.{rowkey_eq-equal, rowkey_eq-self, rowkey_eq-cmp, rowkey_eq-laws}
use Rattle.zt_rows.specs.Change.{keys}
use Rattle.zt_rows.specs.State.{State, row}
use Rattle.zt_rows.proofs.RowLaws.{In, row-in, list_any-in}
use Rattle.zt_queries.specs.declared.leak_graph.graph.GraphRow.{GraphRow}
use Rattle.zt_queries.specs.ProofsOnly.LeakGraph.{first_of, graph_row_if}

-- ---- drawn so far

-- the key is in the list
abbrev pub listed : List RowKey → RowKey → Bool
listed ks q = list_any (λ k. rowkey_eq k q) ks

abbrev pub drawn : State → List RowKey → RowKey → Option GraphRow
drawn S ks q = if listed ks q then graph_row_if (row S q) else None

more_by : (S : State) (q k : RowKey) (a : Bool) → (if rowkey_eq k q then graph_row_if (row S k) else (if a then graph_row_if (row S q) else None)) ≡ (if a || (rowkey_eq k q || false) then graph_row_if (row S q) else None)
more_by S q k a = more_of (rowkey_eq k q) a (λ e. ap (λ x. graph_row_if (row S x)) (rowkey_eq-equal k q e))
  where
    more_of : (b a : Bool) → (b ≡ true → graph_row_if (row S k) ≡ graph_row_if (row S q)) → (if b then graph_row_if (row S k) else (if a then graph_row_if (row S q) else None)) ≡ (if a || (b || false) then graph_row_if (row S q) else None)
    more_of true true h = h refl
    more_of true false h = h refl
    more_of false true h = refl
    more_of false false h = refl

pub drawn_more : (S : State) (ks : List RowKey) (i : ℕ) (k q : RowKey) (old new : Option GraphRow) → i < length ks → k ≡ get_or ks i k
    → old ≡ drawn S (take i ks) q → new ≡ (if rowkey_eq k q then graph_row_if (row S k) else old) → new ≡ drawn S (take (i + 1) ks) q
drawn_more S ks i k q old new l is o n =
    n
    ∙ ap (λ x. if rowkey_eq k q then graph_row_if (row S k) else x) o
    ∙ more_by S q k (listed (take i ks) q)
    ∙ ap (λ b. if b then graph_row_if (row S q) else None) (sym (list_any-append (λ x. rowkey_eq x q) (take i ks) (k ∷ [])))
    ∙ ap (λ x. drawn S (take i ks ++ x ∷ []) q) is
    ∙ ap (λ xs. drawn S xs q) (sym (take_more ks i k l))

-- ---- all drawn

key-in : (k : RowKey) (r : Row) (es : List (RowKey × Row)) → In (k, r) es → In k (map (λ e. e.0) es)
key-in k r [] m = absurd m
key-in k r (e ∷ es) (inl p) = inl (ap (λ (z : RowKey × Row). z.0) p)
key-in k r (e ∷ es) (inr m) = inr (key-in k r es m)

all_of : (S : State) (q : RowKey) (o : Option Row) → row S q ≡ o → drawn S (keys S) q ≡ graph_row_if o
all_of S q None e = none_of (listed (keys S) q) (ap graph_row_if e)
  where
    none_of : (b : Bool) → graph_row_if (row S q) ≡ None → (if b then graph_row_if (row S q) else None) ≡ None
    none_of true h = h
    none_of false h = refl
all_of S q (Some r) e =
    ap (λ b. if b then graph_row_if (row S q) else None) (list_any-in (λ k. rowkey_eq k q) q (keys S) (key-in q r S.rows (row-in S q r e)) (rowkey_eq-self q)) ∙ ap graph_row_if e

take_whole : {A : Type 0} (xs : List A) (i : ℕ) → length xs ≤ i → take i xs ≡ xs
take_whole [] zero h = refl
take_whole [] (suc i) h = refl
take_whole (x ∷ xs) zero h = absurd (omega (arith, h))
take_whole (x ∷ xs) (suc i) h = ap (λ l. x ∷ l) (take_whole xs i (omega (arith, h)))

pub all_drawn : (S : State) (ks : List RowKey) (i : ℕ) (q : RowKey) (found : Option GraphRow) → ks ≡ keys S → length ks ≤ i → found ≡ drawn S (take i ks) q → found ≡ graph_row_if (row S q)
all_drawn S ks i q found all past so_far =
    so_far ∙ ap (λ xs. drawn S xs q) (take_whole ks i past ∙ all) ∙ all_of S q (row S q) refl

-- ---- an equal graph

abbrev pub from_rest : List (RowKey × GraphRow) → RowKey → Option GraphRow
from_rest es q = lookup (is_at (rowkey_cmp q)) es

first_by : (o t : Option GraphRow) (b : Bool) (s : GraphRow) → first_of (first_of o (if b then Some s else None)) t ≡ first_of o (if b then Some s else t)
first_by (Some r) t b s = refl
first_by None t true s = refl
first_by None t false s = refl

pub copied_more : (old new : Option GraphRow) (k q : RowKey) (s : GraphRow) (es rest : List (RowKey × GraphRow)) (all : Option GraphRow) → es ≡ (k, s) ∷ rest
    → first_of old (from_rest es q) ≡ all → new ≡ first_of old (if rowkey_eq k q then Some s else None) → first_of new (from_rest rest q) ≡ all
copied_more old new k q s es rest all is so_far n =
    ap (λ o. first_of o (from_rest rest q)) n
    ∙ first_by old (from_rest rest q) (rowkey_eq k q) s
    ∙ ap (λ b. first_of old (if b then Some s else from_rest rest q)) (rowkey_eq-laws.symm k q ∙ sym (rowkey_eq-cmp q k))
    ∙ ap (λ l. first_of old (from_rest l q)) (sym is)
    ∙ so_far

first_none : (o : Option GraphRow) → first_of o None ≡ o
first_none (Some s) = refl
first_none None = refl

pub copied_all : (new : Option GraphRow) (q : RowKey) (es : List (RowKey × GraphRow)) (all : Option GraphRow) → es ≡ [] → first_of new (from_rest es q) ≡ all → new ≡ all
copied_all new q es all none so_far = sym (first_none new) ∙ ap (λ l. first_of new (from_rest l q)) (sym none) ∙ so_far

-- one graph row put where there was none, or left where there was one
pub put_where_none : (old : RowKey → Option GraphRow) (k q : RowKey) (s : GraphRow) (new : Option GraphRow) → old k ≡ None
    → new ≡ (if rowkey_eq k q then Some s else old q) → new ≡ first_of (old q) (if rowkey_eq k q then Some s else None)
put_where_none old k q s new none n = n ∙ by (rowkey_eq k q) refl
  where
    by : (b : Bool) → rowkey_eq k q ≡ b → (if rowkey_eq k q then Some s else old q) ≡ first_of (old q) (if rowkey_eq k q then Some s else None)
    by true e =
        ap (λ b. if b then Some s else old q) e ∙ sym (ap (λ o. first_of o (if rowkey_eq k q then Some s else None)) (ap old (sym (rowkey_eq-equal k q e)) ∙ none) ∙ ap (λ b. if b then Some s else None) e)
    by false e =
        ap (λ b. if b then Some s else old q) e ∙ sym (ap (λ b. first_of (old q) (if b then Some s else None)) e ∙ first_none (old q))

pub left_where_some : (old : RowKey → Option GraphRow) (k q : RowKey) (s : GraphRow) → is_some (old k) ≡ true → old q ≡ first_of (old q) (if rowkey_eq k q then Some s else None)
left_where_some old k q s there = by (rowkey_eq k q) refl
  where
    held_first : (o t : Option GraphRow) → is_some o ≡ true → o ≡ first_of o t
    held_first (Some r) t h = refl
    held_first None t h = cc

    by : (b : Bool) → rowkey_eq k q ≡ b → old q ≡ first_of (old q) (if rowkey_eq k q then Some s else None)
    by true e = held_first (old q) (if rowkey_eq k q then Some s else None) (ap (λ z. is_some (old z)) (sym (rowkey_eq-equal k q e)) ∙ there)
    by false e = sym (ap (λ b. first_of (old q) (if b then Some s else None)) e ∙ first_none (old q))
