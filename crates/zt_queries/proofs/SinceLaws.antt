-- A graph moved by records along the paths of a history, and what shows in a graph without a search.
use Rattle.std.proofs.Common.{◌≡◌, ℕ, zero, suc, ◌+◌, ◌-◌, ◌<◌, ◌≤◌, Bool, true, false, not, ◌&&◌, ◌||◌, List, [], ◌∷◌, ◌++◌, map, length, take, get_or, refl, sym, ap, ◌∙◌, subst, arith}
use Rattle.std.specs.Prelude.{Option, None, Some, unwrap_or, if◌then◌else◌, slice_get, ◌==◌}
use Rattle.std.specs.List.{list_any}
use Rattle.std.specs.Ordering.{is_eq}
use Rattle.std.specs.BTreeMap.{BTreeMap, IsOrdered, get}
use Rattle.std.specs.FinMap.Entries as entries
use Rattle.std.proofs.lemmas.List.{take_more}
use Rattle.std.proofs.lemmas.List.Folds.{list_any-append}
use Rattle.std.proofs.lemmas.Option.{slice_get_read}
use Rattle.zt_rows.specs.declared.keys.RowKey.{RowKey}
use Rattle.zt_rows.specs.declared.rows.Row.{Row}
use Rattle.zt_rows.specs.Keys.{rowkey_cmp, rowkey_eq}
use Rattle.zt_rows.specs.ProofsOnly.KeyOrder.{rowkey_eq-equal, rowkey_eq-cmp, rowkey_eq-laws}
use Rattle.zt_rows.specs.State.{State, row}
use Rattle.zt_rows.specs.Reads.{is_process}
use Rattle.zt_rows.specs.Support.{root_job}
use Rattle.zt_rows.proofs.RowLaws.{or_right, not_true, true≢false}
use Rattle.zt_store.specs.RecordLook.{held}
use Rattle.zt_history.specs.TreeInvariant.{recorded_at}
use Rattle.zt_history.specs.Timeline.{Timeline}
use Rattle.zt_history.specs.Tree.{end_of, state_at}
use Rattle.zt_queries.specs.declared.leak_graph.graph.GraphNode.{GraphNode}
use Rattle.zt_queries.specs.declared.leak_graph.graph.GraphRow.{GraphRow}
use Rattle.zt_queries.specs.ProofsOnly.LeakGraph.{graph_row_if, held_over, IsGraph, is_left, node, roots}
use Rattle.zt_queries.specs.Leaks.{is_above, is_leaked}
use Rattle.zt_queries.specs.Reachability.{reached}
use Rattle.zt_rows.specs.Tests.{among}
use Rattle.zt_queries.specs.ProofsOnly.RowHappenings.{row_over, AreWays}
use Rattle.zt_queries.proofs.GraphLaws.{listed}
use Rattle.zt_queries.proofs.LeakLaws.{leaked-lost}
use Rattle.zt_queries.proofs.ReachLaws.{among-in, reached-closed}
use Rattle.zt_queries.proofs.ReachabilityLaws.{closed_under}
use Rattle.zt_queries.proofs.WayLaws.{back-over, forth-over, at-position}
use Rattle.zt_queries.proofs.ListLeaks.{left_leaked}

abbrev Rows : Type 0
Rows = List (RowKey × Option Row)

-- ---- a record's rows put into a graph

or_none : (a : Bool) → (a || (false || false)) ≡ a
or_none true = refl
or_none false = refl

listed_more : (ks : List RowKey) (i : ℕ) (k q : RowKey) → i < length ks → k ≡ get_or ks i k → listed (take (i + 1) ks) q ≡ (listed (take i ks) q || (rowkey_eq k q || false))
listed_more ks i k q l is =
    ap (λ xs. listed xs q) (take_more ks i k l)
    ∙ ap (λ x. listed (take i ks ++ x ∷ []) q) (sym is)
    ∙ list_any-append (λ x. rowkey_eq x q) (take i ks) (k ∷ [])

abbrev pub redrawn : Rows → List RowKey → (RowKey → Option GraphRow) → RowKey → Option GraphRow
redrawn R ks old q = if listed ks q then held_over (held R q) (old q) else old q

twice : (o : Option (Option Row)) (b : Bool) (s : Option GraphRow) → held_over o (if b then held_over o s else s) ≡ held_over o s
twice None true s = refl
twice None false s = refl
twice (Some r) b s = refl

module _ (R : Rows) (ks : List RowKey) (i : ℕ) (k : RowKey) (below : i < length ks) (is : k ≡ get_or ks i k) (old now : RowKey → Option GraphRow) (new : Option GraphRow) where
  redrawn_by : (q : RowKey) (b : Bool) → rowkey_eq k q ≡ b → now k ≡ redrawn R (take i ks) old k → now q ≡ redrawn R (take i ks) old q
      → new ≡ (if rowkey_eq k q then held_over (held R k) (now k) else now q) → new ≡ redrawn R (take (i + 1) ks) old q
  redrawn_by q true e at_key at_other n =
      let same : k ≡ q = rowkey_eq-equal k q e in
      n
      ∙ ap (λ b. if b then held_over (held R k) (now k) else now q) e
      ∙ ap (held_over (held R k)) at_key
      ∙ twice (held R k) (listed (take i ks) k) (old k)
      ∙ ap (λ z. held_over (held R z) (old z)) same
      ∙ ap (λ b. if b then held_over (held R q) (old q) else old q) (sym (listed_more ks i k q below is ∙ or_right (listed (take i ks) q) (rowkey_eq k q || false) (ap (λ b. b || false) e)))
  redrawn_by q false e at_key at_other n =
      n
      ∙ ap (λ b. if b then held_over (held R k) (now k) else now q) e
      ∙ at_other
      ∙ ap (λ b. if b then held_over (held R q) (old q) else old q) (sym (listed_more ks i k q below is ∙ ap (λ b. listed (take i ks) q || (b || false)) e ∙ or_none (listed (take i ks) q)))

  pub redrawn_more : (q : RowKey) → now k ≡ redrawn R (take i ks) old k → now q ≡ redrawn R (take i ks) old q
      → new ≡ (if rowkey_eq k q then held_over (held R k) (now k) else now q) → new ≡ redrawn R (take (i + 1) ks) old q
  redrawn_more q at_key at_other n = redrawn_by q (rowkey_eq k q) refl at_key at_other n

left_false : (a b : Bool) → (a || b) ≡ false → a ≡ false
left_false true b h = h
left_false false b h = refl

right_false : (a b : Bool) → (a || b) ≡ false → b ≡ false
right_false true b h = let t : true ≡ false = h in cc
right_false false b h = h

unheld : (R : Rows) (q : RowKey) → listed (map (λ e. e.0) R) q ≡ false → held R q ≡ None
unheld [] q h = refl
unheld (e ∷ es) q h =
    let apart : is_eq (rowkey_cmp q e.0) ≡ false = rowkey_eq-cmp q e.0 ∙ rowkey_eq-laws.symm q e.0 ∙ left_false (rowkey_eq e.0 q) (listed (map (λ x. x.0) es) q) h in
    ap (λ b. if b then Some e.1 else entries.find rowkey_cmp q es) apart ∙ unheld es q (right_false (rowkey_eq e.0 q) (listed (map (λ x. x.0) es) q) h)

pub take_whole : {A : Type 0} (xs : List A) (i : ℕ) → length xs ≤ i → take i xs ≡ xs
take_whole [] zero h = refl
take_whole [] (suc i) h = refl
take_whole (x ∷ xs) zero h = absurd (omega (arith, h))
take_whole (x ∷ xs) (suc i) h = ap (λ l. x ∷ l) (take_whole xs i (omega (arith, h)))

all_of : (R : Rows) (old : Option GraphRow) (q : RowKey) (b : Bool) → listed (map (λ e. e.0) R) q ≡ b → (if listed (map (λ e. e.0) R) q then held_over (held R q) old else old) ≡ held_over (held R q) old
all_of R old q true h = ap (λ b. if b then held_over (held R q) old else old) h
all_of R old q false h = ap (λ b. if b then held_over (held R q) old else old) h ∙ ap (λ o. held_over o old) (sym (unheld R q h))

pub all_redrawn : (R : Rows) (ks : List RowKey) (i : ℕ) (old : RowKey → Option GraphRow) (new : Option GraphRow) (q : RowKey) → ks ≡ map (λ e. e.0) R → length ks ≤ i
    → new ≡ redrawn R (take i ks) old q → new ≡ held_over (held R q) (old q)
all_redrawn R ks i old new q all past so_far =
    so_far ∙ ap (λ xs. redrawn R xs old q) (take_whole ks i past ∙ all) ∙ all_of R (old q) q (listed (map (λ e. e.0) R) q) refl

-- ---- a graph turned over a call

over_row : (o : Option (Option Row)) (r : Option Row) → held_over o (graph_row_if r) ≡ graph_row_if (unwrap_or o r)
over_row None r = refl
over_row (Some s) r = refl

pub turned : (graph : BTreeMap RowKey GraphRow) (S : State) → IsGraph graph S → (o : Option Rows) (R : Rows) (k : RowKey) (new : Option GraphRow) → o ≡ Some R
    → new ≡ held_over (held R k) (get rowkey_cmp graph k) → new ≡ graph_row_if (row_over o k (row S k))
turned graph S drawn o R k new e h =
    h ∙ ap (held_over (held R k)) (drawn.draws k) ∙ over_row (held R k) (row S k) ∙ ap (λ p. graph_row_if (row_over p k (row S k))) (sym e)

pub unturned : (graph : BTreeMap RowKey GraphRow) (S : State) → IsGraph graph S → (o : Option Rows) (k : RowKey) → ◌≡◌ {A = Option Rows} o None
    → get rowkey_cmp graph k ≡ graph_row_if (row_over o k (row S k))
unturned graph S drawn o k e = drawn.draws k ∙ ap (λ p. graph_row_if (row_over p k (row S k))) (sym e)

-- the graph after it was turned over the call of a moment
abbrev pub IsTurned : Timeline → ℕ → BTreeMap RowKey GraphRow → BTreeMap RowKey GraphRow → Type 0
IsTurned h q old new = (S : State) → IsGraph old S → (k : RowKey) → get rowkey_cmp new k ≡ graph_row_if (row_over (recorded_at h.tree.made h.position q) k (row S k))

-- ---- along the paths

module _ (h : Timeline) (way here : List ℕ) (shared : ℕ) (w : AreWays h way here shared) where
  abbrev here_at : ℕ → State
  here_at i = state_at h.tree.made (end_of (take i here))

  abbrev there_at : ℕ → State
  there_at i = state_at h.tree.made (end_of (take i way))

  pub graph_starts : (graph : BTreeMap RowKey GraphRow) (S : State) (i : ℕ) → IsGraph graph S → S ≡ state_at h.tree.made h.position → i ≡ length here → IsGraph graph (here_at i)
  graph_starts graph S i drawn stands whole = record { draws = λ k. drawn.draws k ∙ ap graph_row_if (at-position h way here shared w S k i (row S k) stands whole refl) }

  pub graph_back : (i q : ℕ) (old new : BTreeMap RowKey GraphRow) → slice_get here i ≡ Some q → IsGraph old (here_at (i + 1)) → IsTurned h q old new → IsGraph new (here_at i)
  graph_back i q old new at was moved = record {
    draws = λ k. moved (here_at (i + 1)) was k ∙ ap graph_row_if (back-over h way here shared w k i q (row (here_at (i + 1)) k) (row_over (recorded_at h.tree.made h.position q) k (row (here_at (i + 1)) k)) at refl refl);
  }

  pub graph_forth : (i q : ℕ) (old new : BTreeMap RowKey GraphRow) → shared ≤ i → slice_get way i ≡ Some q → IsGraph old (there_at i) → IsTurned h q old new → IsGraph new (there_at (i + 1))
  graph_forth i q old new far at was moved = record {
    draws = λ k. moved (there_at i) was k ∙ ap graph_row_if (forth-over h way here shared w k i q (row (there_at i) k) (row_over (recorded_at h.tree.made h.position q) k (row (there_at i) k)) far at refl refl);
  }

  -- ---- as loops meet them, back from a place and forth

  pub back_step : (i q : ℕ) (old new : BTreeMap RowKey GraphRow) → 0 < i → i ≤ length here → q ≡ get_or here (i - 1) q → IsGraph old (here_at i) → IsTurned h q old new → IsGraph new (here_at (i - 1))
  back_step i q old new some inside read was moved =
      let up : i ≡ i - 1 + 1 = omega arith in
      graph_back (i - 1) q old new (slice_get_read here (length here) (i - 1) q refl (omega arith) read) (subst (λ n. IsGraph old (here_at n)) up was) moved

  pub forth_step : (i q : ℕ) (old new : BTreeMap RowKey GraphRow) → shared ≤ i → i < length way → q ≡ get_or way i q → IsGraph old (there_at i) → IsTurned h q old new → IsGraph new (there_at (i + 1))
  forth_step i q old new far inside read was moved = graph_forth i q old new far (slice_get_read way (length way) i q refl inside read) was moved

-- ---- no such object

pub none_leaked : (graph : BTreeMap RowKey GraphRow) (S : State) → IsGraph graph S → (x : ℕ) → ◌≡◌ {A = Option GraphNode} None (node graph x) → false ≡ is_leaked S x
none_leaked graph S drawn x e =
    ap (is_left (among (reached S)) (λ y. is_above S (reached S) y) x) e
    ∙ left_leaked graph S drawn (among (reached S)) (λ y. is_above S (reached S) y) (λ y. refl) (λ y. refl) x

-- ---- an object that keeps itself, and one that an entry names

reached_or : (a b c : Bool) → b ≡ true → not (a || (b || c)) ≡ false
reached_or true b c h = refl
reached_or false true c h = refl
reached_or false false c h = cc

pub kept_leaked : (graph : BTreeMap RowKey GraphRow) (S : State) → IsGraph graph S → (x : ℕ) (o : GraphNode) → Some o ≡ node graph x
    → ((x == root_job) || (is_process o.kind && o.live)) ≡ true → false ≡ is_leaked S x
kept_leaked graph S drawn x o there keeps =
    sym (reached_or (among (reached S) x) ((x == root_job) || (is_process o.kind && o.live)) (is_above S (reached S) x) keeps)
    ∙ ap (is_left (among (reached S)) (λ y. is_above S (reached S) y) x) there
    ∙ left_leaked graph S drawn (among (reached S)) (λ y. is_above S (reached S) y) (λ y. refl) (λ y. refl) x

pub rooted_leaked : (graph : BTreeMap RowKey GraphRow) → IsOrdered rowkey_cmp graph → (S : State) → IsGraph graph S → (xs : List ℕ) (x : ℕ) → xs ≡ roots graph
    → list_any (λ y. y == x) xs ≡ true → false ≡ is_leaked S x
rooted_leaked graph ordered S drawn xs x all named =
    let known : among (reached S) x ≡ true =
    (closed_under graph ordered S drawn (among (reached S)) (reached-closed S)).from_start x (among-in x (roots graph) (ap (λ l. among l x) (sym all) ∙ named)) in
    sym (not_true (is_leaked S x) (λ t. true≢false (among (reached S) x) known (leaked-lost S x t).unreached))

-- ---- an equal graph

pub same_graph : (graph copied : BTreeMap RowKey GraphRow) (S : State) → IsGraph graph S → ((k : RowKey) → get rowkey_cmp copied k ≡ get rowkey_cmp graph k) → IsGraph copied S
same_graph graph copied S drawn same = record { draws = λ k. same k ∙ drawn.draws k }
