-- What a search leaves is what is leaked: object by object, and over all keys in their order.
use Rattle.std.proofs.Common.{◌≡◌, ℕ, Bool, not, ◌&&◌, ◌||◌, inl, inr, List, [], ◌∷◌, map, refl, sym, ap, ◌∙◌}
use Rattle.std.specs.Prelude.{Option, None, Some, is_some, option_and_then, if◌then◌else◌, ◌==◌}
use Rattle.std.specs.List.{filter_map, cons_option}
use Rattle.zt_bits.specs.declared.kinds.Kind.{Kind}
use Rattle.std.specs.BTreeMap.{BTreeMap}
use Rattle.zt_rows.specs.declared.keys.RowKey.{RowKey}
use Rattle.zt_rows.specs.declared.keys.RowKey.TheVariants as key
use Rattle.zt_rows.specs.declared.rows.ObjectRow.{ObjectRow}
use Rattle.zt_rows.specs.declared.rows.Row.{Row}
use Rattle.zt_rows.specs.declared.rows.Row.TheVariants as rows
use Rattle.zt_rows.specs.Change.{keys}
use Rattle.zt_rows.specs.State.{State, row}
use Rattle.zt_rows.specs.Reads.{as_object, object_at, objects, on_object, is_live_process, has_live_process}
use Rattle.zt_rows.specs.Tests.{among, exists}
use Rattle.zt_rows.specs.Support.{root_job}
use Rattle.zt_rows.proofs.RowLaws.{In, in-row}
use Rattle.zt_queries.specs.declared.leak_graph.graph.GraphRow.{GraphRow}
use Rattle.zt_queries.specs.Reachability.{reached}
use Rattle.zt_queries.specs.Leaks.{is_above, is_lost, is_leaked, lost_at, leaks}
use Rattle.zt_queries.specs.ProofsOnly.LeakGraph.{graph_row_if, IsGraph, node_at, node, is_left, left_node, left_at}

-- ---- one object

left_of : (o : Option Row) (x : ℕ) (r a : ℕ → Bool)
    → is_left r a x (node_at (graph_row_if o)) ≡ (is_some (as_object o) && not (r x || ((x == root_job) || on_object is_live_process (as_object o) || a x)))
left_of (Some (rows.Object row)) x r a = refl
left_of (Some (rows.Counters c)) x r a = refl
left_of (Some (rows.Entry o)) x r a = refl
left_of (Some (rows.Msg m)) x r a = refl
left_of (Some (rows.Packet p)) x r a = refl
left_of (Some (rows.Wait w)) x r a = refl
left_of None x r a = refl

module _ (graph : BTreeMap RowKey GraphRow) (S : State) (drawn : IsGraph graph S) (reach above : ℕ → Bool)
    (of_reached : (x : ℕ) → reach x ≡ among (reached S) x) (of_above : (x : ℕ) → above x ≡ is_above S (reached S) x) where
  left_lost : (x : ℕ) → is_left reach above x (node graph x) ≡ is_lost S (reached S) x
  left_lost x =
      ap (λ o. is_left reach above x (node_at o)) (drawn.draws (key.Object x))
      ∙ left_of (row S (key.Object x)) x reach above
      ∙ ap (λ b. exists S x && not (b || ((x == root_job) || has_live_process S x || above x))) (of_reached x)
      ∙ ap (λ b. exists S x && not (among (reached S) x || ((x == root_job) || has_live_process S x || b))) (of_above x)

  pub left_leaked : (x : ℕ) → is_left reach above x (node graph x) ≡ is_leaked S x
  unfolding is_leaked
  left_leaked x = left_lost x

  -- ---- all objects

  abbrev lost : ℕ × ObjectRow → Option (ℕ × Kind)
  lost e = lost_at S (reached S) e

  abbrev left_key : RowKey → Option (ℕ × Kind)
  left_key k = left_at graph reach above k

  drawn_at : (x : ℕ) (r : Row) → row S (key.Object x) ≡ Some r → node graph x ≡ node_at (graph_row_if (Some r))
  drawn_at x r h = ap node_at (drawn.draws (key.Object x) ∙ ap graph_row_if h)

  one_object : (x : ℕ) (o : ObjectRow) → row S (key.Object x) ≡ Some (rows.Object o) → left_key (key.Object x) ≡ lost (x, o)
  one_object x o h =
      ap (left_node reach above x) (drawn_at x (rows.Object o) h)
      ∙ ap (λ b. if b then Some (x, o.kind) else None) (sym (ap (is_left reach above x) (drawn_at x (rows.Object o) h)) ∙ left_lost x)

  one_key : (k : RowKey) (r : Row) → row S k ≡ Some r → left_key k ≡ option_and_then lost (object_at (k, r))
  one_key (key.Object x) (rows.Object o) h = one_object x o h
  one_key (key.Object x) (rows.Counters c) h = ap (left_node reach above x) (drawn_at x (rows.Counters c) h)
  one_key (key.Object x) (rows.Entry c) h = ap (left_node reach above x) (drawn_at x (rows.Entry c) h)
  one_key (key.Object x) (rows.Msg c) h = ap (left_node reach above x) (drawn_at x (rows.Msg c) h)
  one_key (key.Object x) (rows.Packet c) h = ap (left_node reach above x) (drawn_at x (rows.Packet c) h)
  one_key (key.Object x) (rows.Wait c) h = ap (left_node reach above x) (drawn_at x (rows.Wait c) h)
  one_key key.Counters r h = refl
  one_key (key.Entry p q) r h = refl
  one_key (key.Msg p q) r h = refl
  one_key (key.Packet p q) r h = refl
  one_key (key.Wait q) r h = refl

  then_lost : (o : Option (ℕ × ObjectRow)) (os : List (ℕ × ObjectRow)) → cons_option (option_and_then lost o) (filter_map lost os) ≡ filter_map lost (cons_option o os)
  then_lost None os = refl
  then_lost (Some e) os = refl

  all_keys : (es : List (RowKey × Row)) → ((e : RowKey × Row) → In e es → row S e.0 ≡ Some e.1) → filter_map left_key (map (λ e. e.0) es) ≡ filter_map lost (filter_map object_at es)
  all_keys [] h = refl
  all_keys (e ∷ es) h =
      ap (λ o. cons_option o (filter_map left_key (map (λ q. q.0) es))) (one_key e.0 e.1 (h e (inl refl)))
      ∙ ap (λ l. cons_option (option_and_then lost (object_at e)) l) (all_keys es (λ q m. h q (inr m)))
      ∙ then_lost (object_at e) (filter_map object_at es)

  pub left_leaks : filter_map left_key (keys S) ≡ leaks S
  unfolding leaks objects
  left_leaks = all_keys S.rows (λ e m. in-row S e.0 e.1 m)
