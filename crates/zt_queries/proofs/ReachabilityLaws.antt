-- A search from names to the queues that they open: it ends with the least closed set. And what is above, as it is
-- climbed link by link.
use Rattle.std.proofs.Common.{◌≡◌, ℕ, zero, suc, ◌+◌, Bool, true, false, not, ◌&&◌, ◌||◌, ◌⊎◌, inl, inr, List, [], ◌∷◌, ◌++◌, map, length, refl, sym, ap, ◌∙◌, subst, arith}
use Rattle.std.specs.Prelude.{Option, None, Some, if◌then◌else◌, ◌==◌, unwrap_or}
use Rattle.std.specs.Option.{option_map}
use Rattle.std.specs.Map.{lookup, remove_entry, values_of}
use Rattle.std.specs.List.{list_any, slice_get, sum_by}
use Rattle.std.specs.Ordering.{nat_cmp}
use Rattle.std.specs.BTreeMap.{BTreeMap, is_at, IsOrdered}
use Rattle.std.proofs.lemmas.Bool.{eqb-true, eq-eqb}
use Rattle.std.proofs.lemmas.Map.Entries.{sum_by-remove_entry, place_from_lookup, btree_map_get_place}
use Rattle.zt_rows.specs.declared.keys.RowKey.{RowKey}
use Rattle.zt_rows.specs.declared.keys.RowKey.TheVariants as key
use Rattle.zt_rows.specs.declared.rows.Held.{Held}
use Rattle.zt_rows.specs.declared.rows.ObjectRow.{ObjectRow}
use Rattle.zt_rows.specs.declared.rows.Row.{Row}
use Rattle.zt_rows.specs.declared.rows.Row.TheVariants as rows
use Rattle.zt_rows.specs.Contents.{MessageContent}
use Rattle.zt_rows.specs.Keys.{rowkey_cmp}
use Rattle.zt_rows.specs.ProofsOnly.KeyOrder.{rowkey_cmp_total, rowkey_eq-equal, rowkey_eq-cmp}
use Rattle.zt_rows.specs.State.{State, row}
use Rattle.zt_rows.specs.Reads.{as_object, as_entry, as_message, object_at, objects, entry, message, is_live, is_job, is_live_process}
use Rattle.zt_rows.specs.Tests.{among, link_at, object_link}
use Rattle.zt_rows.specs.End.{upward, links, chain}
use Rattle.zt_rows.proofs.RowLaws.{In, list_any-in, in-list_any, row-in, in-row, in-filter_map, filter_map-in, or_true, or_left, or_right, same_test}
use Rattle.zt_rows.proofs.ReadLaws.{entry-row, message-row}
use Rattle.zt_queries.specs.declared.leak_graph.graph.GraphNode.{GraphNode}
use Rattle.zt_queries.specs.declared.leak_graph.graph.GraphRow.{GraphRow}
use Rattle.zt_queries.specs.declared.leak_graph.graph.GraphRow.TheVariants as graph_rows
use Rattle.zt_queries.specs.Reachability.{reached, HoldsAllNamed}
use Rattle.zt_queries.specs.Leaks.{keeps_above, is_above}
use Rattle.zt_queries.specs.ProofsOnly.LeakGraph.{graph_row_if, IsGraph, root_at, names_at, roots, names, waiting, weight, node_at, link_of, node, climb, climbed, keeps, keeper_at, is_over}
use Rattle.zt_queries.proofs.ReachLaws.{in-append, append-left, append-right, in-flat_map, flat_map-in, in-map, map-in, all-in, in-all, reached-closed, reached-least}

-- ---- a search

pub record IsClosedUnder (start : List ℕ) (next : ℕ → List ℕ) (f : ℕ → Bool) : Type 0 where
  pub from_start : (x : ℕ) → In x start → f x ≡ true
  pub from_next : (e x : ℕ) → f e ≡ true → In x (next e) → f x ≡ true

abbrev pub Known : (ℕ → Bool) → List ℕ → ℕ → Type 0
Known set found x = (set x ≡ true) ⊎ In x found

-- the endpoint was not looked into, or it was and all that is named there is known
abbrev pub IsOpen : (ℕ → List ℕ) → List ℕ → (ℕ → List ℕ) → (ℕ → Bool) → ℕ → Type 0
IsOpen next found wait set e = ((set e ≡ false) × (wait e ≡ next e)) ⊎ ((wait e ≡ []) × ((x : ℕ) → In x (next e) → Known set found x))

pub record IsSearch (start : List ℕ) (next : ℕ → List ℕ) (found : List ℕ) (wait : ℕ → List ℕ) (set : ℕ → Bool) : Type 0 where
  pub begun : (x : ℕ) → In x start → Known set found x
  pub each : (e : ℕ) → IsOpen next found wait set e
  pub least : (f : ℕ → Bool) → IsClosedUnder start next f → (x : ℕ) → Known set found x → f x ≡ true

pub search_begins : (start : List ℕ) (next : ℕ → List ℕ) (found : List ℕ) (wait : ℕ → List ℕ) (set : ℕ → Bool)
    → found ≡ start → ((e : ℕ) → wait e ≡ next e) → ((x : ℕ) → set x ≡ false) → IsSearch start next found wait set
search_begins start next found wait set f w s = record {
  begun = λ x m. inr (subst (λ l. In x l) (sym f) m);
  each = λ e. inl (s e, w e);
  least = λ g closed x known. elim known [
    | inl h ↦ let no : true ≡ false = sym h ∙ s x in cc
    | inr m ↦ closed.from_start x (subst (λ l. In x l) f m)
  ];
}

module _ (start : List ℕ) (next : ℕ → List ℕ) (found : List ℕ) (wait : ℕ → List ℕ) (set : ℕ → Bool) (so_far : IsSearch start next found wait set)
    (rest : List ℕ) (x : ℕ) (split : found ≡ rest ++ x ∷ []) (more : ℕ → Bool) (marked : (y : ℕ) → more y ≡ (set y || (x == y)))
    (after : List ℕ) (grown : after ≡ rest ++ wait x) (left : ℕ → List ℕ) (taken : (e : ℕ) → left e ≡ (if x == e then [] else wait e)) where
  here : more x ≡ true
  here = marked x ∙ or_right (set x) (x == x) (eq-eqb x x refl)

  kept : (y : ℕ) → In y rest ⊎ In y (x ∷ []) → Known more after y
  kept y (inl m) = inr (subst (λ l. In y l) (sym grown) (append-left y rest (wait x) m))
  kept y (inr (inl e)) = inl (ap more e ∙ here)
  kept y (inr (inr m)) = absurd m

  keep : (y : ℕ) → Known set found y → Known more after y
  keep y (inl h) = inl (marked y ∙ or_left (set y) (x == y) h)
  keep y (inr m) = kept y (in-append y rest (x ∷ []) (subst (λ l. In y l) split m))

  opened : (y : ℕ) → In y (wait x) → Known more after y
  opened y m = inr (subst (λ l. In y l) (sym grown) (append-right y rest (wait x) m))

  known : Known set found x
  known = inr (subst (λ l. In x l) (sym split) (append-right x rest (x ∷ []) (inl refl)))

  each_at : (e : ℕ) → x ≡ e → IsOpen next found wait set e → (y : ℕ) → In y (next e) → Known more after y
  each_at e same (inl w) y m = opened y (subst (λ z. In y (wait z)) (sym same) (subst (λ l. In y l) (sym w.1) m))
  each_at e same (inr o) y m = keep y (o.1 y m)

  each_other : (e : ℕ) → (x == e) ≡ false → left e ≡ wait e → IsOpen next found wait set e → IsOpen next after left more e
  each_other e apart still (inl w) = inl (marked e ∙ ap (λ b. b || (x == e)) w.0 ∙ apart, still ∙ w.1)
  each_other e apart still (inr o) = inr (still ∙ o.0, λ y m. keep y (o.1 y m))

  each_of : (e : ℕ) (b : Bool) → (x == e) ≡ b → IsOpen next after left more e
  each_of e true h = inr (taken e ∙ ap (λ b. if b then [] else wait e) h, each_at e (eqb-true x e h) (so_far.each e))
  each_of e false h = each_other e h (taken e ∙ ap (λ b. if b then [] else wait e) h) (so_far.each e)

  least_named : (f : ℕ → Bool) → IsClosedUnder start next f → (y : ℕ) → IsOpen next found wait set x → In y (wait x) → f y ≡ true
  least_named f closed y (inl w) m = closed.from_next x y (so_far.least f closed x known) (subst (λ l. In y l) w.1 m)
  least_named f closed y (inr o) m = absurd (subst (λ l. In y l) o.0 m)

  least_of : (f : ℕ → Bool) → IsClosedUnder start next f → (y : ℕ) → Known more after y → f y ≡ true
  least_of f closed y (inl h) = elim (or_true (set y) (x == y) (sym (marked y) ∙ h)) [
    | inl s ↦ so_far.least f closed y (inl s)
    | inr e ↦ subst (λ z. f z ≡ true) (eqb-true x y e) (so_far.least f closed x known)
  ]
  least_of f closed y (inr m) = elim (in-append y rest (wait x) (subst (λ l. In y l) grown m)) [
    | inl l ↦ so_far.least f closed y (inr (subst (λ z. In y z) (sym split) (append-left y rest (x ∷ []) l)))
    | inr r ↦ least_named f closed y (so_far.each x) r
  ]

  pub search_goes_on : IsSearch start next after left more
  search_goes_on = record {
    begun = λ y m. keep y (so_far.begun y m);
    each = λ e. each_of e (x == e) refl;
    least = least_of;
  }

nil_of : (xs : List ℕ) → length xs ≡ 0 → xs ≡ []
nil_of [] h = refl
nil_of (x ∷ xs) h = absurd (omega (arith, h))

pub search_ended : (start : List ℕ) (next : ℕ → List ℕ) (found : List ℕ) (wait : ℕ → List ℕ) (set : ℕ → Bool)
    → length found ≡ 0 → IsSearch start next found wait set → IsSearch start next [] wait set
search_ended start next found wait set h s = subst (λ l. IsSearch start next l wait set) (nil_of found h) s

-- ---- what is taken

length_of : (o : Option (List ℕ)) → length (unwrap_or o []) ≡ unwrap_or (option_map length o) 0
length_of None = refl
length_of (Some xs) = refl

taken_at : (queues after : BTreeMap ℕ (List ℕ)) (e : ℕ) → after.entries ≡ remove_entry (is_at (nat_cmp e)) queues.entries → weight after + length (waiting queues e) ≡ weight queues
taken_at queues after e h =
    ap (λ es. sum_by length (values_of es) + length (waiting queues e)) h
    ∙ ap (λ n. sum_by length (values_of (remove_entry (is_at (nat_cmp e)) queues.entries)) + n) (length_of (lookup (is_at (nat_cmp e)) queues.entries))
    ∙ sum_by-remove_entry length (is_at (nat_cmp e)) queues.entries

pub taken_weight : (queues after : BTreeMap ℕ (List ℕ)) (e f : ℕ) → e ≡ f → after.entries ≡ remove_entry (is_at (nat_cmp f)) queues.entries → weight after + length (waiting queues e) ≡ weight queues
taken_weight queues after e f same h = taken_at queues after e (h ∙ ap (λ n. remove_entry (is_at (nat_cmp n)) queues.entries) (sym same))

-- ---- the entries of a graph

in-place : {A : Type 0} (x : A) (xs : List A) → In x xs → (i : ℕ) × (slice_get xs i ≡ Some x)
in-place x [] m = absurd m
in-place x (y ∷ ys) (inl e) = (0, ap Some (sym e))
in-place x (y ∷ ys) (inr m) = let w = in-place x ys m in (suc w.0, w.1)

some_in : {A : Type 0} (y x : A) → Some y ≡ Some x → x ≡ y
some_in y x e = cc

place-in : {A : Type 0} (x : A) (xs : List A) (i : ℕ) → slice_get xs i ≡ Some x → In x xs
place-in x [] i h = cc
place-in x (y ∷ ys) zero h = inl (some_in y x h)
place-in x (y ∷ ys) (suc i) h = inr (place-in x ys i h)

named_if : (x : ℕ) (b : Bool) (xs : List ℕ) → In x (if b then xs else []) → (b ≡ true) × In x xs
named_if x true xs m = (refl, m)
named_if x false xs m = absurd m

some_pair : {A : Type 0} (p q : A) → Some p ≡ Some q → p ≡ q
some_pair p q e = cc

or_regroup : (a b c : Bool) → ((a || b) || c) ≡ (a || (b || c))
or_regroup true b c = refl
or_regroup false b c = refl

or_false : (a : Bool) → (a || false) ≡ a
or_false true = refl
or_false false = refl

upward_same : (x : ℕ) (f g : ℕ → List ℕ) → ((y : ℕ) → f y ≡ g y) → upward x f ≡ upward x g
upward_same zero f g h = refl
upward_same (suc x) f g h = ap (λ l. suc x ∷ l) (h (suc x))

module _ (graph : BTreeMap RowKey GraphRow) (ordered : IsOrdered rowkey_cmp graph) (S : State) (drawn : IsGraph graph S) where
  in-got : (k : RowKey) (s : GraphRow) → In (k, s) graph.entries → graph_row_if (row S k) ≡ Some s
  in-got k s m =
      let w = in-place (k, s) graph.entries m in
      sym (drawn.draws k) ∙ btree_map_get_place rowkey_cmp_total graph w.0 k s ordered w.1

  got-in : (k : RowKey) (s : GraphRow) → graph_row_if (row S k) ≡ Some s → In (k, s) graph.entries
  got-in k s h =
      let w = place_from_lookup (is_at (rowkey_cmp k)) graph.entries s (drawn.draws k ∙ h) in
      let same : k ≡ w.1 = rowkey_eq-equal k w.1 (sym (rowkey_eq-cmp k w.1) ∙ w.3) in
      subst (λ q. In (q, s) graph.entries) (sym same) (place-in (w.1, s) graph.entries w.0 w.2)

  -- ---- what is reached

  entry_of : (o : Option Row) (x : ℕ) → graph_row_if o ≡ Some (graph_rows.Entry x) → (held : Held) × (o ≡ Some (rows.Entry held)) × (held.koid ≡ x)
  entry_of (Some (rows.Entry held)) x h = (held, refl, cc)
  entry_of (Some (rows.Counters c)) x h = cc
  entry_of (Some (rows.Object o)) x h = cc
  entry_of (Some (rows.Msg m)) x h = cc
  entry_of (Some (rows.Packet p)) x h = cc
  entry_of (Some (rows.Wait w)) x h = cc
  entry_of None x h = cc

  message_of : (o : Option Row) (xs : List ℕ) → graph_row_if o ≡ Some (graph_rows.Message xs) → (m : MessageContent) × (o ≡ Some (rows.Msg m)) × (xs ≡ map (λ (held : Held). held.koid) m.handles)
  message_of (Some (rows.Msg m)) xs h = (m, refl, cc)
  message_of (Some (rows.Counters c)) x h = cc
  message_of (Some (rows.Object o)) x h = cc
  message_of (Some (rows.Entry held)) x h = cc
  message_of (Some (rows.Packet p)) x h = cc
  message_of (Some (rows.Wait w)) x h = cc
  message_of None x h = cc

  object_of : (o : Option Row) (n : GraphNode) → graph_row_if o ≡ Some (graph_rows.Object n)
      → (row : ObjectRow) × (o ≡ Some (rows.Object row)) × (n ≡ record { kind = row.kind; live = is_live row.life; link = row.link })
  object_of (Some (rows.Object row)) n h = (row, refl, cc)
  object_of (Some (rows.Counters c)) x h = cc
  object_of (Some (rows.Entry o)) x h = cc
  object_of (Some (rows.Msg m)) x h = cc
  object_of (Some (rows.Packet p)) x h = cc
  object_of (Some (rows.Wait w)) x h = cc
  object_of None x h = cc

  root_closed : (f : ℕ → Bool) → HoldsAllNamed S f → (x : ℕ) (k : RowKey) (s : GraphRow) → graph_row_if (row S k) ≡ Some s → root_at (k, s) ≡ Some x → f x ≡ true
  root_closed f closed x (key.Entry p h) (graph_rows.Entry y) there e =
      let w = entry_of (row S (key.Entry p h)) y there in
      ap f (some_in y x e ∙ sym w.2) ∙ closed.entries p h w.0 (ap as_entry w.1)
  root_closed f closed x _ _ there e = cc

  named_closed : (f : ℕ → Bool) → HoldsAllNamed S f → (e x : ℕ) → f e ≡ true → (k : RowKey) (s : GraphRow) → graph_row_if (row S k) ≡ Some s → In x (names_at e (k, s)) → f x ≡ true
  named_closed f closed e x h (key.Msg g n) (graph_rows.Message xs) there m =
      let w = message_of (row S (key.Msg g n)) xs there in
      let o = named_if x (g == e) xs m in
      let one = in-map (λ (held : Held). held.koid) x w.0.handles (subst (λ l. In x l) w.2 o.1) in
      ap f one.2 ∙ all-in (λ (held : Held). f held.koid ≡ true) w.0.handles (closed.messages g n w.0 (ap as_message w.1) (ap f (eqb-true g e o.0) ∙ h)) one.0 one.1
  named_closed f closed e x h _ _ there m = absurd m

  pub closed_under : (f : ℕ → Bool) → HoldsAllNamed S f → IsClosedUnder (roots graph) (names graph) f
  closed_under f closed = record {
    from_start = λ x m. let w = in-filter_map root_at x graph.entries m in root_closed f closed x w.0.0 w.0.1 (in-got w.0.0 w.0.1 w.1) w.2;
    from_next = λ e x h m. let w = in-flat_map (names_at e) x graph.entries m in named_closed f closed e x h w.0.0 w.0.1 (in-got w.0.0 w.0.1 w.1) w.2;
  }

  module _ (wait : ℕ → List ℕ) (set : ℕ → Bool) (ended : IsSearch (roots graph) (names graph) [] wait set) where
    at_last : (x : ℕ) → Known set [] x → set x ≡ true
    at_last x (inl h) = h
    at_last x (inr m) = absurd m

    entries_marked : (p h : ℕ) (held : Held) → entry S p h ≡ Some held → set held.koid ≡ true
    entries_marked p h held e =
        let there : graph_row_if (row S (key.Entry p h)) ≡ Some (graph_rows.Entry held.koid) = ap graph_row_if (entry-row S p h held e) in
        at_last held.koid (ended.begun held.koid (filter_map-in root_at held.koid (key.Entry p h, graph_rows.Entry held.koid) graph.entries (got-in (key.Entry p h) (graph_rows.Entry held.koid) there) refl))

    named_marked : (e x : ℕ) → set e ≡ true → In x (names graph e) → IsOpen (names graph) [] wait set e → set x ≡ true
    named_marked e x h m (inl w) = let no : true ≡ false = sym h ∙ w.0 in cc
    named_marked e x h m (inr o) = at_last x (o.1 x m)

    messages_marked : (e n : ℕ) (m : MessageContent) → message S e n ≡ Some m → set e ≡ true → (held : Held) → In held m.handles → set held.koid ≡ true
    messages_marked e n m there h held l =
        let xs = map (λ (held : Held). held.koid) m.handles in
        let got : graph_row_if (row S (key.Msg e n)) ≡ Some (graph_rows.Message xs) = ap graph_row_if (message-row S e n m there) in
        let named : In held.koid (names_at e (key.Msg e n, graph_rows.Message xs)) =
        subst (λ b. In held.koid (if b then xs else [])) (sym (eq-eqb e e refl)) (map-in (λ (held : Held). held.koid) held m.handles l) in
        named_marked e held.koid h (flat_map-in (names_at e) held.koid (key.Msg e n, graph_rows.Message xs) graph.entries (got-in (key.Msg e n) (graph_rows.Message xs) got) named) (ended.each e)

    marked_closed : HoldsAllNamed S set
    marked_closed = record {
      entries = entries_marked;
      messages = λ e n m there h. in-all (λ (held : Held). set held.koid ≡ true) m.handles (messages_marked e n m there h);
    }

    pub found_reached : (x : ℕ) → set x ≡ among (reached S) x
    found_reached x = same_test (set x) (among (reached S) x)
        (λ h. ended.least (among (reached S)) (closed_under (among (reached S)) (reached-closed S)) x (inl h))
        (λ h. reached-least S set marked_closed x h)

  -- ---- what is above

  link_same : (o : Option Row) → link_of (node_at (graph_row_if o)) ≡ object_link (as_object o)
  link_same (Some (rows.Object row)) = refl
  link_same (Some (rows.Counters c)) = refl
  link_same (Some (rows.Entry o)) = refl
  link_same (Some (rows.Msg m)) = refl
  link_same (Some (rows.Packet p)) = refl
  link_same (Some (rows.Wait w)) = refl
  link_same None = refl

  pub link_drawn : (y : ℕ) → link_of (node graph y) ≡ link_at S y
  link_drawn y = ap (λ o. link_of (node_at o)) (drawn.draws (key.Object y)) ∙ link_same (row S (key.Object y))

  climb_links : (n x : ℕ) → climb n (λ y. link_of (node graph y)) x ≡ links n S x
  unfolding links
  climb_links zero x = refl
  climb_links (suc n) x =
      ap (λ z. upward z (λ y. climb n (λ q. link_of (node graph q)) y)) (link_drawn x)
      ∙ upward_same (link_at S x) (λ y. climb n (λ q. link_of (node graph q)) y) (λ y. links n S y) (λ y. climb_links n y)

  climbed_chain : (x : ℕ) → climbed graph x ≡ chain S x
  unfolding chain
  climbed_chain x = climb_links (x + 1) x

  module _ (known : List ℕ) (reach : ℕ → Bool) (same : (x : ℕ) → reach x ≡ among known x) where
    abbrev over : ℕ → RowKey × GraphRow → Bool
    over y e = is_over graph (keeper_at reach e) y

    abbrev above : ℕ → ℕ × ObjectRow → Bool
    above y e = keeps_above known e && among (chain S e.0) y

    keeps_same : (x : ℕ) (o : ObjectRow) → keeps reach x (record { kind = o.kind; live = is_live o.life; link = o.link }) ≡ keeps_above known (x, o)
    keeps_same x o = ap (λ b. is_live_process o || (is_job o.kind && b)) (same x)

    over_if : (b : Bool) (x y : ℕ) → is_over graph (if b then Some x else None) y ≡ (b && among (climbed graph x) y)
    over_if true x y = refl
    over_if false x y = refl

    over_above : (x y : ℕ) (o : ObjectRow) → over y (key.Object x, graph_rows.Object (record { kind = o.kind; live = is_live o.life; link = o.link })) ≡ above y (x, o)
    over_above x y o =
        over_if (keeps reach x (record { kind = o.kind; live = is_live o.life; link = o.link })) x y
        ∙ ap (λ b. b && among (climbed graph x) y) (keeps_same x o)
        ∙ ap (λ l. keeps_above known (x, o) && among l y) (climbed_chain x)

    from_over : (y : ℕ) (k : RowKey) (s : GraphRow) → graph_row_if (row S k) ≡ Some s → over y (k, s) ≡ true → list_any (above y) (objects S) ≡ true
    unfolding objects
    from_over y (key.Object x) (graph_rows.Object n) there h =
        let w = object_of (row S (key.Object x)) n there in
        list_any-in (above y) (x, w.0) (objects S)
        (filter_map-in object_at (x, w.0) (key.Object x, rows.Object w.0) S.rows (row-in S (key.Object x) (rows.Object w.0) w.1) refl)
        (sym (over_above x y w.0) ∙ ap (λ m. over y (key.Object x, graph_rows.Object m)) (sym w.2) ∙ h)
    from_over y _ _ there h = cc

    from_above : (x y : ℕ) (o : ObjectRow) (e : RowKey × Row) → In e S.rows → object_at e ≡ Some (x, o) → above y (x, o) ≡ true → list_any (over y) graph.entries ≡ true
    from_above x y o (key.Object z, rows.Object p) m at h =
        let pair : (z, p) ≡ (x, o) = some_pair (z, p) (x, o) at in
        let up : above y (z, p) ≡ true = ap (above y) pair ∙ h in
        let drawn_as : GraphRow = graph_rows.Object (record { kind = p.kind; live = is_live p.life; link = p.link }) in
        list_any-in (over y) (key.Object z, drawn_as) graph.entries
        (got-in (key.Object z) drawn_as (ap graph_row_if (in-row S (key.Object z) (rows.Object p) m)))
        (over_above z y p ∙ up)
    from_above x y o _ m at h = cc

    pub all_above : (y : ℕ) → list_any (over y) graph.entries ≡ is_above S known y
    unfolding is_above objects
    all_above y = same_test (list_any (over y) graph.entries) (list_any (above y) (objects S))
        (λ h. let w = in-list_any (over y) graph.entries h in from_over y w.0.0 w.0.1 (in-got w.0.0 w.0.1 w.1) w.2)
        (λ h.
        let w = in-list_any (above y) (objects S) h in
        let o = in-filter_map object_at w.0 S.rows w.1 in
        from_above w.0.0 y w.0.1 o.0 o.1 o.2 w.2)

pub over_none : (a : Bool) (p : RowKey × GraphRow → Bool) (es : List (RowKey × GraphRow)) (b : Bool) → es ≡ [] → (a || list_any p es) ≡ b → a ≡ b
over_none a p es b e h = sym (or_false a) ∙ ap (λ l. a || list_any p l) (sym e) ∙ h

-- ---- climbing

pub climb_first : (n : ℕ) (link : ℕ → ℕ) (x : ℕ) → climb (n + 1) link x ≡ upward (link x) (λ y. climb n link y)
climb_first n link x = let e : n + 1 ≡ suc n = omega arith in ap (λ m. climb m link x) e

pub climb_on : (link : ℕ → ℕ) (at m k y : ℕ) (s : Bool) → (at ≡ 0 → ⊥) → k ≡ suc m
    → ((s || (at == y)) || among (upward (link at) (λ z. climb m link z)) y) ≡ (s || among (upward at (λ z. climb k link z)) y)
climb_on link zero m k y s apart e = absurd (apart refl)
climb_on link (suc a) m k y s apart e =
    or_regroup s (suc a == y) (among (upward (link (suc a)) (λ z. climb m link z)) y)
    ∙ ap (λ n. s || ((suc a == y) || among (climb n link (suc a)) y)) (sym e)

pub climb_ends : (link : ℕ → ℕ) (at k y : ℕ) (s : Bool) → at ≡ 0 → (s || among (upward at (λ z. climb k link z)) y) ≡ s
climb_ends link at k y s e = ap (λ a. s || among (upward a (λ z. climb k link z)) y) e ∙ or_false s

pub climb_last : (link : ℕ → ℕ) (at k y : ℕ) (s : Bool) → (at ≡ 0 → ⊥) → k ≡ 0 → (s || among (upward at (λ z. climb k link z)) y) ≡ (s || (at == y))
climb_last link zero k y s apart e = absurd (apart refl)
climb_last link (suc a) k y s apart e =
    ap (λ n. s || ((suc a == y) || among (climb n link (suc a)) y)) e ∙ ap (λ b. s || b) (or_false (suc a == y))

pub climb_starts : (link : ℕ → ℕ) (x at k y : ℕ) (s : Bool) → at ≡ link x → k ≡ x → (s || among (upward at (λ z. climb k link z)) y) ≡ (s || among (climb (x + 1) link x) y)
climb_starts link x at k y s e f =
    ap (λ a. s || among (upward a (λ z. climb k link z)) y) e
    ∙ ap (λ n. s || among (upward (link x) (λ z. climb n link z)) y) f
    ∙ ap (λ l. s || among l y) (sym (climb_first x link x))

pub climb_goes : (link : ℕ → ℕ) (at next m k y : ℕ) (s more all : Bool) → (at ≡ 0 → ⊥) → k ≡ suc m → more ≡ (s || (at == y)) → next ≡ link at
    → (s || among (upward at (λ z. climb k link z)) y) ≡ all → (more || among (upward next (λ z. climb m link z)) y) ≡ all
climb_goes link at next m k y s more all apart e added linked so_far =
    ap (λ b. b || among (upward next (λ z. climb m link z)) y) added
    ∙ ap (λ a. (s || (at == y)) || among (upward a (λ z. climb m link z)) y) linked
    ∙ climb_on link at m k y s apart e
    ∙ so_far

pub apart_by : (n : ℕ) (b : Bool) → b ≡ (n == 0) → b ≡ false → n ≡ 0 → ⊥
apart_by n b is off e = let t : true ≡ false = sym (eq-eqb n 0 e) ∙ sym is ∙ off in cc

pub apart_when : (n : ℕ) (b : Bool) → b ≡ not (n == 0) → b ≡ true → n ≡ 0 → ⊥
apart_when n b is on e = let t : false ≡ true = sym (ap not (eq-eqb n 0 e)) ∙ sym is ∙ on in cc

unless : (a b : Bool) → b ≡ not a → b ≡ false → a ≡ true
unless true b is off = refl
unless false b is off = let t : true ≡ false = sym is ∙ off in cc

pub none_by : (n : ℕ) (b : Bool) → b ≡ (n == 0) → b ≡ true → n ≡ 0
none_by n b is on = eqb-true n 0 (sym is ∙ on)

pub none_unless : (n : ℕ) (b : Bool) → b ≡ not (n == 0) → b ≡ false → n ≡ 0
none_unless n b is off = eqb-true n 0 (unless (n == 0) b is off)
