-- The graph in which leaks are looked for: of each row no more than what leaks hang on, and what the rows of the graph
-- name. This project's own. Used by proofs only.
use Rattle.std.specs.Prelude.{◌≡◌, ℕ, zero, suc, ◌+◌, Bool, false, ◌==◌, ◌&&◌, ◌||◌, not, if◌then◌else◌, List, [], map, length, Option, None, Some, unwrap_or}
use Rattle.std.specs.List.{filter_map, flat_map, sum_by}
use Rattle.std.specs.Ordering.{nat_cmp}
use Rattle.std.specs.BTreeMap.{BTreeMap, get, values}
use Rattle.zt_bits.specs.declared.kinds.Kind.{Kind}
use Rattle.zt_rows.specs.declared.keys.RowKey.{RowKey}
use Rattle.zt_rows.specs.declared.keys.RowKey.TheVariants as key
use Rattle.zt_rows.specs.declared.rows.Row.{Row}
use Rattle.zt_rows.specs.declared.rows.Row.TheVariants as rows
use Rattle.zt_rows.specs.Keys.{rowkey_cmp}
use Rattle.zt_rows.specs.State.{State, row}
use Rattle.zt_rows.specs.Reads.{is_job, is_live, is_process}
use Rattle.zt_rows.specs.Support.{root_job}
use Rattle.zt_rows.specs.Tests.{among}
use Rattle.zt_rows.specs.End.{upward}
use Rattle.zt_queries.specs.declared.leak_graph.graph.GraphNode.{GraphNode}
use Rattle.zt_queries.specs.declared.leak_graph.graph.GraphRow.{GraphRow}
use Rattle.zt_queries.specs.declared.leak_graph.graph.GraphRow.TheVariants as graph_rows

-- ---- the graph of a state

-- what leaks hang on in a row, if anything; beside it the next koid
abbrev pub graph_row : Row → Option GraphRow
graph_row (rows.Counters c) = Some (graph_rows.Counters c.next_koid)
graph_row (rows.Object o) = Some (graph_rows.Object (record { kind = o.kind; live = is_live o.life; link = o.link }))
graph_row (rows.Entry held) = Some (graph_rows.Entry held.koid)
graph_row (rows.Msg m) = Some (graph_rows.Message (map (λ held. held.koid) m.handles))
graph_row _ = None

abbrev pub graph_row_if : Option Row → Option GraphRow
graph_row_if (Some r) = graph_row r
graph_row_if None = None

-- what the record has under a key, or else the same
abbrev pub held_over : Option (Option Row) → Option GraphRow → Option GraphRow
held_over (Some r) s = graph_row_if r
held_over None s = s

-- the first, or else the second
abbrev pub first_of : Option GraphRow → Option GraphRow → Option GraphRow
first_of (Some s) t = Some s
first_of None t = t

-- under each key there is what leaks hang on in the row of the state
pub record IsGraph (graph : BTreeMap RowKey GraphRow) (S : State) : Type 0 where
  pub draws : (k : RowKey) → get rowkey_cmp graph k ≡ graph_row_if (row S k)

-- ---- what its rows name

-- what an entry names
abbrev pub root_at : RowKey × GraphRow → Option ℕ
root_at (key.Entry p h, graph_rows.Entry x) = Some x
root_at _ = None

-- what a message at this endpoint names
abbrev pub names_at : ℕ → RowKey × GraphRow → List ℕ
names_at e (key.Msg f n, graph_rows.Message xs) = if f == e then xs else []
names_at e _ = []

abbrev pub roots : BTreeMap RowKey GraphRow → List ℕ
roots graph = filter_map root_at graph.entries

-- what the messages at this endpoint name
abbrev pub names : BTreeMap RowKey GraphRow → ℕ → List ℕ
names graph e = flat_map (names_at e) graph.entries

-- the names that the map of queues keeps under the endpoint, none where it keeps nothing
abbrev pub waiting : BTreeMap ℕ (List ℕ) → ℕ → List ℕ
waiting queues e = unwrap_or (get nat_cmp queues e) []

-- how many names are kept
abbrev pub weight : BTreeMap ℕ (List ℕ) → ℕ
weight queues = sum_by length (values queues)

-- ---- what is above

abbrev pub node_at : Option GraphRow → Option GraphNode
node_at (Some (graph_rows.Object node)) = Some node
node_at _ = None

abbrev pub link_of : Option GraphNode → ℕ
link_of (Some node) = node.link
link_of None = 0

-- the object of this koid in the graph
abbrev pub node : BTreeMap RowKey GraphRow → ℕ → Option GraphNode
node graph x = node_at (get rowkey_cmp graph (key.Object x))

-- the koids that one comes to from x by such links, at most so many of them
abbrev pub climb : ℕ → (ℕ → ℕ) → ℕ → List ℕ
climb zero link x = []
climb (suc n) link x = upward (link x) (λ y. climb n link y)

-- all that is above x
abbrev pub climbed : BTreeMap RowKey GraphRow → ℕ → List ℕ
climbed graph x = climb (x + 1) (λ y. link_of (node graph y)) x

-- a live process, or a job that is known to be reached
abbrev pub keeps : (ℕ → Bool) → ℕ → GraphNode → Bool
keeps known x o = (is_process o.kind && o.live) || (is_job o.kind && known x)

-- the koid under which one that keeps what is above it stands
abbrev pub keeper_at : (ℕ → Bool) → RowKey × GraphRow → Option ℕ
keeper_at known (key.Object x, graph_rows.Object o) = if keeps known x o then Some x else None
keeper_at known _ = None

-- y is above the one of this koid
abbrev pub is_over : BTreeMap RowKey GraphRow → Option ℕ → ℕ → Bool
is_over graph (Some x) y = among (climbed graph x) y
is_over graph None y = false

-- ---- what is found

-- the object is not reached, and nothing keeps it
abbrev pub is_left : (ℕ → Bool) → (ℕ → Bool) → ℕ → Option GraphNode → Bool
is_left reached above x (Some o) = not (reached x || ((x == root_job) || (is_process o.kind && o.live) || above x))
is_left reached above x None = false

abbrev pub left_node : (ℕ → Bool) → (ℕ → Bool) → ℕ → Option GraphNode → Option (ℕ × Kind)
left_node reached above x (Some o) = if is_left reached above x (Some o) then Some (x, o.kind) else None
left_node reached above x None = None

-- the object of this key with its kind, where nothing keeps it
abbrev pub left_at : BTreeMap RowKey GraphRow → (ℕ → Bool) → (ℕ → Bool) → RowKey → Option (ℕ × Kind)
left_at graph reached above (key.Object x) = left_node reached above x (node graph x)
left_at graph reached above _ = None
