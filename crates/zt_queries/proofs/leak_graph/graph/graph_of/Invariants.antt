-- The graph has what stands under the keys so far.
use Rattle.std.proofs.Common.{◌≡◌, take}
use Rattle.std.specs.BTreeMap.{get}
use Rattle.zt_rows.specs.declared.keys.RowKey.{RowKey}
use Rattle.zt_rows.specs.Keys.{rowkey_cmp}
use Rattle.zt_queries.proofs.GraphLaws.{drawn}
use Rattle.zt_queries.proofs.leak_graph.graph.graph_of.Given as goal

abbrev pub invariant-loop-key : goal.invariant-loop-key
invariant-loop-key l = (q : RowKey) → get rowkey_cmp l.graph q ≡ drawn l.store.state (take l.key-index l.key-items) q
