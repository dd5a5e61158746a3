-- The graph has what stands under the keys of the rows so far.
use Rattle.std.proofs.Common.{◌≡◌, map, take}
use Rattle.std.specs.BTreeMap.{get}
use Rattle.zt_rows.specs.declared.keys.RowKey.{RowKey}
use Rattle.zt_rows.specs.Keys.{rowkey_cmp}
use Rattle.zt_queries.proofs.GraphLaws.{drawn}
use Rattle.zt_queries.proofs.leak_graph.graph.frozen_graph.Given as goal

abbrev pub invariant-loop-key : goal.invariant-loop-key
invariant-loop-key l = (q : RowKey) → get rowkey_cmp l.graph q ≡ drawn l.frozen.state (take l.key-index (map (λ e. e.0) l.key-items)) q
