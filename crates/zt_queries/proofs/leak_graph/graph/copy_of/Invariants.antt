-- What is copied, or else what the rest has, is what all has.
use Rattle.std.proofs.Common.{◌≡◌}
use Rattle.std.specs.BTreeMap.{get}
use Rattle.zt_rows.specs.declared.keys.RowKey.{RowKey}
use Rattle.zt_rows.specs.Keys.{rowkey_cmp}
use Rattle.zt_queries.specs.ProofsOnly.LeakGraph.{first_of}
use Rattle.zt_queries.proofs.GraphLaws.{from_rest}
use Rattle.zt_queries.proofs.leak_graph.graph.copy_of.Given as goal

abbrev pub invariant-loop-key : goal.invariant-loop-key
invariant-loop-key l = (q : RowKey) → first_of (get rowkey_cmp l.copied q) (from_rest l.key-iterator q) ≡ get rowkey_cmp l.graph q
