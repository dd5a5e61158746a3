-- One graph row after another.
use Rattle.std.specs.BTreeMap.{get}
use Rattle.zt_rows.specs.Keys.{rowkey_cmp}
use Rattle.zt_queries.proofs.GraphLaws.{copied_more}
use Rattle.zt_queries.proofs.leak_graph.graph.copy_of.Goals as goal

pub loop-key-preserved : goal.loop-key-preserved
loop-key-preserved c =
    λ q.
    copied_more (get rowkey_cmp c.loop-key.copied q) (get rowkey_cmp c.put_copy.new.copied q) c.in-Some.key.now q c.in-Some.graph_row.now c.loop-key.key-iterator _ (get rowkey_cmp c.args.graph.now q)
    c.in-Some.ensures.steps (c.loop-key.invariant q) (c.in_ok-put_copy.ensures q)
