-- One key more.
use Rattle.zt_rows.specs.declared.keys.RowKey.{RowKey}
use Rattle.zt_rows.specs.declared.rows.Row.{Row}
use Rattle.zt_queries.proofs.FrozenLaws.{mapped_more}
use Rattle.zt_queries.proofs.row_list.keys_among.Goals as goal

pub loop-key-preserved : goal.loop-key-preserved
loop-key-preserved c =
    mapped_more (λ (e : RowKey × Row). e.0) c.args.rows.now c.loop-key.key-index c.loop-key-item.result c.loop-key.list.items c.push.new.self.items
    c.loop-key-test.true c.loop-key-item.is c.loop-key.invariant c.in_ok-push.ensures.items
