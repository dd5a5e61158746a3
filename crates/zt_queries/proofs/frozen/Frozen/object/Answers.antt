-- The row under the object's key is the one that is found among the rows.
use Rattle.std.proofs.Common.{sym, ◌∙◌, ap}
use Rattle.std.specs.FinMap.Entries as entries
use Rattle.zt_rows.specs.declared.keys.RowKey.TheVariants as key
use Rattle.zt_rows.specs.Keys.{rowkey_cmp}
use Rattle.zt_rows.specs.Reads.{as_object}
use Rattle.zt_rows.proofs.StateLaws.{row-rows}
use Rattle.zt_queries.proofs.frozen.Frozen.object.Goals as goal

pub returns : goal.returns
returns c =
    c.object_among.ensures
    ∙ ap (λ es. as_object (entries.find rowkey_cmp (key.Object c.args.koid) es)) c.rows.ensures
    ∙ ap as_object (sym (row-rows c.args.self.now.state (key.Object c.args.koid)))
