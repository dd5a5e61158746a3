-- A row of another key is passed; the first of this key is the one.
use Rattle.std.proofs.Common.{◌≡◌, sym, ◌∙◌, ap, true, false}
use Rattle.zt_rows.specs.declared.keys.RowKey.TheVariants as key
use Rattle.zt_rows.specs.Keys.{rowkey_eq}
use Rattle.zt_rows.specs.Reads.{as_object}
use Rattle.zt_queries.proofs.FrozenLaws.{passed, stands, nowhere}
use Rattle.zt_queries.proofs.row_list.object_among.Goals as goal

pub loop-key-preserved : goal.loop-key-preserved
loop-key-preserved c =
    let other : rowkey_eq c.loop-key-item.result.0 (key.Object c.args.koid) ≡ false = sym c.eq.ensures ∙ c.if-eq.false in
    passed (key.Object c.args.koid) c.args.rows.now c.loop-key.key-index c.loop-key-item.result _ c.loop-key-test.true c.loop-key-item.is other c.loop-key.invariant

pub returns-then-eq : goal.returns-then-eq
returns-then-eq c =
    let same : rowkey_eq c.loop-key-item.result.0 (key.Object c.args.koid) ≡ true = sym c.eq.ensures ∙ c.if-eq.true in
    (c.copied.ensures ∙ c.as_object.ensures)
    ∙ ap as_object (stands (key.Object c.args.koid) c.args.rows.now c.loop-key.key-index c.loop-key-item.result _ c.loop-key-test.true c.loop-key-item.is same c.loop-key.invariant)

pub returns : goal.returns
returns c = ap as_object (nowhere (key.Object c.args.koid) c.args.rows.now c.loop-key.key-index _ c.loop-key-test.false c.loop-key.invariant)
