-- Under the key stands what is put there, and under all others what stood there.
use Rattle.std.proofs.Common.{sym, ap, ◌∙◌, cond}
use Rattle.std.specs.Prelude.{None, Some}
use Rattle.std.specs.BTreeMap.{get}
use Rattle.zt_rows.specs.Keys.{rowkey_cmp, rowkey_eq}
use Rattle.zt_rows.specs.ProofsOnly.KeyOrder.{rowkey_eq-cmp}
use Rattle.zt_queries.proofs.leak_graph.graph.place.Goals as goal

pub returns-in_ok-insert-in-Some-clause-placed : goal.returns-in_ok-insert-in-Some-clause-placed
returns-in_ok-insert-in-Some-clause-placed c = λ q.
    c.in_ok-insert-in-Some.ensures.updates.0 q
    ∙ (ap (λ b. cond b (Some c.in-Some.drawn) (get rowkey_cmp c.args.graph.now q)) (rowkey_eq-cmp c.args.key q)
    ∙ ap (λ o. cond (rowkey_eq c.args.key q) o (get rowkey_cmp c.args.graph.now q)) (sym c.in-Some.is))

pub returns-in-None-clause-placed : goal.returns-in-None-clause-placed
returns-in-None-clause-placed c = λ q.
    c.remove.ensures.updates.0 q
    ∙ (ap (λ b. cond b None (get rowkey_cmp c.args.graph.now q)) (rowkey_eq-cmp c.args.key q)
    ∙ ap (λ o. cond (rowkey_eq c.args.key q) o (get rowkey_cmp c.args.graph.now q)) (sym c.in-None.is))
