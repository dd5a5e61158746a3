-- One key after another.
use Rattle.std.proofs.Common.{◌+◌, ◌++◌, ◌∷◌, [], take, sym, ◌∙◌, ap}
use Rattle.std.proofs.lemmas.List.{take_more}
use Rattle.zt_look.proofs.SearchLaws.{seeded-on}
use Rattle.zt_look.proofs.unleaked_search.search_from.Goals as goal

pub loop-key-preserved : goal.loop-key-preserved
loop-key-preserved c =
    seeded-on c.args.store.now.state c.args.kept.now (take c.loop-key.key-index c.args.all.now) (take (c.loop-key.key-index + 1) c.args.all.now) c.key-item.result
    c.args.search.now c.loop-key.search c.add_by.new.search (take_more c.args.all.now c.loop-key.key-index c.key-item.result c.loop-key-test.true ∙ ap (λ k. take c.loop-key.key-index c.args.all.now ++ k ∷ []) (sym c.key-item.is)) c.loop-key.invariant c.in_ok-add_by.ensures
