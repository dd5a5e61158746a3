-- The history goes along the path, moment by moment.
use Rattle.std.proofs.Common.{◌+◌, ◌++◌, ◌∷◌, [], take, sym, ◌∙◌, ap, subst}
use Rattle.zt_history.specs.Timeline.{IsPath}
use Rattle.zt_history.specs.Tree.{Tree}
use Rattle.zt_look.specs.CallList.{asked_among}
use Rattle.zt_look.proofs.CallLaws.{prefix-path, asked-more}
use Rattle.zt_look.proofs.call_list.calls_over.Goals as goal

pub push_last-requires-clause-path : goal.push_last-requires-clause-path
push_last-requires-clause-path c =
    subst (λ (t : Tree). IsPath t.made (take (c.loop-place.place + 1) c.args.way.now)) (sym c.loop-place.invariant.tree)
    (prefix-path c.args.history.now.tree.made c.limits.ensures.tree.moments.falls c.args.way.now c.requires c.loop-place.place c.loop-place-test.true)

pub loop-place-preserved : goal.loop-place-preserved
loop-place-preserved c =
    record {
      listed =
          asked-more c.args.history.now.tree.made c.args.asked.now c.args.way.now c.loop-place.place c.index-way-place.result c.loop-place.list.items
          c.push_last.new.list.items c.loop-place-test.true c.index-way-place.is c.loop-place.invariant.listed
          (c.in_ok-push_last.ensures.list ∙ ap (λ (t : Tree). c.loop-place.list.items ++ asked_among t.made c.args.asked.now (c.index-way-place.result ∷ [])) c.loop-place.invariant.tree);
      tree = c.push_last.ensures.tree ∙ c.loop-place.invariant.tree;
    }
