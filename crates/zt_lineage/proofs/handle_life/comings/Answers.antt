-- The history goes back along the path, and each moment at which the handle came to its place gives a step.
use Rattle.std.proofs.Common.{◌≡◌, ◌-◌, ◌++◌, suc, take, sym, ◌∙◌, ap, subst, arith}
use Rattle.zt_history.specs.Timeline.{Timeline, IsPath}
use Rattle.std.specs.Prelude.{get_or, [], ◌∷◌}
use Rattle.zt_history.specs.Tree.{Tree, parent_at, state_at}
use Rattle.zt_lineage.specs.declared.origins.Origin.TheVariants.{From}
use Rattle.zt_lineage.specs.Places.{held_at}
use Rattle.zt_lineage.specs.Lives.{comings, held_or, origin_at, step_of}
use Rattle.zt_lineage.proofs.WayLaws.{front}
use Rattle.zt_lineage.proofs.LifeLaws.{moment-at, stands-before, stands-parent, back-stayed, back-from}
use Rattle.zt_lineage.proofs.handle_life.comings.Goals as goal

pub along-requires : goal.along-requires
along-requires c =
    subst (λ (t : Tree). IsPath t.made (take (c.loop-n.n - 1) c.args.way.now)) (sym c.loop-n.invariant.tree)
    (front c.args.history.now.tree.made c.limits.ensures.moments.falls c.args.way.now c.requires.path (c.loop-n.n - 1) (omega (arith, c.loop-n-test.true, c.loop-n.invariant.within, c.requires.within)))

pub origin_at-origin-requires : goal.origin_at-origin-requires
origin_at-origin-requires c =
    stands-parent c.args.history.now.tree.made c.limits.ensures.moments.falls c.args.way.now c.requires.path (c.loop-n.n - 1) c.index-way-n.result (omega (arith, c.loop-n-test.true, c.loop-n.invariant.within, c.requires.within)) c.loop-n.history c.along.new.self (ap (λ (t : Tree). t.made) c.loop-n.invariant.tree) c.along.ensures c.index-way-n.is

pub loop-n-preserved-in-Stayed : goal.loop-n-preserved-in-Stayed
loop-n-preserved-in-Stayed c =
    let one : suc (c.loop-n.n - 1) ≡ c.loop-n.n = omega (arith, c.loop-n-test.true) in
    let same : c.along.new.self.tree ≡ c.args.history.now.tree = ap (λ (h : Timeline). h.tree) c.along.ensures ∙ c.loop-n.invariant.tree in
    record {
      steps =
          sym (back-stayed c.args.history.now.tree.made c.args.way.now (c.loop-n.n - 1) c.loop-n.place c.loop-n.held c.loop-n.list.items c.index-way-n.result
          (moment-at c.args.way.now (c.loop-n.n - 1) c.index-way-n.result (omega (arith, c.loop-n-test.true, c.loop-n.invariant.within, c.requires.within)) c.index-way-n.is)
          (ap (λ (t : Tree). origin_at t.made c.index-way-n.result c.loop-n.place) (sym same) ∙ sym c.origin_at-origin.ensures ∙ c.in-Stayed.is))
          ∙ ap (λ k. c.loop-n.list.items ++ comings c.args.history.now.tree.made c.args.way.now k c.loop-n.place c.loop-n.held) one ∙ c.loop-n.invariant.steps;
      within = omega (arith, c.loop-n.invariant.within);
      tree = same;
    }

pub loop-n-preserved : goal.loop-n-preserved
loop-n-preserved c =
    let one : suc (c.loop-n.n - 1) ≡ c.loop-n.n = omega (arith, c.loop-n-test.true) in
    let same : c.along.new.self.tree ≡ c.args.history.now.tree = ap (λ (h : Timeline). h.tree) c.along.ensures ∙ c.loop-n.invariant.tree in
    let moment : c.index-way-n.result ≡ get_or c.args.way.now (c.loop-n.n - 1) 0 = moment-at c.args.way.now (c.loop-n.n - 1) c.index-way-n.result (omega (arith, c.loop-n-test.true, c.loop-n.invariant.within, c.requires.within)) c.index-way-n.is in
    let there : c.store.result.now.state ≡ state_at c.args.history.now.tree.made (parent_at c.args.history.now.tree.made c.index-way-n.result) =
    stands-before c.args.history.now.tree.made c.limits.ensures.moments.falls c.args.way.now c.requires.path (c.loop-n.n - 1) (omega (arith, c.loop-n-test.true, c.loop-n.invariant.within, c.requires.within)) c.loop-n.history c.along.new.self c.store.result.now.state (ap (λ (t : Tree). t.made) c.loop-n.invariant.tree) c.along.ensures c.store.ensures.state
    ∙ ap (λ q. state_at c.args.history.now.tree.made (parent_at c.args.history.now.tree.made q)) (sym moment) in
    record {
      steps =
          ap (λ l. l ++ comings c.args.history.now.tree.made c.args.way.now (c.loop-n.n - 1) c.in-From.other c.held_or-held.result)
          (c.in_ok-push-in-From.ensures.items
          ∙ ap (λ s. c.loop-n.list.items ++ s ∷ []) (c.step_of-in-From.ensures ∙ ap (step_of c.index-way-n.result c.loop-n.place c.loop-n.held) c.in-From.is))
          ∙ ap (λ h. (c.loop-n.list.items ++ step_of c.index-way-n.result c.loop-n.place c.loop-n.held (From c.in-From.other) ∷ []) ++ comings c.args.history.now.tree.made c.args.way.now (c.loop-n.n - 1) c.in-From.other h)
          (c.held_or-held.ensures ∙ ap (held_or c.loop-n.held) (c.held_at-before.ensures ∙ ap (λ S. held_at S c.in-From.other) there))
          ∙ sym (back-from c.args.history.now.tree.made c.args.way.now (c.loop-n.n - 1) c.loop-n.place c.loop-n.held c.loop-n.list.items c.index-way-n.result moment c.in-From.other
          (ap (λ (t : Tree). origin_at t.made c.index-way-n.result c.loop-n.place) (sym same) ∙ sym c.origin_at-origin.ensures ∙ c.in-From.is))
          ∙ ap (λ k. c.loop-n.list.items ++ comings c.args.history.now.tree.made c.args.way.now k c.loop-n.place c.loop-n.held) one ∙ c.loop-n.invariant.steps;
      within = omega (arith, c.loop-n.invariant.within);
      tree = same;
    }
