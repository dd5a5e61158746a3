-- The history goes back along the path until its state holds a handle at the place.
use Rattle.std.proofs.Common.{◌+◌, ◌-◌, take, refl, sym, ◌∙◌, ap, subst, arith}
use Rattle.std.specs.Prelude.{None, Some}
use Rattle.zt_history.specs.Timeline.{Timeline, IsPath}
use Rattle.zt_history.specs.Tree.{Tree}
use Rattle.zt_lineage.proofs.WayLaws.{front, front-one}
use Rattle.zt_lineage.proofs.LifeLaws.{state-here, stands-behind, held-found, held-before, held-first}
use Rattle.zt_lineage.proofs.handle_life.last_held.Goals as goal

pub along-requires : goal.along-requires
along-requires c =
    subst (λ (t : Tree). IsPath t.made (take (c.loop-n.n - 1 + 1) c.args.way.now)) (sym c.loop-n.invariant.tree)
    (front-one c.args.history.now.tree.made c.limits.ensures.moments.falls c.args.way.now c.requires (c.loop-n.n - 1) (omega (arith, c.loop-n-test.true, c.loop-n.auto.n)))

pub returns-in-Some-clause-held : goal.returns-in-Some-clause-held
returns-in-Some-clause-held c =
    held-found c.args.history.now.tree.made c.args.way.now c.args.place.now c.loop-n.n c.loop-n.invariant.held c.store.result.now.state c.in-Some.held (omega (arith, c.loop-n-test.true))
    (stands-behind c.args.history.now.tree.made c.limits.ensures.moments.falls c.args.way.now c.requires (c.loop-n.n - 1) (omega (arith, c.loop-n-test.true, c.loop-n.auto.n)) c.loop-n.history c.along.new.self c.store.result.now.state (ap (λ (t : Tree). t.made) c.loop-n.invariant.tree) c.along.ensures c.store.ensures.state)
    (sym c.in-Some.is ∙ c.held_at.ensures)

pub loop-n-preserved : goal.loop-n-preserved
loop-n-preserved c = record {
  held =
      held-before c.args.history.now.tree.made c.args.way.now c.args.place.now c.loop-n.n c.loop-n.invariant.held c.store.result.now.state (omega (arith, c.loop-n-test.true))
      (stands-behind c.args.history.now.tree.made c.limits.ensures.moments.falls c.args.way.now c.requires (c.loop-n.n - 1) (omega (arith, c.loop-n-test.true, c.loop-n.auto.n)) c.loop-n.history c.along.new.self c.store.result.now.state (ap (λ (t : Tree). t.made) c.loop-n.invariant.tree) c.along.ensures c.store.ensures.state)
      (sym c.in_default.is ∙ c.held_at.ensures);
  tree = ap (λ (h : Timeline). h.tree) c.along.ensures ∙ c.loop-n.invariant.tree;
}

pub along-requires-2 : goal.along-requires-2
along-requires-2 c =
    subst (λ (t : Tree). IsPath t.made (take 0 c.args.way.now)) (sym c.loop-n.invariant.tree) (front c.args.history.now.tree.made c.limits.ensures.moments.falls c.args.way.now c.requires 0 (omega arith))

pub returns-in-Some-held_at-clause-held : goal.returns-in-Some-held_at-clause-held
returns-in-Some-held_at-clause-held c =
    held-first c.args.history.now.tree.made c.args.way.now c.args.place.now c.loop-n.n c.loop-n.invariant.held c.store-2.result.now.state (Some c.in-Some-held_at.held) (omega (arith, c.loop-n-test.false))
    (state-here c.loop-n.history c.along-2.new.self 0 0 c.args.history.now.tree.made c.store-2.result.now.state c.along-2.ensures (ap (λ (t : Tree). t.made) c.loop-n.invariant.tree) refl c.store-2.ensures.state)
    (sym c.in-Some-held_at.is ∙ c.held_at-2.ensures)

pub returns-in-None-clause-held : goal.returns-in-None-clause-held
returns-in-None-clause-held c =
    held-first c.args.history.now.tree.made c.args.way.now c.args.place.now c.loop-n.n c.loop-n.invariant.held c.store-2.result.now.state None (omega (arith, c.loop-n-test.false))
    (state-here c.loop-n.history c.along-2.new.self 0 0 c.args.history.now.tree.made c.store-2.result.now.state c.along-2.ensures (ap (λ (t : Tree). t.made) c.loop-n.invariant.tree) refl c.store-2.ensures.state)
    (sym c.in-None.is ∙ c.held_at-2.ensures)
