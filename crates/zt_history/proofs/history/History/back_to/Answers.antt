-- While the position is not the moment of the way at its depth, it is not on the way.
use Rattle.std.proofs.Common.{◌≡◌, ◌-◌, suc, take, refl, ◌∙◌, ap, arith}
use Rattle.std.specs.Prelude.{slice_get, Some}
use Rattle.std.proofs.lemmas.Option.{slice_get_within}
use Rattle.zt_history.proofs.WayLaws.{way-at, later-path, moved-again, depth-back}
use Rattle.zt_history.proofs.history.History.back_to.Goals as goal

pub undo_moment-requires : goal.undo_moment-requires
undo_moment-requires c =
    later-path c.args.self.now.tree.made c.loop-depth.self.position (omega (arith, c.loop-depth-test.true, c.loop-depth.invariant.depth))

pub loop-depth-preserved : goal.loop-depth-preserved
loop-depth-preserved c = record {
  moved = moved-again c.args.self.now c.loop-depth.self c.undo_moment.new.self _ c.loop-depth.invariant.moved c.undo_moment.ensures;
  depth = depth-back c.args.self.now c.loop-depth.self c.undo_moment.new.self c.loop-depth.depth c.loop-depth.invariant.falls c.loop-depth.invariant.moved c.undo_moment.ensures c.loop-depth.invariant.depth c.loop-depth-test.true;
  falls = c.loop-depth.invariant.falls;
}

shared_at : (c : goal.Else-not-is_at) → slice_get c.args.way.now (c.loop-depth.depth - 1) ≡ Some c.loop-depth.self.position
shared_at c = c.if-not-is_at.ensures.0 refl ∙ ap Some c.position.ensures.position

pub returns-else-not-is_at-clause-within : goal.returns-else-not-is_at-clause-within
returns-else-not-is_at-clause-within c =
    omega (arith, slice_get_within c.args.way.now (c.loop-depth.depth - 1) c.loop-depth.self.position (shared_at c))

pub returns-else-not-is_at-clause-shared : goal.returns-else-not-is_at-clause-shared
returns-else-not-is_at-clause-shared c =
    let depth : suc (c.loop-depth.depth - 1) ≡ c.loop-depth.depth = omega (arith, c.loop-depth-test.true) in
    way-at c.args.self.now.tree.made c.loop-depth.invariant.falls c.args.way.now c.requires (c.loop-depth.depth - 1) c.loop-depth.self.position (shared_at c)
    ∙ ap (λ n. take n c.args.way.now) depth
