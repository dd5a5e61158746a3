-- One moment more is made, and taken from the end.
use Rattle.zt_book.specs.SavedSessions.{in_turn, with_moment}
use Rattle.zt_book.proofs.TurnLaws.{others-left, turn-last}
use Rattle.zt_book.proofs.loaded_tree.put_moments.Goals as goal

pub loop-place-preserved : goal.loop-place-preserved
loop-place-preserved g c = record {
  so_far =
      turn-last with_moment c.args.moments.items c.loop-place.left.items c.pop.new.self.items c.in-Some.saved c.loop-place.place c.in-Some.ensures.items c.loop-place.invariant.others
      0 c.loop-place.history.tree c.make_at.new.history.tree (in_turn with_moment 0 c.args.history.now.tree c.args.moments.items) c.in-Ok.ensures.ok c.loop-place.invariant.so_far;
  others =
      others-left with_moment c.args.moments.items c.loop-place.left.items c.pop.new.self.items c.in-Some.saved c.loop-place.place c.in-Some.ensures.items c.loop-place.invariant.others
      c.give_back.new.list.items c.give_back.ensures;
}
