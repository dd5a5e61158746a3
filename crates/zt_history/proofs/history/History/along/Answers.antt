-- The next moment of the way is made at the position; in the end the position's path is the way.
use Rattle.std.proofs.Common.{◌≡◌, ◌+◌, suc, length, take, refl, ◌∙◌, ap, arith}
use Rattle.std.specs.Prelude.{slice_get, Some}
use Rattle.std.proofs.lemmas.Option.{slice_get_read}
use Rattle.zt_history.specs.Tree.{path, parent_at}
use Rattle.zt_history.specs.Timeline.{Timeline, moved_to}
use Rattle.zt_history.proofs.WayLaws.{way-at, way-within, way-later, way-next, way-done, moved-again}
use Rattle.zt_history.proofs.history.History.along.Goals as goal

next_there : (c : goal.After-index-way-place) → slice_get c.args.way.now c.loop-place.place ≡ Some c.index-way-place.result
next_there c = slice_get_read c.args.way.now (length c.args.way.now) c.loop-place.place c.index-way-place.result refl c.loop-place-test.true c.index-way-place.is

pub redo_moment-requires-clause-some : goal.redo_moment-requires-clause-some
redo_moment-requires-clause-some c =
    way-later c.args.self.now.tree.made c.back_to-shared.ensures.falls c.args.way.now c.requires c.loop-place.place c.index-way-place.result (next_there c)

pub redo_moment-requires-clause-there : goal.redo_moment-requires-clause-there
redo_moment-requires-clause-there c =
    omega (
      arith,
      way-within c.args.self.now.tree.made c.back_to-shared.ensures.falls c.args.way.now c.requires c.loop-place.place c.index-way-place.result (next_there c),
      ap (λ (h : Timeline). length h.tree.made) c.loop-place.invariant.moved,
    )

pub redo_moment-requires-clause-next : goal.redo_moment-requires-clause-next
redo_moment-requires-clause-next c =
    ap (λ (h : Timeline). parent_at h.tree.made c.index-way-place.result) c.loop-place.invariant.moved
    ∙ way-next c.args.self.now.tree.made c.back_to-shared.ensures.falls c.args.way.now c.requires c.loop-place.place c.index-way-place.result c.loop-place.self.position (next_there c) c.loop-place.invariant.so_far

pub loop-place-preserved : goal.loop-place-preserved
loop-place-preserved c =
    let there : slice_get c.args.way.now c.loop-place.place ≡ Some c.index-way-place.result =
    slice_get_read c.args.way.now (length c.args.way.now) c.loop-place.place c.index-way-place.result refl c.loop-place-test.true c.index-way-place.is in
    let more : suc c.loop-place.place ≡ c.loop-place.place + 1 = omega arith in
    record {
      moved = moved-again c.args.self.now c.loop-place.self c.redo_moment.new.self c.index-way-place.result c.loop-place.invariant.moved c.redo_moment.ensures;
      so_far =
          ap (λ (h : Timeline). path c.args.self.now.tree.made h.position) c.redo_moment.ensures
          ∙ way-at c.args.self.now.tree.made c.back_to-shared.ensures.falls c.args.way.now c.requires c.loop-place.place c.index-way-place.result there
          ∙ ap (λ n. take n c.args.way.now) more;
    }

pub returns : goal.returns
returns c =
    let whole : c.loop-place.place ≡ length c.args.way.now = omega (arith, c.loop-place-test.false, c.loop-place.auto.place-end, c.back_to-shared.ensures.within) in
    c.loop-place.invariant.moved
    ∙ ap (moved_to c.args.self.now) (way-done c.args.self.now.tree.made c.back_to-shared.ensures.falls c.args.way.now c.loop-place.self.position c.loop-place.place c.loop-place.invariant.so_far whole)
