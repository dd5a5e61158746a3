-- The calls of a log in turn.
use Rattle.std.proofs.Common.{◌≡◌, ◌+◌, suc, get_or, take, Some, sym, ◌∙◌, ap, subst, arith}
use Rattle.std.specs.Prelude.{slice_get}
use Rattle.zt_import.specs.ProofsOnly.TakenCalls.{HasRun, IsRunOf, Leaves, TakenView}
use Rattle.zt_import.proofs.ComparedLaws.{take-all}
use Rattle.zt_import.proofs.ImportLaws.{none-run, nothing-left, run_of}
use Rattle.zt_import.proofs.OrderLaws.{order-at, order-within}
use Rattle.zt_import.proofs.TextLaws.{take-none, take-next}
use Rattle.zt_import.proofs.run_log.run_all.Goals as goal

pub loop-place-init : goal.loop-place-init
loop-place-init c = (
  subst (λ done. HasRun c.args.calls.now done c.adopt_all.new.taken c.adopt_all.new.numbers.processes) (sym (take-none c.args.order.now))
      (none-run c.args.calls.now c.args.taken.now c.adopt_all.new.taken c.new-numbers.result.processes c.adopt_all.new.numbers.processes
      c.requires.opening c.new-numbers.ensures c.in-Ok.ensures),
  nothing-left c.args.calls.now c.args.taken.now c.adopt_all.new.taken c.new-numbers.result.processes c.adopt_all.new.numbers.processes
      c.args.left.now.items c.requires.opening c.requires.none c.in-Ok.ensures,
)

pub run_one-requires : goal.run_one-requires
run_one-requires c = order-within c.args.calls.now c.args.order.now c.loop-place.place c.requires.order c.loop-place-test.true

pub loop-place-preserved : goal.loop-place-preserved
loop-place-preserved c =
    let next : c.loop-place.place + 1 ≡ suc c.loop-place.place = omega arith in
    let index = get_or c.args.order.now c.loop-place.place 0 in
    let found : slice_get c.args.order.now c.loop-place.place ≡ Some index = order-at c.args.order.now c.loop-place.place c.loop-place-test.true in (
      subst (λ done. HasRun c.args.calls.now done c.run_one.new.taken c.run_one.new.numbers.processes)
          (sym (ap (λ n. take n c.args.order.now) next ∙ take-next c.args.order.now c.loop-place.place index found))
          (c.in-Ok-run_one.ensures.run (take c.loop-place.place c.args.order.now) c.loop-place.invariant.0),
      c.in-Ok-run_one.ensures.left c.loop-place.invariant.1,
    )

pub returns : goal.returns
returns c = record {
  run =
      subst (λ view. IsRunOf c.args.calls.now view) (sym c.keep.ensures)
      (run_of c.args.calls.now c.args.order.now c.loop-place.taken c.loop-place.numbers.processes c.requires.order
      (subst (λ done. HasRun c.args.calls.now done c.loop-place.taken c.loop-place.numbers.processes)
      (take-all c.loop-place.place c.args.order.now (omega (arith, c.loop-place-test.false))) c.loop-place.invariant.0));
  left =
      subst (λ (view : TakenView). Leaves c.args.calls.now view.tree.made view.trail c.loop-place.left.items) (sym c.keep.ensures)
      c.loop-place.invariant.1;
}
