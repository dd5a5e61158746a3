-- One call more is loaded, or it is the first that is refused.
use Rattle.std.proofs.Common.{◌≡◌, ◌+◌, suc, false, subst, sym, arith}
use Rattle.zt_book.specs.Log.{loaded, IsUnloadedBy}
use Rattle.zt_book.proofs.LoadLaws.{branches-called, loaded-so-far, unloaded-so-far}
use Rattle.zt_book.proofs.loaded_history.history_of.Goals as goal

pub returns-in-Err-clause-refused : goal.returns-in-Err-clause-refused
returns-in-Err-clause-refused c =
    subst (IsUnloadedBy false (loaded c.args.calls.now)) (sym c.fault.ensures)
    (unloaded-so-far c.args.calls.now c.loop-i.i c.loop-i.history.tree c.index-calls-i.result c.in-Err.refusal c.loop-i-test.true c.index-calls-i.is
    c.in-Err.ensures.refused c.loop-i.invariant.so_far)

pub loop-i-preserved : goal.loop-i-preserved
loop-i-preserved c =
    let next : c.loop-i.i + 1 ≡ suc c.loop-i.i = omega arith in
    record {
      main = omega (
        arith,
        c.loop-i.invariant.main,
        branches-called c.loop-i.history.tree 0 c.index-calls-i.result.0 c.index-calls-i.result.1 _ c.in-Ok-call.ensures.ok,
      );
      so_far =
          loaded-so-far c.args.calls.now c.loop-i.i (c.loop-i.i + 1) c.loop-i.history.tree c.call.new.self.tree c.index-calls-i.result _
          c.loop-i-test.true next c.index-calls-i.is c.in-Ok-call.ensures.ok c.loop-i.invariant.so_far;
    }
