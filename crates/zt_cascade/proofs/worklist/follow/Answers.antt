use Rattle.std.proofs.Common.{sym, ◌∙◌}
use Rattle.zt_store.proofs.AheadLaws.{ahead-itself, ahead-then}
use Rattle.zt_cascade.proofs.OnTheWayLaws.{on_the_way-begun}
use Rattle.zt_cascade.proofs.ReleasingLaws.{covers-last, joined-looked, way-looked, looks-end}
use Rattle.zt_cascade.proofs.worklist.follow.Goals as goal

pub loop-koid-init : goal.loop-koid-init
loop-koid-init c = record {
  ahead = ahead-itself c.args.step.now;
  joined = c.requires.joined;
  covered = c.requires.covered;
  way = on_the_way-begun c.args.step.now.current;
}

pub loop-koid-preserved : goal.loop-koid-preserved
loop-koid-preserved c =
    let T = c.loop-koid.step.current in
    let U = c.look_at.new.step.current in
    let x = c.in-Some.koid in
    record {
      ahead = ahead-then c.args.step.now c.loop-koid.step c.look_at.new.step c.loop-koid.invariant.ahead c.look_at.ensures.ahead;
      joined = joined-looked T U x c.in_ok-look_at.ensures.ok c.loop-koid.invariant.joined;
      covered = c.in_ok-look_at.ensures.covered (covers-last x T c.loop-koid.list.items c.pop.new.self.items c.in-Some.ensures.items c.loop-koid.invariant.covered);
      way = way-looked c.args.step.now.current T U x c.in_ok-look_at.ensures.ok c.loop-koid.invariant.way;
    }

pub returns-clause-ok : goal.returns-clause-ok
returns-clause-ok c = looks-end c.args.step.now.current c.loop-koid.step.current c.loop-koid.list.items (sym c.loop-koid.list.ok.0 ∙ c.in_default.ensures.cases.0) c.loop-koid.invariant.covered c.loop-koid.invariant.way
