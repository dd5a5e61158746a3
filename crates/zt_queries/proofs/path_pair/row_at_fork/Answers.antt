-- Back from the position, each record tells the row before its call.
use Rattle.std.proofs.Common.{arith}
use Rattle.std.specs.Option.{option_copied}
use Rattle.zt_queries.proofs.WayLaws.{at-position, at-fork, back-down}
use Rattle.zt_queries.proofs.path_pair.row_at_fork.Goals as goal

pub loop-i-init : goal.loop-i-init
loop-i-init c = record {
  above = omega (arith, c.requires.fork.in_here, c.len-i.ensures, c.args.ways.now.here.ok);
  stands =
      at-position c.args.history.now c.args.ways.now.way.items c.args.ways.now.here.items c.args.ways.now.shared c.requires c.store.result.now.state c.args.key.now c.len-i.result
      (option_copied c.row-row.result) c.store.ensures.state (omega (arith, c.len-i.ensures, c.args.ways.now.here.ok)) c.row-row.ensures;
}

pub loop-i-preserved : goal.loop-i-preserved
loop-i-preserved c = record {
  above = omega (arith, c.loop-i-test.true);
  stands =
      back-down c.args.history.now c.args.ways.now.way.items c.args.ways.now.here.items c.args.ways.now.shared c.requires c.args.key.now c.loop-i.i c.index.result.now
      (option_copied c.loop-i.row) (option_copied c.row_over-row.result) (omega (arith, c.loop-i-test.true))
      (omega (arith, c.loop-i.auto.i, c.len-i.ensures, c.args.ways.now.here.ok)) c.index.ensures c.loop-i.invariant.stands c.row_over-row.ensures;
}

pub returns : goal.returns
returns c =
    at-fork c.args.history.now c.args.ways.now.way.items c.args.ways.now.here.items c.args.ways.now.shared c.requires c.args.key.now c.loop-i.i (option_copied c.loop-i.row)
    (omega (arith, c.loop-i-test.false, c.loop-i.invariant.above)) c.loop-i.invariant.stands
