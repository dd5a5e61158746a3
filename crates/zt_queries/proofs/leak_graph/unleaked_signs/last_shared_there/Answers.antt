-- Back from the fork as long as the object is not there.
use Rattle.std.proofs.Common.{◌<◌, ◌+◌, arith}
use Rattle.std.specs.Option.{option_copied}
use Rattle.zt_rows.specs.declared.keys.RowKey.TheVariants as key
use Rattle.zt_queries.proofs.FirstLeakLaws.{gone-down, sure-here}
use Rattle.zt_queries.proofs.WayLaws.{back-down}
use Rattle.zt_queries.proofs.leak_graph.unleaked_signs.last_shared_there.Goals as goal

pub loop-place-preserved : goal.loop-place-preserved
loop-place-preserved c = record {
  stands =
      back-down c.args.history.now c.args.ways.now.way.items c.args.ways.now.here.items c.args.ways.now.shared c.requires.ways (key.Object c.args.koid) c.loop-place.place c.index.result.now
      (option_copied c.loop-place.row) (option_copied c.row_over-row.result) (omega (arith, c.loop-place-test.true))
      (omega (arith, c.loop-place.invariant.low, c.requires.ways.fork.in_here)) c.index.ensures c.loop-place.invariant.stands c.row_over-row.ensures;
  gone = λ j l m.
      let up : c.loop-place.place < j + 1 = omega (arith, l, c.loop-place-test.true) in
      gone-down c.args.history.now c.args.ways.now.way.items c.args.ways.now.here.items c.args.ways.now.shared c.requires.ways c.args.koid c.loop-place.place j
      (option_copied c.loop-place.row) c.is_there.result c.loop-place.invariant.low c.loop-place.invariant.stands c.is_there.ensures c.if-not-is_there.true
      (λ above. c.loop-place.invariant.gone j above m) up;
  low = omega (arith, c.loop-place.invariant.low);
}

pub returns-clause-sure : goal.returns-clause-sure
returns-clause-sure c = λ t.
    sure-here c.args.history.now c.args.ways.now.way.items c.args.ways.now.here.items c.args.ways.now.shared c.requires.ways c.args.koid c.loop-place.place
    (option_copied c.loop-place.row) c.is_sure.result c.loop-place.invariant.low c.loop-place.invariant.stands c.is_sure.ensures t
