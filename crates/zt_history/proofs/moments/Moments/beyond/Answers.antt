-- One more moment is gathered, its parent is next; in the end all of those beyond are.
use Rattle.std.proofs.Common.{◌≡◌, ◌+◌, ◌<◌, length, arith}
use Rattle.zt_history.specs.Tree.{path}
use Rattle.zt_history.proofs.NodeLaws.{gathered-step}
use Rattle.zt_history.proofs.ForkLaws.{above-early, above-shorter, gathered-beyond}
use Rattle.zt_history.proofs.moments.Moments.beyond.Goals as goal

pub depth-requires-2 : goal.depth-requires-2
depth-requires-2 c = omega (arith, c.requires.there, above-early c.args.self.now.made c.limits.ensures.falls c.args.from c.args.moment c.requires.above)

pub overflow_sub-count : goal.overflow_sub-count
overflow_sub-count c = omega (arith, c.depth.ensures, c.depth-2.ensures, above-shorter c.args.self.now.made c.args.from c.args.moment c.requires.above)

pub loop-preserved : goal.loop-preserved
loop-preserved c =
    let made = c.args.self.now.made in
    let more : c.loop.counter < length (path made c.args.moment) = omega (arith, c.loop-test.true, c.depth.ensures) in
    record {
      gathered = gathered-step made c.limits.ensures.falls c.args.moment c.loop.at c.loop.way.items c.push_reserved.new.self.items c.loop.counter c.parent-at.result c.loop.invariant.gathered more c.push_reserved.ensures.items c.parent-at.ensures;
      room = omega (arith, c.loop.invariant.room, c.push_reserved.ensures.capacity);
    }

pub returns : goal.returns
returns c =
    let whole : length (path c.args.self.now.made c.args.moment) ≡ length (path c.args.self.now.made c.args.from) + c.loop.counter =
    omega (arith, c.loop-test.false, c.loop.auto.counter-end, c.depth.ensures, c.depth-2.ensures, above-shorter c.args.self.now.made c.args.from c.args.moment c.requires.above) in
    gathered-beyond c.args.self.now.made c.limits.ensures.falls c.args.from c.args.moment c.loop.at c.loop.way.items c.loop.counter c.requires.above c.loop.invariant.gathered whole
