-- The bytes before the first line feed have none.
use Rattle.std.proofs.Common.{arith}
use Rattle.zt_console.proofs.LineFeedLaws.{feed_found, no_feed_more, no_feed_whole}
use Rattle.zt_console.proofs.line_feed.first_feed.Goals as goal

pub returns-then-byte-eq10-clause-found : goal.returns-then-byte-eq10-clause-found
returns-then-byte-eq10-clause-found c = feed_found c.args.bytes.now c.loop-place.place (omega arith) c.loop-place.invariant c.if-byte-eq10.true

pub loop-place-preserved : goal.loop-place-preserved
loop-place-preserved c = no_feed_more c.args.bytes.now c.loop-place.place (omega arith) c.loop-place.invariant c.if-byte-eq10.false

pub returns-clause-none : goal.returns-clause-none
returns-clause-none c = no_feed_whole c.args.bytes.now c.loop-place.place (omega arith) c.loop-place.invariant
