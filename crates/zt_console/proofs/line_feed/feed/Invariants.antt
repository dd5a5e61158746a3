-- The bytes are fed up to some rest.
use Rattle.std.proofs.Common.{◌≡◌, length}
use Rattle.zt_console.proofs.LineFeedLaws.{Eaten}
use Rattle.zt_console.proofs.line_feed.feed.Given as goal

abbrev pub invariant-loop-place : goal.invariant-loop-place
invariant-loop-place g l = record {
  fed : Eaten g.D.Responder.asks l.fn.client l.client l.fn.part l.part l.fn.bytes l.rest l.fn.waiting.items l.waiting.items (g.W.Write.contents l.fn.writer.0) (g.W.Write.contents l.writer.0);
  count : l.writer.1 ≡ l.fn.writer.1;
  ready : g.D.Responder.ready l.client.responder;
}

abbrev pub decreases-loop-place : goal.decreases-loop-place
decreases-loop-place g l = length l.rest
