-- What was read so far is answered, nothing waits, and nothing failed.
use Rattle.std.proofs.Common.{◌≡◌, [], length}
use Rattle.zt_console.specs.ProofsOnly.LineFeed.{HasRead}
use Rattle.zt_console.proofs.run_loop.answer_chunks.Given as goal

abbrev pub invariant-loop : goal.invariant-loop
invariant-loop g l = record {
  room : length l.chunk.items ≡ 65536;
  empty : l.waiting.items ≡ [];
  reads : l.reader.1 ≡ l.fn.reader.1;
  writes : l.writer.1 ≡ l.fn.writer.1;
  ready : g.D.Responder.ready l.client.responder;
  read : HasRead g.D.Responder.asks l.fn.client l.client l.part (g.R.Read.remaining l.fn.reader.0) (g.R.Read.remaining l.reader.0) (g.W.Write.contents l.fn.writer.0) (g.W.Write.contents l.writer.0) l.counter;
}
