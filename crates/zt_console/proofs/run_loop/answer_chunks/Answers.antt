-- What was read and answered so far goes on with each chunk, to the end or to where it stops.
use Rattle.std.proofs.Common.{◌<◌, ◌∙◌, Err, refl, arith, length}
use Rattle.zt_console.proofs.LineFeedLaws.{read_none, read_chunk, talked_nothing, talked_read, talked_fed, talked_all, cause_counted, cause_reads, if_ok}
use Rattle.zt_console.proofs.run_loop.answer_chunks.Goals as goal

pub returns-in_default-clause-talk : goal.returns-in_default-clause-talk
returns-in_default-clause-talk g c = talked_nothing g.D.Responder.asks c.args.client.now _ _ c.requires.fresh

pub loop-init : goal.loop-init
loop-init g c = record {
  room = c.in-Ok.ensures;
  empty = c.new-waiting.ensures.items;
  reads = refl;
  writes = refl;
  ready = c.requires.ready;
  read = read_none g.D.Responder.asks c.args.client.now c.new-part.result _ _ c.new-part.ensures;
}

pub returns-in_default-read_some-clause-talk : goal.returns-in_default-read_some-clause-talk
returns-in_default-read_some-clause-talk g c = talked_read g.D.Responder.asks c.args.client.now c.loop.client c.loop.part _ _ _ _ c.loop.counter c.requires.fresh c.loop.invariant.read

pub returns-then-count-eq0-clause-talk : goal.returns-then-count-eq0-clause-talk
returns-then-count-eq0-clause-talk g c =
    let some : 0 < length c.read_some.new.bytes.items = omega (arith, c.loop.invariant.room, c.read_some.ensures.room) in
    talked_all g.D.Responder.asks c.args.client.now c.loop.client c.answer_rest.new.client c.loop.part c.read_some.new.bytes.items _ _ _ _ _ _ c.loop.counter c.in-Ok-read_some.count _
    c.requires.fresh c.loop.invariant.read c.if-count-eq0.true c.in-Ok-read_some.ensures.ok.consumed (c.in-Ok-read_some.ensures.ok.ended c.if-count-eq0.true some)
    (rw c.loop.invariant.empty at c.answer_rest.ensures.passed)

pub returns-then-count-eq0-clause-end : goal.returns-then-count-eq0-clause-end
returns-then-count-eq0-clause-end g c =
    let some : 0 < length c.read_some.new.bytes.items = omega (arith, c.loop.invariant.room, c.read_some.ensures.room) in
    if_ok c.answer_rest.result _ (c.in-Ok-read_some.ensures.ok.ended c.if-count-eq0.true some)

pub returns-then-count-eq0-clause-cause : goal.returns-then-count-eq0-clause-cause
returns-then-count-eq0-clause-cause g c =
    cause_counted _ _ _ _ c.loop.writer.1 _ c.answer_rest.result (c.in-Ok-read_some.ensures.same ∙ c.loop.invariant.reads) c.loop.invariant.writes c.answer_rest.ensures.counted

pub returns-in-Err-clause-talk : goal.returns-in-Err-clause-talk
returns-in-Err-clause-talk g c =
    talked_fed g.D.Responder.asks c.args.client.now c.loop.client c.answer_chunk.new.client c.loop.part c.answer_chunk.new.part c.split_at.result.0.now c.read_some.new.bytes.items _ _ _ _ _ _ c.in-Ok-read_some.count c.loop.counter
    c.requires.fresh c.loop.invariant.read c.in-Ok-read_some.ensures.ok.consumed (rw c.as_slice.ensures.value at c.split_at.ensures.front) (rw c.loop.invariant.empty at c.in-Err.ensures.fed)

pub returns-in-Err-clause-cause : goal.returns-in-Err-clause-cause
returns-in-Err-clause-cause g c =
    cause_counted (g.R.Read.remaining c.args.reader.now.0) c.args.reader.now.1 c.read_some.new.reader.1 c.args.writer.now.1 c.loop.writer.1 c.answer_chunk.new.writer.1 (Err c.in-Err.refusal)
    (c.in-Ok-read_some.ensures.same ∙ c.loop.invariant.reads) c.loop.invariant.writes c.in-Err.ensures.counted

pub loop-preserved : goal.loop-preserved
loop-preserved g c = record {
  room = c.read_some.ensures.room ∙ c.loop.invariant.room;
  empty = c.in-Ok-answer_chunk.ensures.empty;
  reads = c.in-Ok-read_some.ensures.same ∙ c.loop.invariant.reads;
  writes = c.in-Ok-answer_chunk.ensures.counted ∙ c.loop.invariant.writes;
  ready = c.answer_chunk.ensures.ready;
  read = read_chunk g.D.Responder.asks c.args.client.now c.loop.client c.answer_chunk.new.client c.loop.part c.answer_chunk.new.part c.split_at.result.0.now c.read_some.new.bytes.items _ _ _ _ _ _ c.in-Ok-read_some.count c.loop.counter
      c.loop.invariant.read c.in-Ok-read_some.ensures.ok.consumed (rw c.as_slice.ensures.value at c.split_at.ensures.front) c.if-count-eq0.false c.in-Ok-read_some.ensures.ok.within
      (rw c.loop.invariant.empty at c.in-Ok-answer_chunk.ensures.fed);
}

pub returns-clause-talk : goal.returns-clause-talk
returns-clause-talk g c = talked_read g.D.Responder.asks c.args.client.now c.loop.client c.loop.part _ _ _ _ c.loop.counter c.requires.fresh c.loop.invariant.read

pub returns-clause-cause : goal.returns-clause-cause
returns-clause-cause g c =
    cause_reads g.D.Responder.asks c.args.client.now c.loop.client c.loop.part _ _ _ _ c.loop.counter _ _ _ _ c.loop.invariant.read c.loop-test.false c.loop.invariant.writes
