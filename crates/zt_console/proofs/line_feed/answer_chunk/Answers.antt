-- What waits behind the chunk is written.
use Rattle.zt_console.proofs.LineFeedLaws.{chunk_sent, fed_failed}
use Rattle.zt_console.proofs.line_feed.answer_chunk.Goals as goal

pub returns-in-Ok-clause-fed : goal.returns-in-Ok-clause-fed
returns-in-Ok-clause-fed g c =
    chunk_sent g.D.Responder.asks c.args.client.now c.feed.new.client c.args.part.now c.feed.new.part c.args.bytes.now c.args.waiting.now.items c.feed.new.waiting.items _ _ _ _ c.in-Ok.ensures.fed c.send.ensures.written

pub returns-in-Err-clause-fed : goal.returns-in-Err-clause-fed
returns-in-Err-clause-fed g c =
    fed_failed g.D.Responder.asks c.args.client.now c.feed.new.client c.args.part.now c.feed.new.part c.args.bytes.now c.args.waiting.now.items c.feed.new.waiting.items _ _ _ c.in-Err.ensures.fed
