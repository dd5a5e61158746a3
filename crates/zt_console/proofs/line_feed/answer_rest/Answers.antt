-- Nothing behind the last line feed is no line, and anything is one.
use Rattle.zt_console.proofs.LineFeedLaws.{rest_none, rest_sent, rest_unprinted}
use Rattle.zt_console.proofs.line_feed.answer_rest.Goals as goal

pub returns-then-is_empty-clause-passed : goal.returns-then-is_empty-clause-passed
returns-then-is_empty-clause-passed g c =
    rest_none g.D.Responder.asks c.args.client.now c.args.part.now c.args.waiting.now.items _ _ _ c.is_empty.result (rw c.bytes-line.ensures.value at c.is_empty.ensures) c.if-is_empty.true c.send.ensures.written

pub returns-in-Ok-clause-passed : goal.returns-in-Ok-clause-passed
returns-in-Ok-clause-passed g c =
    rest_sent g.D.Responder.asks c.args.client.now c.answer_line.new.client c.args.part.now c.args.waiting.now.items c.answer_line.new.waiting.items _ _ _ c.is_empty.result
    (rw c.bytes-line.ensures.value at c.is_empty.ensures) c.if-is_empty.false c.bytes-line.ensures.one (rw c.bytes-line.ensures.value at c.in-Ok.ensures.put) c.send-in-Ok.ensures.written

pub returns-in-Err-clause-passed : goal.returns-in-Err-clause-passed
returns-in-Err-clause-passed g c =
    rest_unprinted g.D.Responder.asks c.args.client.now c.answer_line.new.client c.args.part.now c.args.waiting.now.items c.answer_line.new.waiting.items _ _ c.is_empty.result
    (rw c.bytes-line.ensures.value at c.is_empty.ensures) c.if-is_empty.false c.bytes-line.ensures.one (rw c.bytes-line.ensures.value at c.in-Err.ensures.put) c.out_of_memory.ensures.written
