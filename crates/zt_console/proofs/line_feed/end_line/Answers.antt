-- The line's text waits or is written, unless memory was refused.
use Rattle.std.proofs.Common.{◌∙◌}
use Rattle.zt_console.proofs.LineFeedLaws.{ended_sent, ended_unprinted, ended_stopped}
use Rattle.zt_console.proofs.line_feed.end_line.Goals as goal

pub returns-in_default-clause-fed : goal.returns-in_default-clause-fed
returns-in_default-clause-fed g c = ended_stopped g.D.Responder.asks c.args.client.now c.args.part.now _ _ c.args.waiting.now.items _ _ _ c.out_of_memory.ensures.written

pub returns-in-Ok-answered-clause-fed : goal.returns-in-Ok-answered-clause-fed
returns-in-Ok-answered-clause-fed g c =
    ended_sent g.D.Responder.asks c.args.client.now c.answer_line-answered.new.client c.args.part.now c.clear.new.self c.args.bytes.now c.bytes.result.now c.args.waiting.now.items c.answer_line-answered.new.waiting.items
    c.send_enough.new.waiting.items _ _ _ (c.bytes.ensures.value ∙ c.in-Ok.ensures.ok) c.in-Ok-answered.ensures.put c.send_enough.ensures.sent c.clear.ensures c.add.ensures.one c.requires.one

pub returns-in-Err-clause-fed : goal.returns-in-Err-clause-fed
returns-in-Err-clause-fed g c =
    ended_unprinted g.D.Responder.asks c.args.client.now c.answer_line-answered.new.client c.args.part.now c.clear.new.self c.args.bytes.now c.bytes.result.now c.args.waiting.now.items c.answer_line-answered.new.waiting.items
    c.out_of_memory-in-Err.new.waiting.items _ _ (c.bytes.ensures.value ∙ c.in-Ok.ensures.ok) c.in-Err.ensures.put c.out_of_memory-in-Err.ensures.written c.clear.ensures c.add.ensures.one c.requires.one
