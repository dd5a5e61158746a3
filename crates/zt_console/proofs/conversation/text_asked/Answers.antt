-- The text of the answer, or of the refusal, is printed.
use Rattle.std.proofs.Common.{Ok, Err, refl}
use Rattle.zt_console.proofs.ConversationLaws.{answered_printed}
use Rattle.zt_console.proofs.conversation.text_asked.Goals as goal

pub returns-in-Ok-clause-answered : goal.returns-in-Ok-clause-answered
returns-in-Ok-clause-answered g c =
    answered_printed g.D.Responder.asks c.args.client.now (record { responder = c.ask.new.self; pinned = c.keep.new.pinned }) c.args.request.now (Ok c.in-Ok.given) (λ t. t.items) c.printed.result
    c.in-Ok.ensures.asks c.keep.ensures c.printed.ensures

pub returns-in-Err-clause-answered : goal.returns-in-Err-clause-answered
returns-in-Err-clause-answered g c =
    answered_printed g.D.Responder.asks c.args.client.now (record { responder = c.ask.new.self; pinned = c.args.client.now.pinned }) c.args.request.now (Err c.in-Err.refusal) (λ t. t.items) c.print_refusal.result
    c.in-Err.ensures.asks refl c.print_refusal.ensures
