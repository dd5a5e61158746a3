-- What is read gets its text, and what is not read its refusal.
use Rattle.zt_text.specs.ReadLines.{read_as}
use Rattle.zt_console.proofs.ConversationLaws.{unread_printed}
use Rattle.zt_console.proofs.conversation.text_for.Goals as goal

pub returns-in-Ok-clause-answers : goal.returns-in-Ok-clause-answers
returns-in-Ok-clause-answers g c = rw c.in-Ok.ensures.read c.text_read.ensures.answers

pub returns-in-Err-clause-answers : goal.returns-in-Err-clause-answers
returns-in-Err-clause-answers g c =
    unread_printed g.D.Responder.asks c.args.client.now (read_as c.args.line.now) c.in-Err.refusal (λ t. t.items) c.print_refusal.result c.in-Err.ensures.refused c.print_refusal.ensures
