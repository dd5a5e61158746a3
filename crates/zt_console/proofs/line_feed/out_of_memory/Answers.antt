-- What is written is written, whether or not that is all.
use Rattle.zt_console.proofs.ConversationLaws.{written_short}
use Rattle.zt_console.proofs.line_feed.out_of_memory.Goals as goal

pub returns-in-Ok-clause-written : goal.returns-in-Ok-clause-written
returns-in-Ok-clause-written g c = written_short _ _ _ _ c.in-Ok.ensures.written
