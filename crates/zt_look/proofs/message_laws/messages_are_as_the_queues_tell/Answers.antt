-- The lemma of the proofs has it.
use Rattle.zt_look.proofs.QueuedLaws.{each-queued}
use Rattle.zt_look.proofs.message_laws.messages_are_as_the_queues_tell.Goals as goal

pub returns : goal.returns
returns c = each-queued
