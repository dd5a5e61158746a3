use Rattle.zt_cascade.proofs.JoinedLaws.{sound-joined, joined-without}
use Rattle.zt_cascade.proofs.laws.removal_keeps_links_joined.Goals as goal

pub returns-clause-sound : goal.returns-clause-sound
returns-clause-sound c = sound-joined

pub returns-clause-kept : goal.returns-clause-kept
returns-clause-kept c = joined-without
