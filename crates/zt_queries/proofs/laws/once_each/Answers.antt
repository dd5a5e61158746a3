use Rattle.zt_queries.proofs.OnceLaws.{made-once, ended-once, peer_closed-once, leaked-once}
use Rattle.zt_queries.proofs.laws.once_each.Goals as goal

pub returns-clause-made : goal.returns-clause-made
returns-clause-made c = made-once

pub returns-clause-ended : goal.returns-clause-ended
returns-clause-ended c = ended-once

pub returns-clause-peer_closed : goal.returns-clause-peer_closed
returns-clause-peer_closed c = peer_closed-once

pub returns-clause-leaked : goal.returns-clause-leaked
returns-clause-leaked c = leaked-once
