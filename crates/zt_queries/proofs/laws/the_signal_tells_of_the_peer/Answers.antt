use Rattle.zt_queries.proofs.OnceLaws.{lacks_peer-is}
use Rattle.zt_queries.proofs.laws.the_signal_tells_of_the_peer.Goals as goal

pub returns : goal.returns
returns c = lacks_peer-is
