use Rattle.zt_cascade.proofs.OnTheWayLaws.{goes-newly}
use Rattle.zt_cascade.proofs.laws.what_newly_goes_was_named.Goals as goal

pub returns : goal.returns
returns c = goes-newly
