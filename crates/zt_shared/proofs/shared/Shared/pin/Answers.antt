-- What was pinned under the lock is one event of some log.
use Rattle.zt_shared.proofs.SharingLaws.{some-pinned}
use Rattle.zt_shared.proofs.shared.Shared.pin.Goals as goal

pub returns-clause-answered : goal.returns-clause-answered
returns-clause-answered g c =
    some-pinned c.pin.new.pass _ _ _ _ _ c.pin.result c.pin.ensures.who c.pin.ensures.part c.pin.ensures.logged c.pin.ensures.served c.pin.ensures.frozen
