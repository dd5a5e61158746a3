use Rattle.zt_store.proofs.AlikeStores.{store-either}
use Rattle.zt_store.proofs.store.Store.exchange_alike.Goals as goal

pub invariant_of-self : goal.invariant_of-self
invariant_of-self c =
    store-either c.self.inside.cells c.exchange_alike.new.self c.self.inside.support_counts c.self.inside.packet_counts c.args.koid _ _ c.self.inside.index c.exchange_alike.result c.exchange_alike.ensures.done c.exchange_alike.ensures.same c.self.invariant
