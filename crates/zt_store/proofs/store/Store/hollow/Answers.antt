use Rattle.zt_index.proofs.SupportCountLaws.{koid_counts-hollow, names_few-hollow}
use Rattle.zt_store.proofs.store.Store.hollow.Goals as goal

pub invariant_of-result : goal.invariant_of-result
invariant_of-result c =
    rw c.hollow.ensures
    (record { koid_counts = koid_counts-hollow c.new.result c.new.ensures; few = names_few-hollow; packets_counted = c.new-2.ensures; indexed = c.new-3.ensures })
