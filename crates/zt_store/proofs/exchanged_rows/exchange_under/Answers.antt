use Rattle.zt_store.proofs.SlotLaws.{distinct-pairs, pairs-record, suited-pairs}
use Rattle.zt_store.proofs.exchanged_rows.exchange_under.Goals as goal

pub exchange_each-requires-clause-distinct : goal.exchange_each-requires-clause-distinct
exchange_each-requires-clause-distinct c = distinct-pairs _ _ c.requires.recorded

pub exchange_each-requires-clause-suited : goal.exchange_each-requires-clause-suited
exchange_each-requires-clause-suited c = suited-pairs _ _ c.requires.recorded

pub returns-clause-recorded : goal.returns-clause-recorded
returns-clause-recorded c = pairs-record _ _ _ _ _ c.requires.recorded c.exchange_each.ensures.even c.exchange_each.ensures.exchanged c.exchange_each.ensures.suited
