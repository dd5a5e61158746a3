use Rattle.std.proofs.Common.{◌∙◌, ap}
use Rattle.zt_store.proofs.Exchanges.{keys_of}
use Rattle.zt_store.proofs.RecordLaws.{listed-record}
use Rattle.zt_store.proofs.record.Record.keys.Goals as goal

pub returns : goal.returns
returns c = c.keys.ensures ∙ listed-record _ _ c.self.invariant.recorded ∙ ap keys_of c.self.view_is
