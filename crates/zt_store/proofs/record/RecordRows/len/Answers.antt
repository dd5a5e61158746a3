use Rattle.std.proofs.Common.{ap, length, sym, ◌∙◌}
use Rattle.zt_store.proofs.SlotLaws.{length-pairs}
use Rattle.zt_store.proofs.record.RecordRows.len.Goals as goal

pub returns : goal.returns
returns c = sym (length-pairs _ _ c.self.invariant.even) ∙ ap length c.self.view_is
