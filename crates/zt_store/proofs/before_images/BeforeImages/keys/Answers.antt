use Rattle.std.proofs.Common.{sym, ap, ◌∙◌}
use Rattle.std.proofs.lemmas.Slice.Zip.{firsts-zip}
use Rattle.zt_store.proofs.SlotLaws.{slot_keys}
use Rattle.zt_store.proofs.before_images.BeforeImages.keys.Goals as goal

pub returns : goal.returns
returns c = c.as_slice.ensures.value ∙ sym (firsts-zip _ _ c.self.invariant) ∙ ap (λ f. slot_keys f.rows) c.self.view_is
