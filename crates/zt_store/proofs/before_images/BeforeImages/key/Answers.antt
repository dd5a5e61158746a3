use Rattle.std.proofs.Common.{◌<◌, length, sym, ap, ◌∙◌, arith}
use Rattle.std.proofs.lemmas.List.{get_or_default}
use Rattle.zt_store.specs.ProofsOnly.ChangedRows.{first_at, no_first}
use Rattle.zt_store.proofs.BeforeImageLaws.{first-key, length-firsts}
use Rattle.zt_store.proofs.before_images.BeforeImages.key.Goals as goal

pub index-requires : goal.index-requires
index-requires c = omega (arith, c.requires, ap (λ f. length f.rows) c.self.view_is, length-firsts _ _ c.self.invariant, c.self.inside.keys.ok)

within : (c : goal.After-result-1) → c.args.place < length c.self.inside.keys.items
within c = omega (arith, c.requires, ap (λ f. length f.rows) c.self.view_is, length-firsts _ _ c.self.invariant)

pub returns : goal.returns
returns c =
    c.index.ensures ∙ get_or_default c.self.inside.keys.items c.args.place c.index.result.now no_first.0 (within c)
    ∙ sym (first-key c.self.inside.keys.items c.self.inside.rows.items c.args.place c.self.invariant) ∙ ap (λ f. (first_at f.rows c.args.place).0) c.self.view_is
