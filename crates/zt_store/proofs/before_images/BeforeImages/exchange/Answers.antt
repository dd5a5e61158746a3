use Rattle.std.proofs.Common.{◌<◌, length, set, ap, ◌∙◌, arith}
use Rattle.std.specs.List.{zip}
use Rattle.std.proofs.lemmas.List.{get_or_default}
use Rattle.zt_store.specs.ProofsOnly.ChangedRows.{first_at, no_first}
use Rattle.zt_store.proofs.BeforeImageLaws.{first-pair, firsts-set, length-firsts}
use Rattle.zt_store.proofs.before_images.BeforeImages.exchange.Goals as goal

pub index_mut-requires : goal.index_mut-requires
index_mut-requires c = omega (arith, c.requires, ap (λ f. length f.rows) c.self.view_is, length-firsts _ _ c.self.invariant, c.self.invariant, c.self.inside.rows.ok)

pub index-requires : goal.index-requires
index-requires c = omega (arith, c.requires, ap (λ f. length f.rows) c.self.view_is, length-firsts _ _ c.self.invariant, c.self.inside.keys.ok)

within : (c : goal.After-result-1) → c.args.place < length c.self.inside.keys.items
within c = omega (arith, c.requires, ap (λ f. length f.rows) c.self.view_is, length-firsts _ _ c.self.invariant)

pub returns-clause-was : goal.returns-clause-was
returns-clause-was c =
    (λ j. (
      (c.index.ensures ∙ get_or_default c.self.inside.keys.items c.args.place c.index.result.now no_first.0 (within c)) j,
      (c.swap.ensures.y_after ∙ c.index_mut.ensures.value ∙ get_or_default c.self.inside.rows.items c.args.place c.index_mut.result.now no_first.1 (omega (arith, within c, c.self.invariant))) j,
    ))
    ∙ first-pair c.self.inside.keys.items c.self.inside.rows.items c.args.place c.self.invariant ∙ ap (λ f. first_at f.rows c.args.place) c.self.view_is

pub returns-clause-put : goal.returns-clause-put
returns-clause-put c =
    ap (λ x. zip c.self.inside.keys.items (set c.self.inside.rows.items c.args.place x)) c.swap.ensures.x_after
    ∙ firsts-set c.self.inside.keys.items c.self.inside.rows.items c.args.place c.index.result.now c.args.row.now (within c) c.index.ensures
    ∙ ap (λ f. set f.rows c.args.place (c.index.result.now, c.args.row.now)) c.self.view_is
