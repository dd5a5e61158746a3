use Rattle.std.proofs.Common.{Some, None, ap, sym, ◌∙◌, set}
use Rattle.std.proofs.lemmas.List.{set-set}
use Rattle.zt_index.specs.ProofsOnly.Chains.{buckets}
use Rattle.zt_index.proofs.chains.move_to.Goals as goal

pub returns-in-Some-clause-buckets : goal.returns-in-Some-clause-buckets
returns-in-Some-clause-buckets c =
    c.insert.ensures.buckets ∙ ap (λ bs. set bs c.args.item (Some c.in-Some.bucket)) (c.remind.ensures.buckets ∙ c.remove.ensures.buckets)
    ∙ set-set (buckets c.args.links.now) c.args.item None (Some c.in-Some.bucket)
    ∙ ap (set (buckets c.args.links.now) c.args.item) (sym c.in-Some.is)
