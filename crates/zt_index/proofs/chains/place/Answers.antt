use Rattle.std.proofs.Common.{sym, ◌∙◌}
use Rattle.zt_index.proofs.ChainLaws.{bucket-read, stays}
use Rattle.zt_index.proofs.chains.place.Goals as goal

pub returns-then-eq-clause-buckets : goal.returns-then-eq-clause-buckets
returns-then-eq-clause-buckets c =
    stays c.args.links.now c.args.item c.get.result c.args.bucket (bucket-read c.args.links.now c.args.item _ _ c.requires.item c.index-links-item.is c.get.ensures) (sym c.eq.ensures ∙ c.if-eq.true)
