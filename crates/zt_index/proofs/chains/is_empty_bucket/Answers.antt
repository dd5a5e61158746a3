use Rattle.std.proofs.Common.{None, ap, not, subst, sym, ◌∙◌}
use Rattle.zt_index.specs.Chains.{IsNext}
use Rattle.zt_index.specs.ProofsOnly.Chains.{buckets, is_in}
use Rattle.zt_index.proofs.ChainLaws.{bare-by}
use Rattle.zt_index.proofs.chains.is_empty_bucket.Goals as goal

pub returns : goal.returns
returns c = λ bare.
    bare-by (is_in (buckets c.args.links.now) c.args.bucket) c.next_of.result
    (subst (IsNext (is_in (buckets c.args.links.now) c.args.bucket) None) (sym c.next_of.ensures) (c.requires.nexts c.args.bucket None tt))
    (c.is_none.ensures ∙ ap not bare)
