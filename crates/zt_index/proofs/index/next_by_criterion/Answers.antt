use Rattle.zt_index.specs.ProofsOnly.Chains.{is_in}
use Rattle.zt_index.specs.ProofsOnly.IndexInvariant.{meets_criterion}
use Rattle.zt_index.proofs.IndexLaws.{none-bare}
use Rattle.zt_index.proofs.index.next_by_criterion.Goals as goal

pub returns-then-is_empty_bucket : goal.returns-then-is_empty_bucket
returns-then-is_empty_bucket c =
    none-bare (meets_criterion c.args.cells.now.state c.args.criterion) (is_in c.args.chain.now c.args.bucket) c.args.low c.requires (c.is_empty_bucket.ensures c.if-is_empty_bucket.true)
