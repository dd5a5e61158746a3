use Rattle.std.proofs.Common.{refl}
use Rattle.std.proofs.Math.Seq.{map-set_same}
use Rattle.zt_index.specs.declared.chains.BucketLink.{BucketLink}
use Rattle.zt_index.proofs.chains.set_next.Goals as goal

pub returns-in-Some-clause-buckets : goal.returns-in-Some-clause-buckets
returns-in-Some-clause-buckets c = map-set_same (λ (x : BucketLink). x.bucket) c.args.links.now c.in-Some.low _ c.index-links-low.result refl
