use Rattle.std.proofs.Common.{◌-◌, ap}
use Rattle.std.specs.Prelude.{bit_and}
use Rattle.zt_store.specs.ProofsOnly.TouchedIndex.{bucket_of}
use Rattle.zt_store.proofs.touched_index.bucket.Goals as goal

pub returns-clause-bucket : goal.returns-clause-bucket
unfolding bucket_of
returns-clause-bucket c = λ key mixed. ap (λ n. bit_and n (c.args.buckets - 1)) mixed
