use Rattle.zt_store.proofs.TouchedIndexLaws.{chained-more}
use Rattle.zt_store.proofs.touched_index.chain.Goals as goal

pub returns : goal.returns
returns c = λ keys there is.
    chained-more c.args.last.now c.args.links.now keys c.args.place c.bucket-bucket.result c.mixed-mixed.result c.args.key.now c.mixed-mixed.ensures
    (c.bucket-bucket.ensures.bucket c.args.key.now c.mixed-mixed.ensures) c.bucket-bucket.ensures.below c.requires.place there is
