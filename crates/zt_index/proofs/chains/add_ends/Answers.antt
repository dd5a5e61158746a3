use Rattle.std.proofs.Common.{arith, length, ◌≤◌, ◌-◌, ◌∙◌, ap, get_or, is_ok, List, take, replicate, ◌++◌, vec_len}
use Rattle.std.specs.Prelude.{if◌then◌else◌}
use Rattle.zt_index.specs.declared.chains.BucketEnds.{BucketEnds}
use Rattle.zt_index.specs.ProofsOnly.Chains.{no_ends}
use Rattle.zt_index.proofs.ChainLaws.{resized-if}
use Rattle.zt_index.proofs.chains.add_ends.Goals as goal

pub returns-clause-same : goal.returns-clause-same
returns-clause-same c = λ k.
    let few : length c.args.ends.now.items ≤ 8192 = omega arith in
    let made : List BucketEnds → List BucketEnds = λ added. if is_ok c.resize.result then (take 8192 c.args.ends.now.items ++ added) else c.args.ends.now.items in
    ap (λ (xs : List BucketEnds). get_or xs k no_ends) (c.resize.ensures.items ∙ ap (λ d. made (replicate (8192 - vec_len c.args.ends.now) d)) c.unlinked.ensures) ∙ resized-if (is_ok c.resize.result) c.args.ends.now.items 8192 (8192 - vec_len c.args.ends.now) k no_ends few
