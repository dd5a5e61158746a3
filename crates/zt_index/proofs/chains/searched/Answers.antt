use Rattle.std.proofs.Common.{◌<◌, ℕ, Bool, Some, Option, sym, ◌∙◌, subst}
use Rattle.zt_index.specs.ProofsOnly.Chains.{IsPrevious, buckets, is_in}
use Rattle.zt_index.proofs.ChainLaws.{below-shorter, room_below}
use Rattle.zt_index.proofs.chains.searched.Goals as goal

pub items-smaller : goal.items-smaller
items-smaller c =
    let q : ℕ → Bool = is_in (buckets c.args.links.now) c.args.bucket in
    let found : IsPrevious q c.items.next (Some c.in-Some.found) = subst (IsPrevious q c.items.next) (sym c.items.invariant.linked ∙ c.in-Some.is) (c.requires.chained.befores c.args.bucket c.items.next c.items.invariant.within) in
    let before : IsPrevious q (Some c.in-Some.found) c.before_of-before-in-Some.result = subst (IsPrevious q (Some c.in-Some.found)) (sym c.before_of-before-in-Some.ensures) (c.requires.chained.befores c.args.bucket (Some c.in-Some.found) found.0.1) in
    subst (λ (f : Option ℕ). room_below c.before_of-before-in-Some.result < room_below f) (sym c.in-Some.is)
    (below-shorter q c.in-Some.found c.before_of-before-in-Some.result before)
