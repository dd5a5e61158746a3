use Rattle.std.proofs.Common.{◌<◌, ℕ, Bool, false, Some, Option, length, sym, subst}
use Rattle.std.specs.Prelude.{IsTrue}
use Rattle.zt_index.specs.Chains.{IsNext}
use Rattle.zt_index.specs.ProofsOnly.Chains.{IsBesides, buckets, is_in}
use Rattle.zt_index.proofs.ChainLaws.{above-shorter, besides-more, room_above}
use Rattle.zt_index.proofs.chains.after.Goals as goal

pub items-smaller : goal.items-smaller
items-smaller c =
    let q : ℕ → Bool = is_in (buckets c.args.links.now) c.args.bucket in
    let inv : IsBesides q c.args.low (Some c.in-Some.item) = subst (IsBesides q c.args.low) c.in-Some.is c.items.invariant in
    let next : IsNext q (Some c.in-Some.item) c.next_of-found.result = subst (IsNext q (Some c.in-Some.item)) (sym c.next_of-found.ensures) (c.requires.nexts c.args.bucket (Some c.in-Some.item) inv.0) in
    let size : ℕ = length (buckets c.args.links.now) in
    subst (λ (f : Option ℕ). room_above size c.next_of-found.result < room_above size f) (sym c.in-Some.is)
    (above-shorter (buckets c.args.links.now) c.args.bucket c.in-Some.item c.next_of-found.result inv.0 next)

pub items-preserved : goal.items-preserved
items-preserved c =
    let q : ℕ → Bool = is_in (buckets c.args.links.now) c.args.bucket in
    let inv : IsBesides q c.args.low (Some c.in-Some.item) = subst (IsBesides q c.args.low) c.in-Some.is c.items.invariant in
    let next : IsNext q (Some c.in-Some.item) c.next_of-found.result = subst (IsNext q (Some c.in-Some.item)) (sym c.next_of-found.ensures) (c.requires.nexts c.args.bucket (Some c.in-Some.item) inv.0) in
    besides-more q c.args.low c.in-Some.item c.next_of-found.result inv
    (λ h. let t : IsTrue false = subst IsTrue c.if-is_behind.false (c.is_behind.ensures.1 h) in cc)
    next
