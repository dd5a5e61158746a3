use Rattle.std.proofs.Common.{◌<◌, ℕ, Bool, Option, sym, subst}
use Rattle.zt_index.specs.Chains.{IsBehind, IsNext, IsShortOf}
use Rattle.zt_index.specs.ProofsOnly.Chains.{IsItemOf, buckets, is_in}
use Rattle.zt_index.proofs.ChainLaws.{between-previous}
use Rattle.zt_index.proofs.chains.hinted.Goals as goal

pub returns-then-is_short_of-clause-before : goal.returns-then-is_short_of-clause-before
returns-then-is_short_of-clause-before c =
    let q : ℕ → Bool = is_in (buckets c.args.links.now) c.args.bucket in
    let before : Option ℕ = c.get-before.result in
    let within : IsItemOf q before = c.is_item_of.ensures.0 c.if-not-is_item_of.false in
    let behind : IsBehind (λ a b. a < b) before c.args.item = c.is_behind.ensures.0 c.if-not-is_behind.false in
    let short : IsShortOf (λ a b. a < b) c.next_of-next.result c.args.item = c.is_short_of.ensures.0 c.if-is_short_of.true in
    between-previous q before c.next_of-next.result c.args.item within behind short
    (subst (IsNext q before) (sym c.next_of-next.ensures) (c.requires.nexts c.args.bucket before within))
