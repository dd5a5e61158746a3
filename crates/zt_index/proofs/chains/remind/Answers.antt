use Rattle.std.proofs.Common.{◌≡◌, None, ◌∙◌, ap, sym, get_or}
use Rattle.std.proofs.lemmas.List.{get_or_default}
use Rattle.zt_index.specs.declared.chains.BucketLink.{BucketLink}
use Rattle.zt_index.specs.ProofsOnly.Chains.{no_link}
use Rattle.zt_index.proofs.ChainLaws.{bucket-link, free-buckets, free-link, told-none}
use Rattle.zt_index.proofs.chains.remind.Goals as goal

pub returns-then-is_none-clause-chained : goal.returns-then-is_none-clause-chained
returns-then-is_none-clause-chained c = λ ends chained.
    let bare : (get_or c.args.links.now c.in-Some.behind c.index-links-behind.result).bucket ≡ None = sym c.get-then-behind-links.ensures ∙ told-none _ c.is_none.result c.is_none.ensures c.if-is_none.true in
    let free : (get_or c.args.links.now c.in-Some.behind no_link).bucket ≡ None = ap (λ (x : BucketLink). x.bucket) (get_or_default c.args.links.now c.in-Some.behind no_link _ c.if-behind-links.true) ∙ bare in
    free-link c.args.links.now ends c.in-Some.behind _ (bucket-link c.args.links.now c.in-Some.behind ∙ free)
    (ap (λ (x : BucketLink). x.bucket) (get_or_default c.args.links.now c.in-Some.behind _ no_link c.if-behind-links.true) ∙ free) chained

pub returns-then-is_none-clause-buckets : goal.returns-then-is_none-clause-buckets
returns-then-is_none-clause-buckets c =
    let bare : (get_or c.args.links.now c.in-Some.behind c.index-links-behind.result).bucket ≡ None = sym c.get-then-behind-links.ensures ∙ told-none _ c.is_none.result c.is_none.ensures c.if-is_none.true in
    let free : (get_or c.args.links.now c.in-Some.behind no_link).bucket ≡ None = ap (λ (x : BucketLink). x.bucket) (get_or_default c.args.links.now c.in-Some.behind no_link _ c.if-behind-links.true) ∙ bare in
    free-buckets c.args.links.now c.in-Some.behind _ (bucket-link c.args.links.now c.in-Some.behind ∙ free)
    (ap (λ (x : BucketLink). x.bucket) (get_or_default c.args.links.now c.in-Some.behind _ no_link c.if-behind-links.true) ∙ free)
