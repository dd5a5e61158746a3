use Rattle.std.proofs.Common.{◌≡◌, ◌<◌, ℕ, cond, Option, Some, None, List, length, set, refl, sym, ap, ◌∙◌, subst, arith}
use Rattle.std.specs.Prelude.{IfSome}
use Rattle.std.proofs.lemmas.List.{map-set, set-get_or}
use Rattle.zt_index.specs.declared.chains.BucketLink.{BucketLink}
use Rattle.zt_index.specs.Chains.{bucket_at}
use Rattle.zt_index.specs.ProofsOnly.Chains.{buckets, before_of, next_of, is_slot}
use Rattle.zt_index.proofs.ChainLaws.{removed, bucket-read, before-read, next-read, lengths-same, in-own, ends-there, before-there, next-there, next-other, before-other, none_left}
use Rattle.zt_index.proofs.chains.remove.Goals as goal

pub returns-in_default-clause-buckets : goal.returns-in_default-clause-buckets
returns-in_default-clause-buckets c =
    let at : bucket_at (buckets c.args.links.now) c.args.item ≡ None = bucket-read c.args.links.now c.args.item _ _ c.requires.item c.index-links-item.is c.get.ensures ∙ none_left _ (λ n e. c.in_default.not-Some n e) in
    sym (ap (set (buckets c.args.links.now) c.args.item) (sym at) ∙ set-get_or (buckets c.args.links.now) c.args.item None)

pub set_next-requires-clause-low : goal.set_next-requires-clause-low
set_next-requires-clause-low c =
    let L : List BucketLink = c.args.links.now in
    let n : ℕ = c.args.item in
    let at : bucket_at (buckets L) n ≡ Some c.in-Some.bucket = bucket-read L n _ _ c.requires.item c.index-links-item.is c.get.ensures ∙ c.in-Some.is in
    subst (λ (p : Option ℕ). IfSome p (λ m. m < length L)) (sym (before-read L n _ c.get-2.result c.requires.item c.index-links-item.is c.get-2.ensures))
    (before-there L c.in-Some.bucket (Some n) _ (c.requires.chained.befores c.in-Some.bucket (Some n) (in-own _ n c.in-Some.bucket at)))

pub set_next-requires-clause-bucket : goal.set_next-requires-clause-bucket
set_next-requires-clause-bucket c =
    ends-there c.args.links.now c.args.ends.now c.args.item c.in-Some.bucket c.requires.chained
    (bucket-read c.args.links.now c.args.item _ _ c.requires.item c.index-links-item.is c.get.ensures ∙ c.in-Some.is)

pub set_before-requires-clause-high : goal.set_before-requires-clause-high
set_before-requires-clause-high c =
    let L : List BucketLink = c.args.links.now in
    let n : ℕ = c.args.item in
    let at : bucket_at (buckets L) n ≡ Some c.in-Some.bucket = bucket-read L n _ _ c.requires.item c.index-links-item.is c.get.ensures ∙ c.in-Some.is in
    subst (λ len. IfSome c.get-3.result (λ m. m < len)) (sym c.set_next.ensures.links)
    (subst (λ (p : Option ℕ). IfSome p (λ m. m < length L)) (sym (next-read L n _ c.get-3.result c.requires.item c.index-links-item.is c.get-3.ensures))
    (next-there L c.in-Some.bucket (Some n) _ (c.requires.chained.nexts c.in-Some.bucket (Some n) (in-own _ n c.in-Some.bucket at))))

pub set_before-requires-clause-bucket : goal.set_before-requires-clause-bucket
set_before-requires-clause-bucket c =
    subst (λ n. c.in-Some.bucket < n) (sym c.set_next.ensures.ends)
    (ends-there c.args.links.now c.args.ends.now c.args.item c.in-Some.bucket c.requires.chained
    (bucket-read c.args.links.now c.args.item _ _ c.requires.item c.index-links-item.is c.get.ensures ∙ c.in-Some.is))

pub returns-clause-chained : goal.returns-clause-chained
returns-clause-chained c =
    let L : List BucketLink = c.args.links.now in
    let n : ℕ = c.args.item in
    let b : ℕ = c.in-Some.bucket in
    let link : BucketLink = c.index-links-item.result in
    let kept : BucketLink = record { bucket = c.none.result; before = link.before; next = link.next } in
    let at : bucket_at (buckets L) n ≡ Some b = bucket-read L n _ _ c.requires.item c.index-links-item.is c.get.ensures ∙ c.in-Some.is in
    let lt : n < length (buckets L) = omega (arith, lengths-same L, c.requires.item) in
    removed L (set c.set_before.new.links n kept) c.args.ends.now c.set_before.new.ends n b link.before link.next c.requires.chained lt at
    (before-read L n link link.before c.requires.item c.index-links-item.is refl)
    (next-read L n link link.next c.requires.item c.index-links-item.is refl)
    (λ d l ne. next-other c.set_before.new.links c.set_before.new.ends n kept d l ne ∙ c.set_before.ensures.nexts d l ∙ c.set_next.ensures.nexts d l
    ∙ ap (λ p. cond (is_slot b p d l) link.next (next_of L c.args.ends.now d l)) c.get-2.ensures)
    (λ d l ne. before-other c.set_before.new.links c.set_before.new.ends n kept d l ne ∙ c.set_before.ensures.befores d l
    ∙ ap (cond (is_slot b c.get-3.result d l) link.before) (c.set_next.ensures.befores d l)
    ∙ ap (λ p. cond (is_slot b p d l) link.before (before_of L c.args.ends.now d l)) c.get-3.ensures)
    (map-set (λ (x : BucketLink). x.bucket) c.set_before.new.links n kept ∙ ap (λ bs. set bs n c.none.result) (c.set_before.ensures.buckets ∙ c.set_next.ensures.buckets)
    ∙ ap (set (buckets L) n) c.none.ensures)

pub returns-clause-buckets : goal.returns-clause-buckets
returns-clause-buckets c =
    let link : BucketLink = c.index-links-item.result in
    map-set (λ (x : BucketLink). x.bucket) c.set_before.new.links c.args.item (record { bucket = c.none.result; before = link.before; next = link.next })
    ∙ ap (λ bs. set bs c.args.item c.none.result) (c.set_before.ensures.buckets ∙ c.set_next.ensures.buckets)
    ∙ ap (set (buckets c.args.links.now) c.args.item) c.none.ensures
