use Rattle.std.proofs.Common.{◌<◌, ℕ, Bool, cond, Some, Option, List, length, set, ap, ◌∙◌, arith, get_or-set_same}
use Rattle.std.proofs.lemmas.List.{map-set}
use Rattle.zt_index.specs.declared.chains.BucketLink.{BucketLink}
use Rattle.zt_index.specs.ProofsOnly.Chains.{buckets, before_of, next_of, is_in, is_slot, no_link}
use Rattle.zt_index.proofs.ChainLaws.{inserted, lengths-same, next-other, before-other, not-slot-before, not-slot-next}
use Rattle.zt_index.proofs.chains.insert.Goals as goal

pub returns-clause-chained : goal.returns-clause-chained
returns-clause-chained c =
    let L : List BucketLink = c.args.links.now in
    let n : ℕ = c.args.item in
    let b : ℕ = c.args.bucket in
    let before : Option ℕ = c.around-before.result.0 in
    let found : Option ℕ = c.around-before.result.1 in
    let number : Option ℕ = c.some-number.result in
    let link : BucketLink = record { bucket = c.some.result; before = c.of.result; next = c.of-2.result } in
    let q : ℕ → Bool = is_in (buckets L) b in
    let lt : n < length (buckets L) = omega (arith, lengths-same L, c.requires.item) in
    inserted L c.set_before.new.links c.args.ends.now c.set_before.new.ends n b before found c.requires.chained lt c.requires.free c.around-before.ensures.before c.around-before.ensures.next
    (c.set_before.ensures.nexts b (Some n) ∙ c.set_next.ensures.nexts b (Some n)
    ∙ ap (λ t. cond t number (next_of (set L n link) c.args.ends.now b (Some n))) (not-slot-before q b n before c.around-before.ensures.before)
    ∙ ap (λ (x : BucketLink). x.next) (get_or-set_same L n link no_link c.requires.item) ∙ c.of-2.ensures)
    (c.set_before.ensures.befores b (Some n)
    ∙ ap (λ t. cond t number (before_of c.set_next.new.links c.set_next.new.ends b (Some n))) (not-slot-next q b n found c.around-before.ensures.next)
    ∙ c.set_next.ensures.befores b (Some n)
    ∙ ap (λ (x : BucketLink). x.before) (get_or-set_same L n link no_link c.requires.item) ∙ c.of.ensures)
    (λ d l ne. c.set_before.ensures.nexts d l ∙ c.set_next.ensures.nexts d l ∙ ap (cond (is_slot b before d l) number) (next-other L c.args.ends.now n link d l ne)
    ∙ ap (λ x. cond (is_slot b before d l) x (next_of L c.args.ends.now d l)) c.some-number.ensures)
    (λ d l ne. c.set_before.ensures.befores d l ∙ ap (cond (is_slot b found d l) number) (c.set_next.ensures.befores d l ∙ before-other L c.args.ends.now n link d l ne)
    ∙ ap (λ x. cond (is_slot b found d l) x (before_of L c.args.ends.now d l)) c.some-number.ensures)
    (c.set_before.ensures.buckets ∙ c.set_next.ensures.buckets ∙ map-set (λ (x : BucketLink). x.bucket) L n link ∙ ap (set (buckets L) n) c.some.ensures)

pub returns-clause-buckets : goal.returns-clause-buckets
returns-clause-buckets c =
    let link : BucketLink = record { bucket = c.some.result; before = c.of.result; next = c.of-2.result } in
    c.set_before.ensures.buckets ∙ c.set_next.ensures.buckets ∙ map-set (λ (x : BucketLink). x.bucket) c.args.links.now c.args.item link
    ∙ ap (set (buckets c.args.links.now) c.args.item) c.some.ensures
