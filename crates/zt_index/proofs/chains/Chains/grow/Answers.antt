use Rattle.std.proofs.Common.{arith, ap, sym, ◌∙◌}
use Rattle.zt_index.specs.declared.chains.BucketLink.{BucketLink}
use Rattle.zt_index.specs.Chains.{bucket_at}
use Rattle.zt_index.proofs.ChainLaws.{bucket-link, more-links, more-ends}
use Rattle.zt_index.proofs.chains.Chains.grow.Goals as goal

pub invariant_of-self-2 : goal.invariant_of-self-2
invariant_of-self-2 c = record {
  chained = more-links c.self.inside.links.items c.make_links.new.links.items c.make_ends.new.ends.items c.make_links.ensures.same
      (more-ends c.self.inside.links.items c.self.inside.ends.items c.make_ends.new.ends.items c.make_ends.ensures.same c.self.invariant.chained);
  ended = λ some. omega (arith, c.in_ok-make_ends.ensures.made);
  few = omega (arith, c.make_links.ensures.few, c.requires);
}

pub returns-clause-same : goal.returns-clause-same
returns-clause-same c = λ n.
    bucket-link c.make_links.new.links.items n ∙ ap (λ (x : BucketLink). x.bucket) (c.make_links.ensures.same n) ∙ sym (bucket-link c.self.inside.links.items n)
    ∙ ap (λ all. bucket_at all n) c.self.view_is
