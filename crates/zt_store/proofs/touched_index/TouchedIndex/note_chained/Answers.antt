use Rattle.std.proofs.Common.{length, ap, ◌∙◌}
use Rattle.zt_store.proofs.TouchedIndexLaws.{chained-push, chained-written}
use Rattle.zt_store.proofs.touched_index.TouchedIndex.note_chained.Goals as goal

pub returns-clause-ok : goal.returns-clause-ok
returns-clause-ok c = record {
  chained = λ some.
      chained-written c.make_buckets.new.self.last c.push.new.self c.chain.new.last c.chain.new.links _ (c.chain.auto.last ∙ ap length c.as_mut_slice.ensures.value)
      (c.chain.auto.links ∙ ap length c.as_mut_slice-2.ensures.value)
      (chained-push c.args.keys.now c.args.key.now c.make_buckets.new.self.last.items c.as_mut_slice.result.now c.chain.new.last _ c.make_buckets.new.self.links.items c.push.new.self.items
      c.as_mut_slice-2.result.now c.chain.new.links c.in_ok-make_buckets.ensures.ok c.in_ok-push.ensures.items
      c.as_mut_slice.ensures.value c.as_mut_slice-2.ensures.value c.chain.auto.links c.chain.ensures);
}
