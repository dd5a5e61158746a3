-- What a write took is written, and the others are left.
use Rattle.std.proofs.Common.{◌∙◌, length}
use Rattle.zt_console.proofs.ConversationLaws.{write_more, no_failure}
use Rattle.zt_console.proofs.line_feed.write_text.Goals as goal

pub loop-rest-preserved : goal.loop-rest-preserved
loop-rest-preserved g c = record {
  so_far = write_more c.args.text.now c.loop-rest.rest.now c.split_at.result.1.now c.in-Ok.count _ _ _ c.loop-rest.invariant.so_far c.in-Ok.ensures.bytes c.split_at.ensures.back;
  count = no_failure c.in-Ok.count (length c.loop-rest.rest.now) c.loop-rest.writer.1 c.write.new.self.1 c.if-count-gt0.true c.in-Ok.ensures.counts ∙ c.loop-rest.invariant.count;
}
