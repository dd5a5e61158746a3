-- One connection more.
use Rattle.zxtt.proofs.ClientLaws.{caller_more, countable_more}
use Rattle.zxtt.proofs.service.accept_all.Goals as goal

pub loop-pass-preserved : goal.loop-pass-preserved
loop-pass-preserved g c = record {
  passes = caller_more c.loop-pass.callers.items c.push.new.self.items (c.in_ok-reader.reader, c.in_ok-reader.writer, c.in-Some.pass) _ c.in-Ok.ensures.items c.loop-pass.invariant.passes;
  counts = countable_more c.loop-pass.callers.items c.push.new.self.items (c.in_ok-reader.reader, c.in_ok-reader.writer, c.in-Some.pass) c.in-Ok.ensures.items c.in_ok-reader.ensures c.loop-pass.invariant.counts;
}
