-- One client more.
use Rattle.std.proofs.Common.{ℕ, ap}
use Rattle.served_trials.proofs.ClientLaws.{caller_more, countable_more}
use Rattle.served_trials.proofs.served_clients.callers.Goals as goal

pub loop-pass-preserved : goal.loop-pass-preserved
loop-pass-preserved g c = record {
  passes = caller_more c.loop-pass.callers.items c.push.new.self.items (c.new-reader.result, c.new-writer.result, c.in-Some.pass) _ c.in-Ok.ensures.items c.loop-pass.invariant.passes;
  counts = countable_more c.loop-pass.callers.items c.push.new.self.items (c.new-reader.result, c.new-writer.result, c.in-Some.pass) c.in-Ok.ensures.items
      (ap (λ (x : _ × ℕ). x.1) c.new-reader.ensures, ap (λ (x : _ × ℕ). x.1) c.new-writer.ensures) c.loop-pass.invariant.counts;
}
