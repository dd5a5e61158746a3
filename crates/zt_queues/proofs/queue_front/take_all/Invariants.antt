use Rattle.std.proofs.Common.{◌≡◌, ◌++◌, length}
use Rattle.zt_rows.specs.Reads.{queue}
use Rattle.zt_store.specs.Places.{Keeps}
use Rattle.zt_queues.specs.QueueFront.{handles_of, without_messages}
use Rattle.zt_queues.proofs.queue_front.take_all.Given as goal

abbrev pub invariant-loop-number : goal.invariant-loop-number
invariant-loop-number l = record {
  handles : l.taken.items ++ handles_of (queue l.step.current l.endpoint) ≡ handles_of (queue l.fn.step.current l.endpoint);
  rest : without_messages l.step.current l.endpoint ≡ without_messages l.fn.step.current l.endpoint;
  beginning : l.step.beginning ≡ l.fn.step.beginning;
  kept : Keeps l.fn.step.places l.step.places;
}

abbrev pub decreases-loop-number : goal.decreases-loop-number
decreases-loop-number l = length (queue l.step.current l.endpoint)
