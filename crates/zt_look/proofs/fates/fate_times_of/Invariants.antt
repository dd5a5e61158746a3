-- So far the all_times have what the events that were gone over tell.
use Rattle.std.proofs.Common.{take}
use Rattle.zt_look.specs.ProofsOnly.FatesSoFar.{AreFateTimes}
use Rattle.zt_look.proofs.fates.fate_times_of.Given as goal

abbrev pub invariant-loop-event : goal.invariant-loop-event
invariant-loop-event l = AreFateTimes (take l.event-index l.events) l.all_times.items
