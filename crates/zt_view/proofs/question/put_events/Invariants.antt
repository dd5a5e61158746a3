-- The lines of those so far stand behind the text.
use Rattle.std.proofs.Common.{◌≡◌, ◌++◌, take}
use Rattle.std.specs.List.{flat_map}
use Rattle.zt_view.specs.Questions.{event_text}
use Rattle.zt_view.proofs.question.put_events.Given as goal

abbrev pub invariant-loop-event : goal.invariant-loop-event
invariant-loop-event l = l.text.items ≡ l.fn.text.items ++ flat_map (event_text l.history.tree.made) (take l.event-index l.list)
