-- The lines of the moments so far stand behind the text, each behind its note.
use Rattle.std.proofs.Common.{◌≡◌, ◌++◌, take}
use Rattle.std.specs.List.{filter_map, flat_map}
use Rattle.zt_text.specs.NotedTexts.{noted_call_line}
use Rattle.zt_console.specs.NotedPaths.{numbered_call}
use Rattle.zt_console.proofs.noted_text.put_calls.Given as goal

abbrev pub invariant-loop-moment : goal.invariant-loop-moment
invariant-loop-moment l =
    l.text.items ≡ l.fn.text.items ++ flat_map (noted_call_line l.notes) (filter_map (numbered_call l.history.tree.made) (take l.moment-index l.way))
