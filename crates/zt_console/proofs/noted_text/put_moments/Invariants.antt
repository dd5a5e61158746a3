-- The lines of the moments so far stand behind the text, each behind its note.
use Rattle.std.proofs.Common.{◌≡◌, ◌++◌, map, take}
use Rattle.zt_book.specs.SavedSessions.{saved_call}
use Rattle.zt_text.specs.NotedTexts.{noted_lines}
use Rattle.zt_console.proofs.noted_text.put_moments.Given as goal

abbrev pub invariant-loop-number : goal.invariant-loop-number
invariant-loop-number l =
    l.text.items ≡ l.fn.text.items ++ noted_lines l.notes 1 (map saved_call (take l.number l.history.tree.made))
