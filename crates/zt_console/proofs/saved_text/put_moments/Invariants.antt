-- The lines of the moments so far stand behind the text.
use Rattle.std.proofs.Common.{◌≡◌, ◌++◌, map, string_bytes, take}
use Rattle.std.specs.List.{flat_map}
use Rattle.zt_book.specs.SavedSessions.{saved_call}
use Rattle.zt_text.specs.SavedTexts.{saved_call_line}
use Rattle.zt_console.proofs.saved_text.put_moments.Given as goal

abbrev pub invariant-loop-number : goal.invariant-loop-number
invariant-loop-number l =
    string_bytes l.text ≡ string_bytes l.fn.text ++ flat_map saved_call_line (map saved_call (take l.number l.history.tree.made))
