-- The lines of those so far stand behind the text.
use Rattle.std.proofs.Common.{◌≡◌, ◌++◌, take}
use Rattle.std.specs.List.{flat_map}
use Rattle.zt_look.specs.Names.{masks}
use Rattle.zt_look.specs.Lines.{call_made_line}
use Rattle.zt_view.proofs.question.put_calls.Given as goal

abbrev pub invariant-loop-made : goal.invariant-loop-made
invariant-loop-made l = l.text.items ≡ l.fn.text.items ++ flat_map (call_made_line masks) (take l.made-index l.list)
