-- The lines of those so far stand behind the text.
use Rattle.std.proofs.Common.{◌≡◌, ◌++◌, take}
use Rattle.std.specs.List.{flat_map}
use Rattle.zt_look.specs.Names.{masks}
use Rattle.zt_look.specs.Lines.{change_lines}
use Rattle.zt_view.proofs.question.put_changes.Given as goal

abbrev pub invariant-loop-change : goal.invariant-loop-change
invariant-loop-change l = l.text.items ≡ l.fn.text.items ++ flat_map (change_lines masks) (take l.change-index l.list)
