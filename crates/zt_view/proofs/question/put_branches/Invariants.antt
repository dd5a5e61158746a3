-- The lines of those so far stand behind the text.
use Rattle.std.proofs.Common.{◌≡◌, ◌++◌, take}
use Rattle.std.specs.List.{flat_map}
use Rattle.zt_view.specs.Questions.{branch_text}
use Rattle.zt_view.proofs.question.put_branches.Given as goal

abbrev pub invariant-loop-branch : goal.invariant-loop-branch
invariant-loop-branch l = l.text.items ≡ l.fn.text.items ++ flat_map (branch_text l.history.tree) (take l.branch-index l.list)
