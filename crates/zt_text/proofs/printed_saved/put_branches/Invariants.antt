use Rattle.std.proofs.Common.{◌≡◌, ◌++◌, take}
use Rattle.std.specs.List.{flat_map}
use Rattle.zt_text.specs.SavedTexts.{branch_line}
use Rattle.zt_text.proofs.printed_saved.put_branches.Given as goal

abbrev pub invariant-loop-branch : goal.invariant-loop-branch
invariant-loop-branch l = l.text.items ≡ l.fn.text.items ++ flat_map branch_line (take l.branch-index l.branches)
